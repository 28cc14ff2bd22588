-- "The positions seen are held as a set of bits".
use Rattle.std.specs.Prelude.{Bool, List, ℕ, ◌/◌, ◌%◌, ◌^◌, eqb, get_or}

-- whether j is in the set: digit j % 64 of word j / 64
unfoldable pub has : List ℕ → ℕ → Bool
has seen j = eqb (get_or seen (j / 64) 0 / 2 ^ (j % 64) % 2) 1
