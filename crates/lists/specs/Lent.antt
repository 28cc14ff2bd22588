-- Lent slices and the lengths that are stated for them.
use Rattle.std.specs.Prelude.{Bool, true, ◌&&◌, List, [], ◌∷◌, ℕ, eqb, length}

-- whether each slice has its length
abbrev pub long : List (List ℕ × ℕ) → Bool
long [] = true
long ((s, n) ∷ others) = eqb (length s) n && long others
