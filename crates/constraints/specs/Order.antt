-- Positions that solve a key.
use Rattle.std.specs.Prelude.{◌≡◌, ℕ, ◌<◌, eqb}
use Rattle.lists.specs.Count.{count}
use Rattle.field.specs.Ring.{Ring}
use Rattle.field.specs.Sums.{sigma}
use Rattle.constraints.specs.Digits.{Instance}

-- "the positions are the numbers 0 to n - 1, each once": each number below n is exactly one of the n positions
abbrev pub Order : ℕ → (ℕ → ℕ) → Type 0
Order n position = (j : ℕ) → j < n → count n (λ i. eqb (position i) j) ≡ 1

-- "Entry i of x in that order is the entry of x that position i names; H times it is the m sums over i of H(e,i) times that entry",
-- and "H times x' must equal y": each is y(e)
abbrev pub Solves : {F : Ring} → Instance F → (ℕ → ℕ) → Type 0
Solves {F} key position = (e : ℕ) → e < key.m → sigma F key.n (λ i. F.mul (key.H e i) (key.x (position i))) ≡ key.y e
