-- Elimination on a matrix over a ring, column by column, and the rank that it finds.
use Rattle.std.specs.Prelude.{Bool, false, not, cond, ◌&&◌, ◌||◌, ℕ, zero, suc, eqb, ltb}
use Rattle.lists.specs.Count.{count}
use Rattle.field.specs.Ring.{Ring}

-- "the lowest-numbered": the lowest i below m that passes the test, and m where none does
unfoldable pub lowest : (m : ℕ) → (ℕ → Bool) → ℕ
lowest zero test = 0
lowest (suc m) test = cond (test 0) 0 (suc (lowest m (λ i. test (suc i))))

-- entry j of row i, and which rows are used
pub record State (R : Ring) : Type 0 where
  pub entry : ℕ → ℕ → R.Carrier
  pub used : ℕ → Bool

-- of m rows, by a test of zero and the inverse of what is not zero
module _ (R : Ring) (is_zero : R.Carrier → Bool) (inverse : R.Carrier → R.Carrier) (m : ℕ) where
  -- "take the lowest-numbered unused row that has a non-zero entry there", in column c; m where there is none
  unfoldable pub pivot : State R → (c : ℕ) → ℕ
  pivot s c = lowest m (λ i. not (s.used i) && not (is_zero (s.entry i c)))

  -- "clear that column in the unused rows below it": what row i gets of the row p taken, nothing where it is used or not below p
  abbrev pub multiple : State R → (p c i : ℕ) → R.Carrier
  multiple s p c i = cond (ltb p i && not (s.used i)) (R.mul (s.entry i c) (inverse (s.entry p c))) R.zero

  -- "by adding multiples of the row taken. No rows change places."
  abbrev pub taken : State R → (p c : ℕ) → State R
  taken s p c = record { entry = λ i j. R.add (s.entry i j) (R.mul (multiple s p c i) (s.entry p j)); used = λ i. s.used i || eqb i p }

  unfoldable pub column : State R → (c : ℕ) → State R
  column s c = cond (ltb (pivot s c) m) (taken s (pivot s c) c) s

  -- "For each column, lowest first": the matrix h after c columns
  unfoldable pub after : (h : ℕ → ℕ → R.Carrier) → (c : ℕ) → State R
  after h zero = record { entry = h; used = λ i. false }
  after h (suc c) = column (after h c) c

  -- the rank of n columns: the number of rows used
  unfoldable pub rank : (h : ℕ → ℕ → R.Carrier) → (n : ℕ) → ℕ
  rank h n = count m (after h n).used
