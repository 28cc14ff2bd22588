-- What quick_look's answer tells of the positions.
use Rattle.std.specs.Prelude.{◌≡◌, ◌↔◌, false, List, ℕ, ◌<◌}
use Rattle.refusal.specs.Answer.{first_of, Done}
use Rattle.field.specs.declared.Level.{Level}
use Rattle.field.specs.Level.{K}
use Rattle.key.specs.declared.Key.{Key}
use Rattle.key.specs.declared.Code.TheVariants.{Column}
use Rattle.key.specs.Key.{KeySlices, degree, code_of, codes_of, is_too_large}
use Rattle.constraints.specs.Graded.{top}
use Rattle.constraints.specs.Order.{Order}
use Rattle.constraints.specs.Slices.{polynomial_at, polynomial_words, system_of, position_at, witness_of}
use Rattle.constraints.specs.Entry.{constraints_rows, constraints_outcome}
use Rattle.order.specs.Entry.{look_rows}

-- position i is a column, and none before it is the same
abbrev pub Fits : (n : ℕ) (positions : List ℕ) → ℕ → Type 0
Fits n positions i = (code_of n (position_at positions i) ≡ Column) × ((h : ℕ) → h < i → position_at positions h ≡ position_at positions i → ⊥)

-- "the first offender over the whole list": all before it fit, and it does not
abbrev pub IsFirst : (n : ℕ) (positions : List ℕ) → ℕ → Type 0
IsFirst n positions i = (i < n) × ((h : ℕ) → h < i → Fits n positions h) × (Fits n positions i → ⊥)

-- "no position is too large"
abbrev pub NoneTooLarge : (n : ℕ) (positions : List ℕ) → Type 0
NoneTooLarge n positions = is_too_large (codes_of n positions) ≡ false

-- "every column polynomial would have top zero": the first n of the polynomials p
abbrev pub ColumnTopsZero : (l : Level) (n : ℕ) (p : List ℕ) → Type 0
ColumnTopsZero l n p = (j : ℕ) → j < n → top (K l) (degree n) (polynomial_at l (degree n) p j) ≡ (K l).zero

-- past refusals 1 and 3; each function says how its answer tells that all is well, and an offender at index i
pub record Tells (l : Level) (n : ℕ) (positions : List ℕ) (IsWell : Type 0) (IsOffender : ℕ → Type 0) : Type 0 where
  -- "whether n positions are an order"
  pub order : IsWell ↔ ((first_of (look_rows l n positions) ≡ Done) × Order n (position_at positions))
  -- "the index is that of the first offender over the whole list"
  pub first : (i : ℕ) → IsOffender i ↔ ((first_of (look_rows l n positions) ≡ Done) × IsFirst n positions i)
  -- "All is well exactly when no position is too large and every column polynomial would have top zero": those that constraints defines, of each key
  -- of n columns and each v; u enters none of them
  pub tops : (m : ℕ) (lent : KeySlices) (v : List ℕ)
      → IsWell ↔ ((first_of (look_rows l n positions) ≡ Done) × NoneTooLarge n positions × ColumnTopsZero l n (polynomial_words l (system_of l n m lent) (witness_of n positions) v))
  -- and wherever constraints is done with these positions, of each such key, u and v: exactly when those that it leaves have top zero
  pub left : (m : ℕ) (lent : KeySlices) (u v t p : List ℕ) → let key : Key = record { n = n; m = m } in first_of (constraints_rows l key lent positions u v t p) ≡ Done
      → IsWell ↔ ColumnTopsZero l n (constraints_outcome l key lent positions u v t p).1.1
