-- The rank of H in lent words, the cleared form, and rows that lean on each other.
use Rattle.std.specs.Prelude.{◌≡◌, Bool, List, [], ◌∷◌, ℕ, ◌+◌, ◌*◌, ◌<◌, eqb, ltb}
use Rattle.lists.specs.Words.{concat}
use Rattle.field.specs.Ring.{Ring}
use Rattle.field.specs.Sums.{sigma}
use Rattle.field.specs.declared.Level.{Level}
use Rattle.field.specs.Level.{F}
use Rattle.field.specs.Word.{word, small_at}
use Rattle.galois.specs.Inverse.{inverse}
use Rattle.elimination.specs.Elimination.{State, after, rank}

-- "some coefficients from F, not all zero, combine the rows of H to zero": a(0) to a(m - 1), in each of n columns
abbrev pub Combines : (R : Ring) (n m : ℕ) (h : ℕ → ℕ → R.Carrier) (a : ℕ → R.Carrier) → Type 0
Combines R n m h a = (j : ℕ) → j < n → sigma R m (λ i. R.mul (a i) (h i j)) ≡ R.zero

abbrev pub Dependent : (R : Ring) (n m : ℕ) (h : ℕ → ℕ → R.Carrier) → Type 0
Dependent R n m h = (a : ℕ → R.Carrier) × (((i : ℕ) → i < m → a i ≡ R.zero) → ⊥) × Combines R n m h a

module _ (l : Level) where
  -- an element of F is zero: its word is
  unfoldable pub is_zero : (F l).Carrier → Bool
  is_zero a = eqb (word l a) 0

  module _ (n m : ℕ) (h : List ℕ) where
    -- "H has m rows of n elements of F, row after row": entry j of row i
    abbrev pub entries : ℕ → ℕ → (F l).Carrier
    entries i j = small_at l h (i * n + j)

    -- after c columns
    unfoldable pub eliminated : ℕ → State (F l)
    eliminated c = after (F l) is_zero (inverse l) m entries c

    -- "the matrix then holds the cleared form", row after row
    unfoldable pub cleared_words : List ℕ
    cleared_words = concat m (λ i. concat n (λ j. word l ((eliminated n).entry i j) ∷ []))

    -- "This entry answers the rank"
    unfoldable pub rank_of : ℕ
    rank_of = rank (F l) is_zero (inverse l) m entries n

    -- the rank is short: the test that refusal 15 is decided by
    abbrev pub short : Bool
    short = ltb rank_of m

    -- the rows of H lean on each other
    abbrev pub Leaning : Type 0
    Leaning = Dependent (F l) n m entries
