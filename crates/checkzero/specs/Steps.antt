-- Sums that the functions of this crate make, of the elements of lists, and what the mask sum holds at each mask: a reader of the entries
-- need not believe this file.
use Rattle.std.specs.Prelude.{ℕ, List}
use Rattle.field.specs.declared.Level.{Level}
use Rattle.field.specs.Level.{K}
use Rattle.field.specs.Packed.{Holds}
use Rattle.field.specs.Sums.{sigma, pow}
use Rattle.row.specs.Elements.{el}
use Rattle.row.specs.Polynomial.{column, check}
use Rattle.row.specs.Lent.{small_of, entry_of, digit_of, element_of}
use Rattle.folding.specs.Weights.{weighted_sum}
use Rattle.checkzero.specs.CheckZero.{mask_sum}

module _ (l : Level) where
  -- coefficient k of the sum of the n + m polynomials, each with its weight
  abbrev pub weighted_at : (n m d : ℕ) (h x y positions v α : List ℕ) → ℕ → (K l).Carrier
  weighted_at n m d h x y positions v α k = weighted_sum (K l) n m (el l α) (λ j. column (K l) n d (entry_of l n h) (small_of l x) (small_of l y) (digit_of d positions) (element_of l d v) j k) (λ e. check (K l) n d (entry_of l n h) (small_of l x) (small_of l y) (digit_of d positions) (element_of l d v) e k)

  -- the sum of the first n elements, each times its power of Δ
  abbrev pub evaluated : (n : ℕ) (s : List ℕ) → (K l).Carrier → (K l).Carrier
  evaluated n s Δ = sigma (K l) n (λ k. (K l).mul (el l s k) (pow (K l) Δ k))

-- what the mask sum holds at mask k, in packed words: Δ to the power k, and the sum of the terms before mask k
pub record AtMask (l : Level) (Δ : (K l).Carrier) (numbers : ℕ → (K l).Carrier) (k : ℕ) (ps ts : List ℕ) : Type 0 where
  pub power : Holds l ps (pow (K l) Δ k)
  pub total : Holds l ts (mask_sum (K l) k Δ numbers)
