-- The two sides of the verifier's equation, as the functions of crates folding and checkzero make them.
use mathlib.Core.Path.{◌≡◌, sym, ◌∙◌, ap, ap₂}
use mathlib.Core.List.{List}
use Prim.Native.Nat.{ℕ, ◌+◌, ◌-◌}
use native.Mathlib.Nat.{mul-zero}
use lib.ListN.{length}
use Rattle.lists.specs.Words.{part}
use Rattle.lists.proofs.Words.{part-whole}
use Rattle.field.specs.declared.Level.{Level}
use Rattle.field.specs.Level.{K}
use Rattle.field.specs.Word.{element, is_zero, equal}
use Rattle.row.specs.Elements.{el, Bits}
use Rattle.row.specs.Polynomial.{column_value, check_value}
use Rattle.row.specs.Lent.{small_of, entry_of, bit_of, element_of}
use Rattle.key.specs.Key.{degree, KeySlices}
use Rattle.constraints.specs.Graded.{eval}
use Rattle.field.specs.Sums.{sigma, pow}
use Rattle.field.specs.SumLaws.{summed_cong}
use Rattle.constraints.specs.System.{System, value}
use Rattle.constraints.specs.Slices.{bits, element_at, elements, system_of}
use Rattle.constraints.proofs.Coefficients.{coefficient-vector}
use Rattle.constraints.proofs.Link.{column-value-written, check-value-written}
use Rattle.folding.specs.Weights.{weighted_sum}
use Rattle.checkzero.specs.CheckZero.{weighted, expected, mask_sum}
use Rattle.checkzero.specs.Slices.{proof_at, accepts}
use Rattle.checkzero.proofs.Laws.{el-element, weighted-all}
use Rattle.checkzero.specs.Steps.{evaluated}

module _ (l : Level) where
  -- a list of one element
  pub el-one : (s : List ℕ) → length s ≡ l.coordinates → el l s 0 ≡ element l s
  unfolding el
  el-one s e = ap (λ c. element l (part c l.coordinates s)) (mul-zero l.coordinates) ∙ ap (element l) (part-whole l.coordinates s e)

module _ (l : Level) (n m : ℕ) (lent : KeySlices) where
  abbrev S : System (K l)
  S = system_of l n m lent

  -- the weighted sum of the values, of d digits and the challenge c, as the fold makes it
  abbrev pub folded : (t q α : List ℕ) (d : ℕ) (c : (K l).Carrier) → (K l).Carrier
  folded t q α d c = weighted_sum (K l) n m (el l α) (column_value (K l) n d (entry_of l n lent.h) (small_of l lent.x) (small_of l lent.y) (bit_of d t) (element_of l d q) c) (check_value (K l) n d (entry_of l n lent.h) (small_of l lent.x) (small_of l lent.y) (bit_of d t) (element_of l d q) c)

  -- the proof at the challenge
  given_side : (a : List ℕ) (Δ : (K l).Carrier) → evaluated l (degree n) a Δ ≡ eval (K l) (degree n) (proof_at l S a) Δ
  unfolding eval proof_at
  given_side a Δ = summed_cong (K l).zero (K l).add (degree n) _ _ (λ k b. ap (λ y. (K l).mul y (pow (K l) Δ k)) ((λ i. el-element l a i k) ∙ sym (coefficient-vector (K l) (degree n) (element_at l a) k b)))

  -- the weighted sum of the values, plus the mask sum
  expected_side : (t q Δ numbers α : List ℕ) → Bits t → length Δ ≡ l.coordinates
      → (K l).add (folded t q α (degree n) (el l Δ 0)) (mask_sum (K l) (degree n - 1) (element l Δ) (el l numbers)) ≡ expected S (bits (degree n) t) (elements l (degree n) q) (element l Δ) (element_at l numbers) (element_at l α)
  unfolding expected weighted
  expected_side t q Δ numbers α b e = ap₂ (K l).add
      (weighted-all (K l) n m (el l α) _ _ (value S (bits (degree n) t) (elements l (degree n) q) (element l Δ)) (column-value-written l n m lent t q Δ b e) (λ i a. check-value-written l n m lent t q Δ b e i)
      ∙ ap (λ (a : ℕ → (K l).Carrier). sigma (K l) (n + m) (λ j. (K l).mul (a j) (value S (bits (degree n) t) (elements l (degree n) q) (element l Δ) j))) (el-element l α))
      (ap (mask_sum (K l) (degree n - 1) (element l Δ)) (el-element l numbers))

  -- their sum is zero exactly when the equation holds; d and c are the degree and the challenge
  pub sides : (t q Δ numbers α a : List ℕ) (d : ℕ) (c : (K l).Carrier) → Bits t → length Δ ≡ l.coordinates → d ≡ degree n → c ≡ element l Δ
      → is_zero l ((K l).add (evaluated l d a c) ((K l).add (folded t q α d (el l Δ 0)) (mask_sum (K l) (d - 1) c (el l numbers)))) ≡ accepts l (system_of l n m lent) t q Δ numbers α a
  unfolding accepts equal
  sides t q Δ numbers α a d c b g e f =
      (λ i. is_zero l ((K l).add (evaluated l (e i) a (f i)) ((K l).add (folded t q α (e i) (el l Δ 0)) (mask_sum (K l) (e i - 1) (f i) (el l numbers)))))
      ∙ ap₂ (λ x y. is_zero l ((K l).add x y)) (given_side a (element l Δ)) (expected_side t q Δ numbers α b g)
