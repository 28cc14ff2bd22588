-- What crate rows writes is what the definitions say.
use mathlib.Core.Path.{◌≡◌, refl, sym, ◌∙◌, ap, ap₂}
use mathlib.Core.Bool.{Bool, not, cond}
use mathlib.Core.List.{List, [], ◌∷◌, ◌++◌}
use Prim.Native.Nat.{ℕ, zero, suc, ◌+◌, ◌-◌, ◌*◌, ◌%◌, ◌<◌}
use native.Mathlib.Nat.{mul_comm, mul-zero, mod-eq_of_lt}
use native.Mathlib.Numerals.{add-one}
use lib.Dec.{eqb, eqb-zero-suc, eqb-suc-zero, eqb-suc-suc}
use lib.ListN.{length, get_or}
use Rattle.lists.specs.Words.{part, concat}
use Rattle.lists.proofs.Words.{part-whole}
use Rattle.lists.proofs.Concat.{concat_cong, concat-append}
use Rattle.field.specs.Ring.{Ring, Hom}
use Rattle.field.specs.Binary.{xor, bit}
use Rattle.field.specs.declared.Level.{Level}
use Rattle.field.specs.Level.{F, K, embed}
use Rattle.field.specs.Word.{odd, small, element, words, small_at}
use Rattle.row.specs.Lists.{tab}
use Rattle.row.specs.Elements.{el, Bits}
use Rattle.row.specs.Polynomial as R
use Rattle.field.specs.RingLaws.{ring, one-mul}
use Rattle.row.specs.Lent.{small_of, entry_of, digit_of, bit_of, element_of}
use Rattle.rows.specs.Outcome as O
use Rattle.key.specs.Key.{degree, KeySlices}
use Rattle.constraints.specs.Graded.{product, power, Polynomial, coefficient, linear, raised, polynomials, point}
use Rattle.field.specs.Sums.{summed, sigma}
use Rattle.constraints.specs.System.{System, masked, polynomial, value}
use Rattle.constraints.specs.Digits.{Instance, digit_in, digit, witness, factor, z, column, x', row, constraint}
use Rattle.constraints.specs.Modelling.{digits}
use Rattle.constraints.specs.Slices.{bits, element_at, elements, key_of, system_of, witness_of, masked_bytes, polynomial_words, value_words}
use Rattle.constraints.proofs.Coefficients.{coefficient-column, coefficient-row, coefficient-x'}
use Rattle.constraints.proofs.Products.{tail, z-tail, point_reversed}
use Rattle.constraints.proofs.Join.{join-left, join_right}

module _ (A : Ring) where
  open A use {Carrier, zero as 𝟘, one as 𝟙, add as ◌⊕◌, mul as ◌⊗◌}

  infixl 60 ◌⊕◌
  infixl 70 ◌⊗◌
  pub sum-sigma : (n : ℕ) (f : ℕ → Carrier) → R.sum A n f ≡ sigma A n f
  unfolding R.sum summed
  sum-sigma zero f = refl
  sum-sigma (suc n) f = ap (λ s. s ⊕ f n) (sum-sigma n f)

  none : (c : Carrier) → c ⊗ 𝟘 ≡ 𝟘
  none c = simp ring

  monomial-bit : (c : Carrier) (d k : ℕ) → R.monomial A c d k ≡ c ⊗ bit A (eqb k d)
  unfolding R.monomial
  monomial-bit c zero zero = sym (A.mul-one c)
  monomial-bit c zero (suc k) = sym (ap (λ b. c ⊗ bit A b) (eqb-suc-zero k) ∙ none c)
  monomial-bit c (suc d) zero = sym (ap (λ b. c ⊗ bit A b) (eqb-zero-suc d) ∙ none c)
  monomial-bit c (suc d) (suc k) = monomial-bit c d k ∙ ap (λ b. c ⊗ bit A b) (sym (eqb-suc-suc k d))

  -- the factor of digit k
  abbrev chosen : (d : ℕ) (w : ℕ → Bool) (j k : ℕ) → Bool
  chosen d w j k = xor (w k) (not (digit d k j))

  tail-same : (d : ℕ) (w : ℕ → Bool) (v : ℕ → Carrier) (j t k : ℕ) → R.tail A d w v j t k ≡ tail A d (λ k. bit A (chosen d w j k)) v t k
  unfolding R.tail R.unit R.times R.up R.digit digit_in tail raised
  tail-same d w v j zero zero = refl
  tail-same d w v j zero (suc k) = refl
  tail-same d w v j (suc t) zero = ap (λ a. bit A (chosen d w j (d - 1 - t)) ⊗ 𝟘 ⊕ v (d - 1 - t) ⊗ a) (tail-same d w v j t zero)
  tail-same d w v j (suc t) (suc k) = ap₂ (λ a b. bit A (chosen d w j (d - 1 - t)) ⊗ a ⊕ v (d - 1 - t) ⊗ b) (tail-same d w v j t k) (tail-same d w v j t (suc k))

  -- the verifier's product, from the last factor to the first
  end-product : (d : ℕ) (w : ℕ → Bool) (q : ℕ → Carrier) (Δ : Carrier) (j t : ℕ) → R.end A d w q Δ j t ≡ product (point A Δ) t (λ k. q (d - 1 - k) ⊕ bit A (chosen d w j (d - 1 - k)) ⊗ Δ)
  unfolding R.end R.digit digit_in product
  end-product d w q Δ j zero = refl
  end-product d w q Δ j (suc t) = ap (λ p. (q (d - 1 - t) ⊕ bit A (chosen d w j (d - 1 - t)) ⊗ Δ) ⊗ p) (end-product d w q Δ j t)

  raise-power : (Δ : Carrier) (d : ℕ) → R.raise A Δ d ≡ power (point A Δ) d
  unfolding R.raise power product
  raise-power Δ zero = refl
  raise-power Δ (suc d) = ap (λ p. Δ ⊗ p) (raise-power Δ d)

-- over any two rings: the coefficients of each polynomial, and each value
module _ {B A : Ring} (φ : Hom B A) (key : Instance B) (d : ℕ) where
  open key use {n, m, H, x, y}
  open A use {Carrier, zero as 𝟘, one as 𝟙, add as ◌⊕◌, mul as ◌⊗◌}

  infixl 60 ◌⊕◌
  infixl 70 ◌⊗◌
  abbrev S : System A
  S = digits φ key d

  abbrev Hφ : ℕ → ℕ → Carrier
  Hφ e i = φ.map (H e i)

  abbrev xφ : ℕ → Carrier
  xφ j = φ.map (x j)

  abbrev yφ : ℕ → Carrier
  yφ e = φ.map (y e)

  module _ (w : ℕ → ℕ → Bool) (v : ℕ → ℕ → Carrier) where
    abbrev zs : ℕ → ℕ → Polynomial A d
    zs = z (polynomials A) d (λ i k c. linear A (bit A (xor (w i k) c)) (v i k))

    z-same : (i j k : ℕ) → R.z A d (w i) (v i) j k ≡ coefficient A (suc d) (zs i j) k
    unfolding R.z
    z-same i j k = tail-same A d (w i) (v i) j d k ∙ sym (z-tail A d w v i j k)

    column-same : (j k : ℕ) → j < n → R.column A n d Hφ xφ yφ w v j k ≡ coefficient A (suc d) (polynomial S w v j) k
    unfolding R.column polynomial constraint
    column-same j k l = ap₂ ◌⊕◌ (sum-sigma A n _ ∙ ap (sigma A n) (λ t i. z-same i j k t)) (monomial-bit A 𝟙 d k ∙ one-mul A (bit A (eqb k d)))
        ∙ sym (coefficient-column φ key d zs k j) ∙ ap (λ p. coefficient A (suc d) p k) (sym (join-left n (column φ key (polynomials A) d zs) (row φ key (polynomials A) d zs) j l))

    check-same : (e k : ℕ) → R.check A n d Hφ xφ yφ w v e k ≡ coefficient A (suc d) (polynomial S w v (n + e)) k
    unfolding R.check polynomial constraint
    check-same e k = ap₂ ◌⊕◌ (sum-sigma A n _ ∙ ap (sigma A n) (λ t i. Hφ e i ⊗ inner i t)) (monomial-bit A (yφ e) d k)
        ∙ sym (coefficient-row φ key d zs k e) ∙ ap (λ p. coefficient A (suc d) p k) (sym (join_right n (column φ key (polynomials A) d zs) (row φ key (polynomials A) d zs) e))
      where
        inner : (i : ℕ) → R.sum A n (λ j. xφ j ⊗ R.z A d (w i) (v i) j k) ≡ coefficient A (suc d) (x' φ key (polynomials A) d zs i) k
        inner i = sum-sigma A n _ ∙ ap (sigma A n) (λ t j. xφ j ⊗ z-same i j k t) ∙ sym (coefficient-x' φ key d zs k i)

  module _ (t : ℕ → ℕ → Bool) (q : ℕ → ℕ → Carrier) (Δ : Carrier) where
    abbrev ys : ℕ → ℕ → Carrier
    ys = z (point A Δ) d (λ i k c. q i k ⊕ bit A (xor (t i k) c) ⊗ Δ)

    y-same : (i j : ℕ) → R.value A d (t i) (q i) Δ j ≡ ys i j
    unfolding R.value z factor
    y-same i j = end-product A d (t i) (q i) Δ j d ∙ sym (point_reversed A Δ d (λ k. q i k ⊕ bit A (xor (t i k) (not (digit d k j))) ⊗ Δ))

    column-value : (j : ℕ) → j < n → R.column_value A n d Hφ xφ yφ t q Δ j ≡ value S t q Δ j
    unfolding R.column_value value constraint column
    column-value j l = ap₂ ◌⊕◌ (sum-sigma A n _ ∙ ap (sigma A n) (λ u i. y-same i j u)) (raise-power A Δ d) ∙ sym (join-left n (column φ key (point A Δ) d ys) (row φ key (point A Δ) d ys) j l)

    check-value : (e : ℕ) → R.check_value A n d Hφ xφ yφ t q Δ e ≡ value S t q Δ (n + e)
    unfolding R.check_value value constraint row x'
    check-value e = ap₂ ◌⊕◌ (sum-sigma A n _ ∙ ap (sigma A n) (λ u i. Hφ e i ⊗ (sum-sigma A n (λ j. xφ j ⊗ R.value A d (t i) (q i) Δ j) ∙ ap (sigma A n) (λ s j. xφ j ⊗ y-same i j s)) u)) (ap (λ p. yφ e ⊗ p) (raise-power A Δ d))
        ∙ sym (join_right n (column φ key (point A Δ) d ys) (row φ key (point A Δ) d ys) e)

tab-concat : (n : ℕ) (f : ℕ → ℕ) → tab n f ≡ concat n (λ k. f k ∷ [])
unfolding tab concat
tab-concat zero f = refl
tab-concat (suc n) f = ap (λ s. s ++ (f n ∷ [])) (tab-concat n f)

-- bits of bytes that are 0 or 1
bits-same : (d : ℕ) (s : List ℕ) → Bits s → (i k : ℕ) → bit_of d s i k ≡ bits d s i k
unfolding bits
bits-same d s h i k = ap odd (sym (mod-eq_of_lt (h (d * i + k))) ∙ ap (λ c. get_or s (c + k) 0 % 2) (mul_comm d i))

digits_same : (n : ℕ) (positions : List ℕ) (i k : ℕ) → digit_of (degree n) positions i k ≡ witness_of n positions i k
unfolding R.digit witness digit_in
digits_same n positions i k = refl

pub masked-written : (l : Level) (n m : ℕ) (lent : KeySlices) (positions u : List ℕ) → Bits u → O.masked_witness n (degree n) positions u ≡ masked_bytes (system_of l n m lent) (witness_of n positions) u
unfolding O.masked_witness O.masked_row masked_bytes masked
masked-written l n m lent positions u b = concat_cong n _ _ (λ i a. tab-concat (degree n) _ ∙ concat_cong (degree n) _ _ (λ k c. ap₂ (λ (p q : Bool). cond (xor p q) 1 0 ∷ []) (digits_same n positions i k) (bits-same (degree n) u b i k)))

module _ (l : Level) (n m : ℕ) (lent : KeySlices) where
  abbrev d : ℕ
  d = degree n

  abbrev key : Instance (F l)
  key = key_of l n m lent

  entry-same : (e i : ℕ) → entry_of l n lent.h e i ≡ (embed l).map (key.H e i)
  unfolding small_at
  entry-same e i = ap (λ c. (embed l).map (small l (get_or lent.h (c + i) 0))) (mul_comm n e)

  small_same : (s : List ℕ) (j : ℕ) → small_of l s j ≡ (embed l).map (small_at l s j)
  unfolding small_at
  small_same s j = refl

  element-same : (s : List ℕ) (i k : ℕ) → element_of l d s i k ≡ elements l d s i k
  unfolding el elements element_at
  element-same s i k = ap (λ c. element l (part (l.coordinates * (c + k)) l.coordinates s)) (mul_comm d i)

  -- the coefficients of the polynomials
  module _ (positions v : List ℕ) where
    pub column-written : (j k : ℕ) → j < n → R.column (K l) n d (entry_of l n lent.h) (small_of l lent.x) (small_of l lent.y) (digit_of d positions) (element_of l d v) j k
        ≡ coefficient (K l) (suc d) (polynomial (system_of l n m lent) (witness_of n positions) (elements l d v) j) k
    column-written j k a = (λ t. R.column (K l) n d (λ e i. entry-same e i t) (λ j. small_same lent.x j t) (λ e. small_same lent.y e t) (λ i k. digits_same n positions i k t) (λ i k. element-same v i k t) j k)
        ∙ column-same (embed l) key d (witness_of n positions) (elements l d v) j k a

    pub check-written : (e k : ℕ) → R.check (K l) n d (entry_of l n lent.h) (small_of l lent.x) (small_of l lent.y) (digit_of d positions) (element_of l d v) e k
        ≡ coefficient (K l) (suc d) (polynomial (system_of l n m lent) (witness_of n positions) (elements l d v) (n + e)) k
    check-written e k = (λ t. R.check (K l) n d (λ e i. entry-same e i t) (λ j. small_same lent.x j t) (λ e. small_same lent.y e t) (λ i k. digits_same n positions i k t) (λ i k. element-same v i k t) e k)
        ∙ check-same (embed l) key d (witness_of n positions) (elements l d v) e k

    pub polynomials-written : O.polynomials l n m d lent.h lent.x lent.y positions v ≡ polynomial_words l (system_of l n m lent) (witness_of n positions) v
    unfolding O.polynomials polynomial_words
    polynomials-written = ap₂ ◌++◌ (concat_cong n _ _ (λ j a. coefficients _ _ (λ k. column-written j k a))) (concat_cong m _ _ (λ e a. coefficients _ _ (check-written e))) ∙ sym (concat-append n m _)
      where
        coefficients : (f g : ℕ → (K l).Carrier) → ((k : ℕ) → f k ≡ g k) → concat (d + 1) (λ k. words l (f k)) ≡ concat (suc d) (λ k. words l (g k))
        coefficients f g e = ap₂ (λ (c : ℕ) (r : ℕ → (K l).Carrier). concat c (λ k. words l (r k))) (add-one d) (λ t k. e k t)

  -- the values
  module _ (t q Δ : List ℕ) (b : Bits t) (e : length Δ ≡ l.coordinates) where
    challenge : el l Δ 0 ≡ element l Δ
    unfolding el
    challenge = ap (λ c. element l (part c l.coordinates Δ)) (mul-zero l.coordinates) ∙ ap (element l) (part-whole l.coordinates Δ e)

    pub column-value-written : (j : ℕ) → j < n → R.column_value (K l) n d (entry_of l n lent.h) (small_of l lent.x) (small_of l lent.y) (bit_of d t) (element_of l d q) (el l Δ 0) j
        ≡ value (system_of l n m lent) (bits d t) (elements l d q) (element l Δ) j
    column-value-written j a = (λ s. R.column_value (K l) n d (λ e i. entry-same e i s) (λ j. small_same lent.x j s) (λ e. small_same lent.y e s) (λ i k. bits-same d t b i k s) (λ i k. element-same q i k s) (challenge s) j)
        ∙ column-value (embed l) key d (bits d t) (elements l d q) (element l Δ) j a

    pub check-value-written : (e : ℕ) → R.check_value (K l) n d (entry_of l n lent.h) (small_of l lent.x) (small_of l lent.y) (bit_of d t) (element_of l d q) (el l Δ 0) e
        ≡ value (system_of l n m lent) (bits d t) (elements l d q) (element l Δ) (n + e)
    check-value-written e = (λ s. R.check_value (K l) n d (λ e i. entry-same e i s) (λ j. small_same lent.x j s) (λ e. small_same lent.y e s) (λ i k. bits-same d t b i k s) (λ i k. element-same q i k s) (challenge s) e)
        ∙ check-value (embed l) key d (bits d t) (elements l d q) (element l Δ) e

    pub values-written : O.values l n m d lent.h lent.x lent.y t q Δ ≡ value_words l (system_of l n m lent) t q Δ
    unfolding O.values value_words
    values-written = ap₂ ◌++◌ (concat_cong n _ _ (λ j a. ap (words l) (column-value-written j a))) (concat_cong m _ _ (λ e a. ap (words l) (check-value-written e))) ∙ sym (concat-append n m _)
