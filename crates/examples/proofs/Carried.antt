-- Bare numbers are embedded elements of F: what the entries write for them is computed over F.
use mathlib.Core.Path.{◌≡◌, refl, sym, ◌∙◌, ap, ap₂}
use mathlib.Core.Bool.{Bool, true, false, cond}
use mathlib.Core.List.{List, [], ◌∷◌}
use Prim.Native.Nat.{ℕ, zero, suc, ◌+◌, ◌-◌, ◌*◌, ◌<◌}
use native.Mathlib.Omega.{arith}
use lib.Dec.{eqb}
use lib.ListN.{take}
use lib.Seq.{drop-nil, drop-append-add}
use Rattle.lists.specs.Words.{part, concat}
use Rattle.lists.proofs.Concat.{concat_cong}
use Rattle.field.specs.Ring.{Ring, Hom, identity}
use Rattle.field.specs.RingLaws.{hom_zero}
use Rattle.field.specs.Vector.{zeros as 𝟘s, unit, scale}
use Rattle.field.specs.VectorLaws.{scale-zeros}
use Rattle.field.specs.Quotient.{constant}
use Rattle.field.specs.Level.{first, F, K, embed}
use Rattle.field.specs.Word.{digits, number, vector, list, small, word, element, words, small_at}
use Rattle.key.specs.Key.{degree}
use Rattle.constraints.specs.Graded.{total, polynomials, coefficient}
use Rattle.field.specs.Sums.{sigma}
use Rattle.constraints.specs.GradedLaws.{map-total}
use Rattle.field.specs.SumLaws.{map-summed}
use Rattle.constraints.specs.System.{System, polynomial, value, Honest}
use Rattle.constraints.specs.Modelling.{digits as system}
use Rattle.constraints.specs.Slices.{bits, element_at, elements, polynomial_words, value_words, key_of, witness_of}
use Rattle.constraints.specs.Truth.{HonestNumbers}
use Rattle.constraints.proofs.Coefficients.{coefficient_ext, coefficient-vector}
use Rattle.constraints.proofs.Along.{map-bit, each, coefficient-each, each-polynomial, polynomial_along, value_along}
use Rattle.checkzero.specs.CheckZero.{shifted, mask, weighted, f, proof}
use Rattle.checkzero.specs.Slices.{proof_words}
use Rattle.examples.specs.Starred.{bare, bares, Numbers, polynomials_of, values_of}

-- an embedded element has coordinate 0 alone
constant-form : (R : Ring) (w t : ℕ) (a : R.Carrier) → constant R (suc w) t a ≡ (a, 𝟘s R w)
unfolding constant scale unit
constant-form R w t a = λ i. (R.mul-one a i, scale-zeros R w a i)

pub element-bare : (a : ℕ) → element first (bare a) ≡ (embed first).map (small first a)
unfolding element small vector digits embed F K 𝟘s
element-bare a = sym (constant-form (F first) 11 first.power (small first a))

pub words-embed : (a : (F first).Carrier) → words first ((embed first).map a) ≡ bare (word first a)
unfolding words word list number embed F K 𝟘s
words-embed a = ap (words first) (constant-form (F first) 11 first.power a)

-- element i of a slice of bare numbers; past its end, zero
element-none : element first [] ≡ element first (bare 0)
unfolding element vector
element-none = refl

abbrev c : ℕ
c = first.coordinates

pub element-bares : (s : List ℕ) (i : ℕ) → element_at first (bares s) i ≡ (embed first).map (small_at first s i)
unfolding element_at small_at bares
element-bares [] i = ap (λ r. element first (take c r)) (drop-nil (c * i)) ∙ element-none ∙ element-bare 0
element-bares (a ∷ s) zero = element-bare a
element-bares (a ∷ s) (suc i) = ap (λ k. element first (part k c (bares (a ∷ s)))) {x = c * suc i} {y = c + c * i} (omega arith)
    ∙ ap (λ r. element first (take c r)) (drop-append-add (bare a) (bares s) (c * i)) ∙ element-bares s i

-- a mask goes along a map of rings
module _ {F K : Ring} (φ : Hom F K) where
  shifted_along : (k : ℕ) (s r : F.Carrier) (i : ℕ) → φ.map (shifted F k s r i) ≡ shifted K k (φ.map s) (φ.map r) i
  unfolding shifted
  shifted_along k s r i = φ.map-add _ _ ∙ ap₂ K.add (part (eqb i k) r) (part (eqb i (suc k)) s)
    where
      part : (b : Bool) (a : F.Carrier) → φ.map (cond b a F.zero) ≡ cond b (φ.map a) K.zero
      part true a = refl
      part false a = hom_zero F K φ

  mask_along : (count : ℕ) (r s : ℕ → F.Carrier) (i : ℕ) → φ.map (mask F count r s i) ≡ mask K count (λ k. φ.map (r k)) (λ k. φ.map (s k)) i
  unfolding mask
  mask_along count r s i = map-summed F.zero F.add K.zero K.add φ.map (hom_zero F K φ) φ.map-add count (λ k. shifted F k (s k) (r k) i)
      ∙ ap (sigma K count) (λ t k. shifted_along k (s k) (r k) i t)

module _ (key : Numbers) where
  open key use {n, m, lent, v, r, s, α}

  abbrev d : ℕ
  d = degree n

  -- the constraints over F and over K
  abbrev pub over_f : System (F first)
  over_f = system (identity (F first)) (key_of first n m lent) d

  abbrev over_k : System (K first)
  over_k = system (embed first) (key_of first n m lent) d

  -- element (i,k) of F, and of K
  unfoldable pub numbers_at : List ℕ → ℕ → ℕ → (F first).Carrier
  numbers_at s i k = small_at first s (i * d + k)

  at-bares : (s : List ℕ) → elements first d (bares s) ≡ (λ i k. (embed first).map (numbers_at s i k))
  unfolding elements numbers_at
  at-bares s = λ t i k. element-bares s (i * d + k) t

  -- the polynomials and values that are written are those over F
  pub polynomials-carried : (positions : List ℕ)
      → polynomials_of key positions ≡ concat (n + m) (λ j. concat (suc d) (λ k. bare (word first (coefficient (F first) (suc d) (polynomial over_f (witness_of n positions) (numbers_at v) j) k))))
  unfolding polynomials_of polynomial_words
  polynomials-carried positions = λ t. concat (n + m) (λ j. concat (suc d) (λ k. one j k t))
    where
      w : ℕ → ℕ → Bool
      w = witness_of n positions

      one : (j k : ℕ) → words first (coefficient (K first) (suc d) (polynomial over_k w (elements first d (bares v)) j) k) ≡ bare (word first (coefficient (F first) (suc d) (polynomial over_f w (numbers_at v) j) k))
      one j k = ap (λ f. words first (coefficient (K first) (suc d) (polynomial over_k w f j) k)) (at-bares v)
          ∙ ap (words first) (polynomial_along (embed first) (key_of first n m lent) d w (numbers_at v) j k) ∙ words-embed (coefficient (F first) (suc d) (polynomial over_f w (numbers_at v) j) k)

  pub values-carried : (t q : List ℕ) (Δ : ℕ)
      → values_of key t q Δ ≡ concat (n + m) (λ j. bare (word first (value over_f (bits d t) (numbers_at q) (small first Δ) j)))
  unfolding values_of value_words
  values-carried t q Δ = λ s. concat (n + m) (λ j. one j s)
    where
      one : (j : ℕ) → words first (value over_k (bits d t) (elements first d (bares q)) (element first (bare Δ)) j) ≡ bare (word first (value over_f (bits d t) (numbers_at q) (small first Δ) j))
      one j = (λ s. words first (value over_k (bits d t) (at-bares q s) (element-bare Δ s) j))
          ∙ ap (words first) (value_along (embed first) (key_of first n m lent) d (bits d t) (numbers_at q) (small first Δ) j) ∙ words-embed (value over_f (bits d t) (numbers_at q) (small first Δ) j)

  -- honest numbers over F are honest in K
  pub honest-carried : (u q : List ℕ) (Δ : ℕ) → Honest over_f (bits d u) (numbers_at v) (numbers_at q) (small first Δ) → HonestNumbers first over_k u (bares v) (bares q) (bare Δ)
  honest-carried u q Δ h i k a b = (λ t. at-bares q t i k) ∙ ap (embed first).map (h i k a b) ∙ (embed first).map-add _ _
      ∙ ap₂ (K first).add ((embed first).map-mul _ _ ∙ ap₂ (K first).mul (map-bit (embed first) (bits d u i k)) (sym (element-bare Δ))) (λ t. sym (at-bares v) t i k)

  -- the weighted sum of the polynomials
  f-carried : (w : ℕ → ℕ → Bool) (v : ℕ → ℕ → (F first).Carrier) (α : ℕ → (F first).Carrier)
      → f over_k w (λ i k. (embed first).map (v i k)) (λ j. (embed first).map (α j)) ≡ each (embed first) (suc d) (f over_f w v α)
  unfolding f weighted
  f-carried w v α = sym (map-total (each-polynomial (embed first)) d (n + m) _
      ∙ ap (total (polynomials (K first)) d (n + m)) (λ t j. ((each-polynomial (embed first)).map-scaled d (α j) (polynomial over_f w v j) ∙ ap ((polynomials (K first)).scaled d ((embed first).map (α j))) (same j)) t))
    where
      same : (j : ℕ) → each (embed first) (suc d) (polynomial over_f w v j) ≡ polynomial over_k w (λ i k. (embed first).map (v i k)) j
      same j = coefficient_ext (K first) (suc d) _ _ (λ k l. coefficient-each (embed first) (suc d) (polynomial over_f w v j) k ∙ sym (polynomial_along (embed first) (key_of first n m lent) d w v j k))

  -- the proof that is written is that over F
  pub proof-carried : (positions : List ℕ) → proof_words first over_k (witness_of n positions) (bares v) (bares r) (bares s) (bares α)
      ≡ concat d (λ k. bare (word first (coefficient (F first) d (proof over_f (witness_of n positions) (numbers_at v) (small_at first r) (small_at first s) (small_at first α)) k)))
  unfolding proof_words proof
  proof-carried positions = concat_cong d _ _ (λ k l. ap (words first) (one k l) ∙ words-embed _)
    where
      w : ℕ → ℕ → Bool
      w = witness_of n positions

      at : (y : List ℕ) → element_at first (bares y) ≡ (λ j. (embed first).map (small_at first y j))
      at y = λ t j. element-bares y j t

      summed : (k : ℕ) → coefficient (K first) (suc d) (f over_k w (elements first d (bares v)) (element_at first (bares α))) k ≡ (embed first).map (coefficient (F first) (suc d) (f over_f w (numbers_at v) (small_at first α)) k)
      summed k = (λ t. coefficient (K first) (suc d) (f over_k w (at-bares v t) (at α t)) k) ∙ ap (λ p. coefficient (K first) (suc d) p k) (f-carried w (numbers_at v) (small_at first α))
          ∙ coefficient-each (embed first) (suc d) (f over_f w (numbers_at v) (small_at first α)) k

      hidden : (k : ℕ) → mask (K first) (d - 1) (element_at first (bares r)) (element_at first (bares s)) k ≡ (embed first).map (mask (F first) (d - 1) (small_at first r) (small_at first s) k)
      hidden k = (λ t. mask (K first) (d - 1) (at r t) (at s t) k) ∙ sym (mask_along (embed first) (d - 1) (small_at first r) (small_at first s) k)

      one : (k : ℕ) → k < d → coefficient (K first) d (proof over_k w (elements first d (bares v)) (element_at first (bares r)) (element_at first (bares s)) (element_at first (bares α))) k
          ≡ (embed first).map (coefficient (F first) d (proof over_f w (numbers_at v) (small_at first r) (small_at first s) (small_at first α)) k)
      one k l = coefficient-vector (K first) d _ k l ∙ ap₂ (K first).add (summed k) (hidden k) ∙ sym ((embed first).map-add _ _) ∙ ap (embed first).map (sym (coefficient-vector (F first) d _ k l))
