-- Coefficients, one by one: of sums, of multiples, of products with b X + v, of columns and of rows.
use mathlib.Core.Path.{◌≡◌, refl, sym, ◌∙◌, ap, ap₂}
use mathlib.Core.Bool.{Bool, true, false}
use Prim.Native.Nat.{ℕ, zero, suc, ◌<◌, ◌≤◌}
use native.Mathlib.Omega.{arith}
use lib.Dec.{eqb, ltb, eqb-zero-suc, eqb-suc-zero, eqb-suc-suc}
use borrow.Author.Tests.{ltb-true, ltb-false}
use Rattle.field.specs.Ring.{Ring, Hom}
use Rattle.field.specs.RingLaws.{ring}
use Rattle.field.specs.Vector.{Vector, zeros, sum, scale}
use Rattle.field.specs.Word.{vector}
use Rattle.field.proofs.Coordinate.{at, ext, at_sum, at-scale, at-zeros}
use Rattle.field.specs.Binary.{bit}
use Rattle.constraints.specs.Graded.{total, product, power, Polynomial, coefficient, linear, raised, linear_times, polynomials}
use Rattle.field.specs.Sums.{sigma}
use Rattle.field.specs.SumLaws.{map-summed}
use Rattle.constraints.specs.Digits.{Instance, column, x', row}

module _ (K : Ring) where
  open K use {Carrier, zero as 𝟘, one as 𝟙, add as ◌⊕◌, mul as ◌⊗◌}

  infixl 60 ◌⊕◌
  infixl 70 ◌⊗◌
  coefficient-at : (n : ℕ) (p : Vector Carrier n) (k : ℕ) → coefficient K n p k ≡ at K n p k
  unfolding coefficient at
  coefficient-at zero p k = refl
  coefficient-at (suc n) p zero = refl
  coefficient-at (suc n) p (suc k) = coefficient-at n p.1 k

  pub coefficient-zeros : (n k : ℕ) → coefficient K n (zeros K n) k ≡ 𝟘
  coefficient-zeros n k = simp coefficient-at (at-zeros K n k)

  pub coefficient-sum : (n : ℕ) (p q : Vector Carrier n) (k : ℕ) → coefficient K n (sum K n p q) k ≡ coefficient K n p k ⊕ coefficient K n q k
  coefficient-sum n p q k = simp coefficient-at (at_sum K n p q k)

  pub coefficient-scale : (n : ℕ) (c : Carrier) (p : Vector Carrier n) (k : ℕ) → coefficient K n (scale K n c p) k ≡ c ⊗ coefficient K n p k
  coefficient-scale n c p k = simp coefficient-at (at-scale K n c p k)

  pub coefficient_ext : (n : ℕ) (p q : Vector Carrier n) → ((k : ℕ) → k < n → coefficient K n p k ≡ coefficient K n q k) → p ≡ q
  coefficient_ext n p q h = ext K n p q (λ k l. sym (coefficient-at n p k) ∙ h k l ∙ coefficient-at n q k)

  pub coefficient-vector : (n : ℕ) (f : ℕ → Carrier) (k : ℕ) → k < n → coefficient K n (vector n f) k ≡ f k
  unfolding coefficient vector
  coefficient-vector zero f k h = absurd (omega arith)
  coefficient-vector (suc n) f zero h = refl
  coefficient-vector (suc n) f (suc k) h = coefficient-vector n (λ i. f (suc i)) k (omega arith)

  pub coefficient-above : (n : ℕ) (p : Vector Carrier n) (k : ℕ) → n ≤ k → coefficient K n p k ≡ 𝟘
  unfolding coefficient
  coefficient-above zero p k h = refl
  coefficient-above (suc n) p zero h = absurd (omega arith)
  coefficient-above (suc n) p (suc k) h = coefficient-above n p.1 k (omega arith)

  -- coefficient k of (b X + v) p
  pub coefficient-times : (d : ℕ) (l : Polynomial K 1) (p : Polynomial K d) (k : ℕ)
      → coefficient K (suc (suc d)) (linear_times K d l p) k ≡ l.1.0 ⊗ raised K (coefficient K (suc d) p) k ⊕ l.0 ⊗ coefficient K (suc d) p k
  unfolding linear_times raised
  coefficient-times d l p k = pick (ltb k (suc (suc d))) refl
    where
      f : ℕ → Carrier
      f k = l.1.0 ⊗ raised K (coefficient K (suc d) p) k ⊕ l.0 ⊗ coefficient K (suc d) p k

      above : (k : ℕ) → suc (suc d) ≤ k → raised K (coefficient K (suc d) p) k ≡ 𝟘
      above zero h = refl
      above (suc k) h = coefficient-above (suc d) p k (omega arith)

      none : (b v : Carrier) → 𝟘 ≡ b ⊗ 𝟘 ⊕ v ⊗ 𝟘
      none b v = simp ring

      pick : (b : Bool) → ltb k (suc (suc d)) ≡ b → coefficient K (suc (suc d)) (vector (suc (suc d)) f) k ≡ f k
      pick true e = coefficient-vector (suc (suc d)) f k (ltb-true k (suc (suc d)) e)
      pick false e = coefficient-above (suc (suc d)) (vector (suc (suc d)) f) k (ltb-false k (suc (suc d)) e) ∙ none l.1.0 l.0
          ∙ sym (ap₂ (λ a c. l.1.0 ⊗ a ⊕ l.0 ⊗ c) (above k (ltb-false k (suc (suc d)) e)) (coefficient-above (suc d) p k (omega (arith, ltb-false k (suc (suc d)) e))))

  -- coefficient k of X^d
  pub coefficient-power : (d k : ℕ) → coefficient K (suc d) (power (polynomials K) d) k ≡ bit K (eqb k d)
  unfolding power product coefficient raised
  coefficient-power zero zero = refl
  coefficient-power zero (suc k) = ap (bit K) (sym (eqb-suc-zero k))
  coefficient-power (suc d) k = coefficient-times d (linear K 𝟙 𝟘) (power (polynomials K) d) k ∙ inner (raised K (coefficient K (suc d) (power (polynomials K) d)) k) (coefficient K (suc d) (power (polynomials K) d) k)
      ∙ ap (λ (f : ℕ → Carrier). raised K f k) (λ t i. coefficient-power d i t) ∙ shifted k
    where
      inner : (a c : Carrier) → 𝟙 ⊗ a ⊕ 𝟘 ⊗ c ≡ a
      inner a c = simp ring

      shifted : (k : ℕ) → raised K (λ i. bit K (eqb i d)) k ≡ bit K (eqb k (suc d))
      shifted zero = ap (bit K) (sym (eqb-zero-suc d))
      shifted (suc k) = ap (bit K) (sym (eqb-suc-suc k d))

  -- coefficient k of a sum
  pub coefficient-total : (d n : ℕ) (f : ℕ → Polynomial K d) (k : ℕ) → coefficient K (suc d) (total (polynomials K) d n f) k ≡ sigma K n (λ i. coefficient K (suc d) (f i) k)
  coefficient-total d n f k = map-summed (zeros K (suc d)) (sum K (suc d)) 𝟘 ◌⊕◌ (λ p. coefficient K (suc d) p k) (coefficient-zeros (suc d) k) (λ p q. coefficient-sum (suc d) p q k) n f

-- coefficient k of a column polynomial and of a row polynomial
module _ {F K : Ring} (φ : Hom F K) (key : Instance F) (d : ℕ) (z : ℕ → ℕ → Polynomial K d) (k : ℕ) where
  open key use {n, H, x, y}
  open K use {Carrier, zero as 𝟘, add as ◌⊕◌, mul as ◌⊗◌}

  infixl 60 ◌⊕◌
  infixl 70 ◌⊗◌
  pub coefficient-column : (j : ℕ) → coefficient K (suc d) (column φ key (polynomials K) d z j) k ≡ sigma K n (λ i. coefficient K (suc d) (z i j) k) ⊕ bit K (eqb k d)
  unfolding column
  coefficient-column j = coefficient-sum K (suc d) (total (polynomials K) d n (λ i. z i j)) (power (polynomials K) d) k ∙ ap₂ ◌⊕◌ (coefficient-total K d n (λ i. z i j) k) (coefficient-power K d k)

  coefficient_multiples : (c : ℕ → F.Carrier) (f : ℕ → Polynomial K d)
      → coefficient K (suc d) (total (polynomials K) d n (λ i. scale K (suc d) (φ.map (c i)) (f i))) k ≡ sigma K n (λ i. φ.map (c i) ⊗ coefficient K (suc d) (f i) k)
  coefficient_multiples c f = coefficient-total K d n (λ i. scale K (suc d) (φ.map (c i)) (f i)) k ∙ ap (sigma K n) (λ t i. coefficient-scale K (suc d) (φ.map (c i)) (f i) k t)

  pub coefficient-x' : (i : ℕ) → coefficient K (suc d) (x' φ key (polynomials K) d z i) k ≡ sigma K n (λ j. φ.map (x j) ⊗ coefficient K (suc d) (z i j) k)
  unfolding x'
  coefficient-x' i = coefficient_multiples x (z i)

  pub coefficient-row : (e : ℕ) → coefficient K (suc d) (row φ key (polynomials K) d z e) k ≡ sigma K n (λ i. φ.map (H e i) ⊗ coefficient K (suc d) (x' φ key (polynomials K) d z i) k) ⊕ φ.map (y e) ⊗ bit K (eqb k d)
  unfolding row
  coefficient-row e = coefficient-sum K (suc d) (total (polynomials K) d n (λ i. scale K (suc d) (φ.map (H e i)) (x' φ key (polynomials K) d z i))) (scale K (suc d) (φ.map (y e)) (power (polynomials K) d)) k
      ∙ ap₂ ◌⊕◌ (coefficient_multiples (H e) (x' φ key (polynomials K) d z)) (coefficient-scale K (suc d) (φ.map (y e)) (power (polynomials K) d) k ∙ ap (λ c. φ.map (y e) ⊗ c) (coefficient-power K d k))
