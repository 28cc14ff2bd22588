-- One evaluation of polynomials, `at`, that keeps all operations: it gives a polynomial at the challenge, and its top coefficient.
use mathlib.Core.Path.{◌≡◌, refl, sym, ◌∙◌, ap, ap₂}
use Prim.Native.Nat.{ℕ, zero, suc, ◌-◌, ◌<◌}
use native.Mathlib.Omega.{arith}
use Rattle.field.specs.Ring.{Ring, identity}
use Rattle.field.specs.RingLaws.{ring, zero-add, zero-mul}
use Rattle.field.specs.Vector.{zeros, sum, scale}
use Rattle.constraints.specs.Graded.{product, power, Polynomial, coefficient, top, eval, linear, raised, linear_times, polynomials, point}
use Rattle.field.specs.Sums.{summed, sigma, pow}
use Rattle.constraints.specs.GradedLaws.{Morphism}
use Rattle.field.specs.SumLaws.{summed_cong}
use Rattle.field.proofs.Sums.{sigma-zero, sigma-add, sigma-mul, sigma-first}
use Rattle.constraints.proofs.Coefficients.{coefficient-zeros, coefficient-sum, coefficient-scale, coefficient-above, coefficient-times}

module _ (K : Ring) where
  open K use {Carrier, zero as 𝟘, one as 𝟙, add as ◌⊕◌, mul as ◌⊗◌}

  infixl 60 ◌⊕◌
  infixl 70 ◌⊗◌
  pow-suc : (x : Carrier) (k : ℕ) → pow K x (suc k) ≡ x ⊗ pow K x k
  unfolding pow
  pow-suc x k = refl

  pub pow-one : (k : ℕ) → pow K 𝟙 k ≡ 𝟙
  unfolding pow
  pow-one zero = refl
  pow-one (suc k) = ap (λ s. 𝟙 ⊗ s) (pow-one k) ∙ K.mul-one 𝟙

  -- X^d with x for X
  pub power-point : (x : Carrier) (d : ℕ) → power (point K x) d ≡ pow K x d
  unfolding power product pow
  power-point x zero = refl
  power-point x (suc d) = ap (λ s. x ⊗ s) (power-point x d)

  module _ (x y : Carrier) where
    -- x^k y^(d - k)
    monomial : ℕ → ℕ → Carrier
    monomial d k = pow K x k ⊗ pow K y (d - k)

    -- the sum of each coefficient, that of X^k, times x^k y^(d - k)
    pub at : (d : ℕ) → Polynomial K d → Carrier
    at d p = sigma K (suc d) (λ k. coefficient K (suc d) p k ⊗ monomial d k)

    pub at-nil : (d : ℕ) → at d (zeros K (suc d)) ≡ 𝟘
    unfolding at
    at-nil d = sigma-zero K (suc d) _ (λ k l. ap (λ c. c ⊗ monomial d k) (coefficient-zeros K (suc d) k) ∙ zero-mul K (monomial d k))

    pub at-plus : (d : ℕ) (p q : Polynomial K d) → at d (sum K (suc d) p q) ≡ at d p ⊕ at d q
    unfolding at
    at-plus d p q = summed_cong 𝟘 ◌⊕◌ (suc d) _ _ (λ k l. ap (λ c. c ⊗ monomial d k) (coefficient-sum K (suc d) p q k) ∙ inner (coefficient K (suc d) p k) (coefficient K (suc d) q k) (monomial d k))
        ∙ sigma-add K (suc d) (λ k. coefficient K (suc d) p k ⊗ monomial d k) (λ k. coefficient K (suc d) q k ⊗ monomial d k)
      where
        inner : (a b c : Carrier) → (a ⊕ b) ⊗ c ≡ a ⊗ c ⊕ b ⊗ c
        inner a b c = simp ring

    pub at_scaled : (d : ℕ) (c : Carrier) (p : Polynomial K d) → at d (scale K (suc d) c p) ≡ c ⊗ at d p
    unfolding at
    at_scaled d c p = summed_cong 𝟘 ◌⊕◌ (suc d) _ _ (λ k l. ap (λ a. a ⊗ monomial d k) (coefficient-scale K (suc d) c p k) ∙ K.mul_assoc c (coefficient K (suc d) p k) (monomial d k))
        ∙ sym (sigma-mul K (suc d) c (λ k. coefficient K (suc d) p k ⊗ monomial d k))

    pub at_unit : at 0 (𝟙, tt) ≡ 𝟙
    unfolding at monomial coefficient pow summed
    at_unit = inner
      where
        inner : 𝟘 ⊕ 𝟙 ⊗ (𝟙 ⊗ 𝟙) ≡ 𝟙
        inner = simp ring

    pub at-linear : (b v : Carrier) → at 1 (linear K b v) ≡ b ⊗ x ⊕ v ⊗ y
    unfolding at monomial coefficient pow summed
    at-linear b v = inner
      where
        inner : 𝟘 ⊕ v ⊗ (𝟙 ⊗ (y ⊗ 𝟙)) ⊕ b ⊗ (x ⊗ 𝟙 ⊗ 𝟙) ≡ b ⊗ x ⊕ v ⊗ y
        inner = simp ring

    pub at-X : at 1 (linear K 𝟙 𝟘) ≡ x
    at-X = at-linear 𝟙 𝟘 ∙ simp ring

    -- X p, and p with a coefficient more, which is zero
    at-raised : (d : ℕ) (p : Polynomial K d) → sigma K (suc (suc d)) (λ k. raised K (coefficient K (suc d) p) k ⊗ monomial (suc d) k) ≡ x ⊗ at d p
    unfolding at raised monomial
    at-raised d p = sigma-first K (suc d) (λ k. raised K (coefficient K (suc d) p) k ⊗ monomial (suc d) k)
        ∙ ap₂ ◌⊕◌ (zero-mul K (monomial (suc d) 0)) (summed_cong 𝟘 ◌⊕◌ (suc d) _ _ (λ k l. ap₂ (λ a b. coefficient K (suc d) p k ⊗ (a ⊗ pow K y b)) (pow-suc x k) (less k) ∙ inner (coefficient K (suc d) p k) (pow K x k) (pow K y (d - k))))
        ∙ zero-add K _ ∙ sym (sigma-mul K (suc d) x (λ k. coefficient K (suc d) p k ⊗ monomial d k))
      where
        less : (k : ℕ) → suc d - suc k ≡ d - k
        less k = omega arith

        inner : (a b c : Carrier) → a ⊗ (x ⊗ b ⊗ c) ≡ x ⊗ (a ⊗ (b ⊗ c))
        inner a b c = simp ring

    at_above : (d : ℕ) (p : Polynomial K d) → sigma K (suc (suc d)) (λ k. coefficient K (suc d) p k ⊗ monomial (suc d) k) ≡ y ⊗ at d p
    unfolding at summed monomial
    at_above d p = ap₂ ◌⊕◌ (summed_cong 𝟘 ◌⊕◌ (suc d) _ _ (λ k l. ap (λ b. coefficient K (suc d) p k ⊗ (pow K x k ⊗ pow K y b)) (more k l) ∙ ap (λ b. coefficient K (suc d) p k ⊗ (pow K x k ⊗ b)) (pow-suc y (d - k)) ∙ inner (coefficient K (suc d) p k) (pow K x k) (pow K y (d - k))))
        (ap (λ c. c ⊗ monomial (suc d) (suc d)) (coefficient-above K (suc d) p (suc d) (omega arith)) ∙ zero-mul K (monomial (suc d) (suc d)))
        ∙ K.add-zero _ ∙ sym (sigma-mul K (suc d) y (λ k. coefficient K (suc d) p k ⊗ monomial d k))
      where
        more : (k : ℕ) → k < suc d → suc d - k ≡ suc (d - k)
        more k l = omega arith

        inner : (a b c : Carrier) → a ⊗ (b ⊗ (y ⊗ c)) ≡ y ⊗ (a ⊗ (b ⊗ c))
        inner a b c = simp ring

    apart : (d : ℕ) (l : Polynomial K 1) (p : Polynomial K d)
        → at (suc d) (linear_times K d l p) ≡ sigma K (suc (suc d)) (λ k. l.1.0 ⊗ (raised K (coefficient K (suc d) p) k ⊗ monomial (suc d) k) ⊕ l.0 ⊗ (coefficient K (suc d) p k ⊗ monomial (suc d) k))
    unfolding at
    apart d l p = summed_cong 𝟘 ◌⊕◌ (suc (suc d)) _ _ (λ k h. ap (λ c. c ⊗ monomial (suc d) k) (coefficient-times K d l p k) ∙ inner l.1.0 (raised K (coefficient K (suc d) p) k) l.0 (coefficient K (suc d) p k) (monomial (suc d) k))
      where
        inner : (b r v c m : Carrier) → (b ⊗ r ⊕ v ⊗ c) ⊗ m ≡ b ⊗ (r ⊗ m) ⊕ v ⊗ (c ⊗ m)
        inner b r v c m = simp ring

    pub at-times : (d : ℕ) (l : Polynomial K 1) (p : Polynomial K d) → at (suc d) (linear_times K d l p) ≡ at 1 l ⊗ at d p
    at-times d l p = apart d l p
        ∙ sigma-add K (suc (suc d)) (λ k. l.1.0 ⊗ (raised K (coefficient K (suc d) p) k ⊗ monomial (suc d) k)) (λ k. l.0 ⊗ (coefficient K (suc d) p k ⊗ monomial (suc d) k))
        ∙ ap₂ ◌⊕◌ (sym (sigma-mul K (suc (suc d)) l.1.0 (λ k. raised K (coefficient K (suc d) p) k ⊗ monomial (suc d) k)) ∙ ap (λ s. l.1.0 ⊗ s) (at-raised d p))
        (sym (sigma-mul K (suc (suc d)) l.0 (λ k. coefficient K (suc d) p k ⊗ monomial (suc d) k)) ∙ ap (λ s. l.0 ⊗ s) (at_above d p))
        ∙ joined l.1.0 l.0 (at d p) ∙ ap (λ s. s ⊗ at d p) (sym (at-linear l.1.0 l.0))
      where
        joined : (b v u : Carrier) → b ⊗ (x ⊗ u) ⊕ v ⊗ (y ⊗ u) ≡ (b ⊗ x ⊕ v ⊗ y) ⊗ u
        joined b v u = simp ring

    abbrev pub at-point : Morphism (identity K) (polynomials K) (point K x)
    at-point = record { map = at; map-nil = at-nil; map-plus = at-plus; map-scaled = at_scaled; map-unit = at_unit; map-X = at-X; map-times = at-times }

  -- at y = 1, the polynomial at x
  pub at-eval : (x : Carrier) (d : ℕ) (p : Polynomial K d) → at x 𝟙 d p ≡ eval K (suc d) p x
  unfolding at eval monomial
  at-eval x d p = summed_cong 𝟘 ◌⊕◌ (suc d) _ _ (λ k l. ap (λ s. coefficient K (suc d) p k ⊗ (pow K x k ⊗ s)) (pow-one (d - k)) ∙ ap (λ s. coefficient K (suc d) p k ⊗ s) (K.mul-one (pow K x k)))

  -- at x = 1 and y = 0, its top coefficient
  pub at_top : (d : ℕ) (p : Polynomial K d) → at 𝟙 𝟘 d p ≡ top K d p
  unfolding at summed monomial pow
  at_top d p = ap₂ ◌⊕◌ (sigma-zero K d _ (λ k l. ap (λ e. coefficient K (suc d) p k ⊗ (pow K 𝟙 k ⊗ pow K 𝟘 e)) (more k l) ∙ none (coefficient K (suc d) p k) (pow K 𝟙 k) (pow K 𝟘 (d - suc k))))
      (ap₂ (λ a e. coefficient K (suc d) p d ⊗ (a ⊗ pow K 𝟘 e)) (pow-one d) same) ∙ last (coefficient K (suc d) p d)
    where
      more : (k : ℕ) → k < d → d - k ≡ suc (d - suc k)
      more k l = omega arith

      same : d - d ≡ 0
      same = omega arith

      none : (a b c : Carrier) → a ⊗ (b ⊗ (𝟘 ⊗ c)) ≡ 𝟘
      none a b c = simp ring

      last : (a : Carrier) → 𝟘 ⊕ a ⊗ (𝟙 ⊗ 𝟙) ≡ a
      last a = simp ring
