-- The factors of a product may be multiplied from the last to the first.
use mathlib.Core.Path.{◌≡◌, refl, sym, ◌∙◌, ap, ap₂}
use mathlib.Core.Bool.{Bool, not}
use Prim.Native.Nat.{ℕ, zero, suc, ◌-◌}
use native.Mathlib.Omega.{arith}
use Rattle.field.specs.Ring.{Ring}
use Rattle.field.specs.RingLaws.{ring, mul_left_comm}
use Rattle.field.specs.Binary.{xor, bit}
use Rattle.constraints.specs.Graded.{Graded, product, Polynomial, coefficient, linear, raised, linear_times, polynomials, point}
use Rattle.constraints.specs.Digits.{digit, factor, z}
use Rattle.constraints.proofs.Coefficients.{coefficient_ext, coefficient-times}

module _ {K : Ring} (G : Graded K) (swap : (d : ℕ) (a b : G.Value 1) (p : G.Value d) → G.times (suc d) a (G.times d b p) ≡ G.times (suc d) b (G.times d a p)) where
  product-first : (d : ℕ) (f : ℕ → G.Value 1) → product G (suc d) f ≡ G.times d (f 0) (product G d (λ k. f (suc k)))
  unfolding product
  product-first zero f = refl
  product-first (suc d) f = ap (G.times (suc d) (f (suc d))) (product-first d f) ∙ swap d (f (suc d)) (f 0) (product G d (λ k. f (suc k)))

  pub product_reversed : (d : ℕ) (f : ℕ → G.Value 1) → product G d f ≡ product G d (λ k. f (d - 1 - k))
  unfolding product
  product_reversed zero f = refl
  product_reversed (suc d) f = ap (G.times d (f d)) (product_reversed d f)
      ∙ sym (product-first d (λ k. f (suc d - 1 - k)) ∙ ap₂ (λ a (g : ℕ → ℕ). G.times d (f a) (product G d (λ k. f (g k)))) first (λ t k. rest k t))
    where
      first : suc d - 1 - 0 ≡ d
      first = omega arith

      rest : (k : ℕ) → suc d - 1 - suc k ≡ d - 1 - k
      rest k = omega arith

module _ (K : Ring) where
  open K use {Carrier, zero as 𝟘, one as 𝟙, add as ◌⊕◌, mul as ◌⊗◌}

  infixl 60 ◌⊕◌
  infixl 70 ◌⊗◌
  -- a product of elements
  pub point_reversed : (x : Carrier) (d : ℕ) (f : ℕ → Carrier) → product (point K x) d f ≡ product (point K x) d (λ k. f (d - 1 - k))
  point_reversed x = product_reversed (point K x) (λ d. mul_left_comm K)

  linear_swap : (d : ℕ) (a b : Polynomial K 1) (p : Polynomial K d) → linear_times K (suc d) a (linear_times K d b p) ≡ linear_times K (suc d) b (linear_times K d a p)
  unfolding raised
  linear_swap d a b p = coefficient_ext K (suc (suc (suc d))) _ _ (λ k l. go k)
    where
      c : ℕ → Carrier
      c = coefficient K (suc d) p

      twice : (a b : Polynomial K 1) (k : ℕ) → coefficient K (suc (suc (suc d))) (linear_times K (suc d) a (linear_times K d b p)) k
          ≡ a.1.0 ⊗ raised K (λ i. b.1.0 ⊗ raised K c i ⊕ b.0 ⊗ c i) k ⊕ a.0 ⊗ (b.1.0 ⊗ raised K c k ⊕ b.0 ⊗ c k)
      twice a b k = coefficient-times K (suc d) a (linear_times K d b p) k ∙ ap (λ (f : ℕ → Carrier). a.1.0 ⊗ raised K f k ⊕ a.0 ⊗ f k) (λ t i. coefficient-times K d b p i t)

      zeroth : (a v b w c : Carrier) → a ⊗ 𝟘 ⊕ v ⊗ (b ⊗ 𝟘 ⊕ w ⊗ c) ≡ b ⊗ 𝟘 ⊕ w ⊗ (a ⊗ 𝟘 ⊕ v ⊗ c)
      zeroth a v b w c = simp ring

      next : (a v b w c₀ c₁ c₂ : Carrier) → a ⊗ (b ⊗ c₀ ⊕ w ⊗ c₁) ⊕ v ⊗ (b ⊗ c₁ ⊕ w ⊗ c₂) ≡ b ⊗ (a ⊗ c₀ ⊕ v ⊗ c₁) ⊕ w ⊗ (a ⊗ c₁ ⊕ v ⊗ c₂)
      next a v b w c₀ c₁ c₂ = simp ring

      go : (k : ℕ) → coefficient K (suc (suc (suc d))) (linear_times K (suc d) a (linear_times K d b p)) k ≡ coefficient K (suc (suc (suc d))) (linear_times K (suc d) b (linear_times K d a p)) k
      go zero = twice a b zero ∙ zeroth a.1.0 a.0 b.1.0 b.0 (c zero) ∙ sym (twice b a zero)
      go (suc k) = twice a b (suc k) ∙ next a.1.0 a.0 b.1.0 b.0 (raised K c k) (c k) (c (suc k)) ∙ sym (twice b a (suc k))

  pub polynomial_reversed : (d : ℕ) (f : ℕ → Polynomial K 1) → product (polynomials K) d f ≡ product (polynomials K) d (λ k. f (d - 1 - k))
  polynomial_reversed = product_reversed (polynomials K) linear_swap

  -- the coefficients of the product of the last t of d factors b k X + v k
  unfoldable pub tail : (d : ℕ) (b v : ℕ → Carrier) → ℕ → ℕ → Carrier
  tail d b v zero zero = 𝟙
  tail d b v zero (suc k) = 𝟘
  tail d b v (suc t) k = b (d - 1 - t) ⊗ raised K (tail d b v t) k ⊕ v (d - 1 - t) ⊗ tail d b v t k

  last : (d : ℕ) (b v : ℕ → Carrier) (t k : ℕ) → coefficient K (suc t) (product (polynomials K) t (λ k. linear K (b (d - 1 - k)) (v (d - 1 - k)))) k ≡ tail d b v t k
  unfolding product tail coefficient
  last d b v zero zero = refl
  last d b v zero (suc k) = refl
  last d b v (suc t) k = coefficient-times K t (linear K (b (d - 1 - t)) (v (d - 1 - t))) (product (polynomials K) t (λ k. linear K (b (d - 1 - k)) (v (d - 1 - k)))) k
      ∙ ap (λ (f : ℕ → Carrier). b (d - 1 - t) ⊗ raised K f k ⊕ v (d - 1 - t) ⊗ f k) (λ i k. last d b v t k i)

  -- the product of all d factors
  pub product-tail : (d : ℕ) (b v : ℕ → Carrier) (k : ℕ) → coefficient K (suc d) (product (polynomials K) d (λ k. linear K (b k) (v k))) k ≡ tail d b v d k
  product-tail d b v k = ap (λ p. coefficient K (suc d) p k) (polynomial_reversed d (λ k. linear K (b k) (v k))) ∙ last d b v d k

  -- coefficient k of z(i,j)
  pub z-tail : (d : ℕ) (w : ℕ → ℕ → Bool) (v : ℕ → ℕ → Carrier) (i j k : ℕ)
      → coefficient K (suc d) (z (polynomials K) d (λ i k c. linear K (bit K (xor (w i k) c)) (v i k)) i j) k ≡ tail d (λ k. bit K (xor (w i k) (not (digit d k j)))) (v i) d k
  unfolding z factor
  z-tail d w v i j k = product-tail d (λ k. bit K (xor (w i k) (not (digit d k j)))) (v i) k
