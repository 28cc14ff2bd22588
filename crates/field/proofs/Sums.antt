-- Sums in a ring.
use mathlib.Core.Path.{◌≡◌, refl, sym, ◌∙◌, ap, ap₂}
use Prim.Native.Nat.{ℕ, zero, suc, ◌<◌}
use native.Mathlib.Omega.{arith}
use Rattle.field.specs.Ring.{Ring}
use Rattle.field.specs.RingLaws.{ring, mul-zero}
use Rattle.field.specs.Sums.{summed, sigma}
use Rattle.field.specs.SumLaws.{map-summed}

module _ (R : Ring) where
  open R use {Carrier, zero as 𝟘, one as 𝟙, add as ◌⊕◌, mul as ◌⊗◌}

  infixl 60 ◌⊕◌
  infixl 70 ◌⊗◌
  pub sigma-zero : (n : ℕ) (f : ℕ → Carrier) → ((i : ℕ) → i < n → f i ≡ 𝟘) → sigma R n f ≡ 𝟘
  unfolding summed
  sigma-zero zero f h = refl
  sigma-zero (suc n) f h = ap₂ ◌⊕◌ (sigma-zero n f (λ i l. h i (omega arith))) (h n (omega arith)) ∙ R.add-zero 𝟘

  pub sigma-add : (n : ℕ) (f g : ℕ → Carrier) → sigma R n (λ i. f i ⊕ g i) ≡ sigma R n f ⊕ sigma R n g
  unfolding summed
  sigma-add zero f g = sym (R.add-zero 𝟘)
  sigma-add (suc n) f g = ap (λ s. s ⊕ (f n ⊕ g n)) (sigma-add n f g) ∙ inner (sigma R n f) (sigma R n g) (f n) (g n)
    where
      inner : (a b c d : Carrier) → a ⊕ b ⊕ (c ⊕ d) ≡ a ⊕ c ⊕ (b ⊕ d)
      inner a b c d = simp ring

  pub sigma-mul : (n : ℕ) (c : Carrier) (f : ℕ → Carrier) → c ⊗ sigma R n f ≡ sigma R n (λ i. c ⊗ f i)
  sigma-mul n c f = map-summed 𝟘 ◌⊕◌ 𝟘 ◌⊕◌ (λ a. c ⊗ a) (mul-zero R c) (R.mul-add c) n f

  -- the first summand apart
  pub sigma-first : (n : ℕ) (f : ℕ → Carrier) → sigma R (suc n) f ≡ f 0 ⊕ sigma R n (λ k. f (suc k))
  unfolding summed
  sigma-first zero f = R.add_comm 𝟘 (f 0)
  sigma-first (suc n) f = ap (λ s. s ⊕ f (suc n)) (sigma-first n f) ∙ R.add_assoc (f 0) (sigma R n (λ k. f (suc k))) (f (suc n))
