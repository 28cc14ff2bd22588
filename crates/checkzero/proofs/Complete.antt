-- The verifier's side is f plus mask at the challenge, in every modelling: an honest proof is accepted where all tops are zero.
use mathlib.Core.Path.{◌≡◌, refl, sym, ◌∙◌, ap, ap₂}
use mathlib.Core.Bool.{Bool, true, false, cond}
use Prim.Native.Nat.{ℕ, zero, suc, ◌-◌, ◌<◌, ◌≤◌}
use native.Mathlib.Omega.{arith}
use borrow.Author.Tests.{ne_eqb, eqb-true, eqb-false}
use lib.Dec.{eqb}
use Rattle.field.specs.Ring.{Ring}
use Rattle.field.specs.RingLaws.{ring, mul-zero, zero-mul, zero-add}
use Rattle.constraints.specs.Graded.{Polynomial, coefficient, top, eval, polynomials}
use Rattle.field.specs.Sums.{summed, sigma, pow}
use Rattle.constraints.specs.GradedLaws.{map-total}
use Rattle.field.specs.SumLaws.{summed_cong}
use Rattle.constraints.specs.System.{System, masked, polynomial, Honest}
use Rattle.field.proofs.Sums.{sigma-zero, sigma-add}
use Rattle.constraints.proofs.Coefficients.{coefficient-vector}
use Rattle.constraints.proofs.Evaluation.{at, at-point, at-eval, at_top}
use Rattle.constraints.proofs.Agreement.{agreement}
use Rattle.checkzero.specs.CheckZero.{shifted, mask, mask_sum, weighted, f, proof, expected, Accepts, HonestMasks}

module _ (K : Ring) where
  open K use {Carrier, zero as 𝟘, one as 𝟙, add as ◌⊕◌, mul as ◌⊗◌}

  infixl 60 ◌⊕◌
  infixl 70 ◌⊗◌
  -- of a sum in which only summand c counts, that one
  sigma-pick : (n c : ℕ) (a : Carrier) (g : ℕ → Carrier) → c < n → sigma K n (λ i. cond (eqb i c) a 𝟘 ⊗ g i) ≡ a ⊗ g c
  unfolding summed
  sigma-pick zero c a g h = absurd (omega arith)
  sigma-pick (suc n) c a g h = last (eqb n c) refl (sigma-pick n c a g)
    where
      other : (i : ℕ) → (i ≡ c → ⊥) → cond (eqb i c) a 𝟘 ⊗ g i ≡ 𝟘
      other i d = ap (λ b. cond b a 𝟘 ⊗ g i) (ne_eqb i c d) ∙ zero-mul K (g i)

      last : (b : Bool) → eqb n c ≡ b → (c < n → sigma K n (λ i. cond (eqb i c) a 𝟘 ⊗ g i) ≡ a ⊗ g c) → sigma K n (λ i. cond (eqb i c) a 𝟘 ⊗ g i) ⊕ cond (eqb n c) a 𝟘 ⊗ g n ≡ a ⊗ g c
      last true e before = ap₂ ◌⊕◌ (sigma-zero K n _ (λ i l. other i (λ p. omega (arith, eqb-true n c e)))) (ap₂ (λ b k. cond b a 𝟘 ⊗ g k) e (eqb-true n c e)) ∙ zero-add K (a ⊗ g c)
      last false e before = ap₂ ◌⊕◌ (before (omega (arith, eqb-false n c e))) (ap (λ b. cond b a 𝟘 ⊗ g n) e ∙ zero-mul K (g n)) ∙ K.add-zero (a ⊗ g c)

  -- X^k (s X + r) at Δ
  shifted_at : (n k : ℕ) (s r Δ : Carrier) → suc k < n → sigma K n (λ i. shifted K k s r i ⊗ pow K Δ i) ≡ pow K Δ k ⊗ (s ⊗ Δ ⊕ r)
  unfolding shifted
  shifted_at n k s r Δ h = summed_cong 𝟘 ◌⊕◌ n _ _ (λ i l. inner (cond (eqb i k) r 𝟘) (cond (eqb i (suc k)) s 𝟘) (pow K Δ i))
      ∙ sigma-add K n (λ i. cond (eqb i k) r 𝟘 ⊗ pow K Δ i) (λ i. cond (eqb i (suc k)) s 𝟘 ⊗ pow K Δ i)
      ∙ ap₂ ◌⊕◌ (sigma-pick n k r (pow K Δ) (omega arith)) (sigma-pick n (suc k) s (pow K Δ) h ∙ ap (λ p. s ⊗ p) (more k)) ∙ joined (pow K Δ k)
    where
      inner : (a b c : Carrier) → (a ⊕ b) ⊗ c ≡ a ⊗ c ⊕ b ⊗ c
      inner a b c = simp ring

      more : (k : ℕ) → pow K Δ (suc k) ≡ Δ ⊗ pow K Δ k
      more k = unfold pow in refl

      joined : (p : Carrier) → r ⊗ p ⊕ s ⊗ (Δ ⊗ p) ≡ p ⊗ (s ⊗ Δ ⊕ r)
      joined p = simp ring

  -- the mask at Δ, where it has at most n coefficients
  mask_at : (n count : ℕ) (r s : ℕ → Carrier) (Δ : Carrier) → count ≤ n - 1 → sigma K n (λ i. mask K count r s i ⊗ pow K Δ i) ≡ mask_sum K count Δ (λ k. s k ⊗ Δ ⊕ r k)
  unfolding mask mask_sum summed
  mask_at n zero r s Δ h = sigma-zero K n _ (λ i l. zero-mul K (pow K Δ i))
  mask_at n (suc count) r s Δ h = summed_cong 𝟘 ◌⊕◌ n _ _ (λ i l. inner (mask K count r s i) (shifted K count (s count) (r count) i) (pow K Δ i))
      ∙ sigma-add K n (λ i. mask K count r s i ⊗ pow K Δ i) (λ i. shifted K count (s count) (r count) i ⊗ pow K Δ i)
      ∙ ap₂ ◌⊕◌ (mask_at n count r s Δ (omega arith)) (shifted_at n count (s count) (r count) Δ (omega arith))
    where
      inner : (a b c : Carrier) → (a ⊕ b) ⊗ c ≡ a ⊗ c ⊕ b ⊗ c
      inner a b c = simp ring

module _ {K : Ring} (S : System K) (w u : ℕ → ℕ → Bool) (v : ℕ → ℕ → K.Carrier) (r s α : ℕ → K.Carrier) where
  open K use {Carrier, zero as 𝟘, one as 𝟙, add as ◌⊕◌, mul as ◌⊗◌}

  infixl 60 ◌⊕◌
  infixl 70 ◌⊗◌
  abbrev d : ℕ
  d = S.degree

  abbrev p : ℕ → Polynomial K S.degree
  p = polynomial S w v

  -- the evaluation of f, by those of the polynomials
  at_f : (x y : Carrier) → at K x y d (f S w v α) ≡ sigma K S.size (λ j. α j ⊗ at K x y d (p j))
  unfolding f weighted
  at_f x y = map-total (at-point K x y) d S.size (λ j. (polynomials K).scaled d (α j) (p j)) ∙ ap (sigma K S.size) (λ t j. (at-point K x y).map-scaled d (α j) (p j) t)

  -- the coefficients of the proof, at Δ
  proof-at : (Δ : Carrier) → eval K d (proof S w v r s α) Δ ≡ sigma K d (λ k. coefficient K (suc d) (f S w v α) k ⊗ pow K Δ k) ⊕ mask_sum K (d - 1) Δ (λ k. s k ⊗ Δ ⊕ r k)
  unfolding eval proof
  proof-at Δ = summed_cong 𝟘 ◌⊕◌ d _ _ (λ k l. ap (λ c. c ⊗ pow K Δ k) (coefficient-vector K d _ k l) ∙ inner (coefficient K (suc d) (f S w v α) k) (mask K (d - 1) r s k) (pow K Δ k))
      ∙ sigma-add K d (λ k. coefficient K (suc d) (f S w v α) k ⊗ pow K Δ k) (λ k. mask K (d - 1) r s k ⊗ pow K Δ k)
      ∙ ap (λ m. sigma K d (λ k. coefficient K (suc d) (f S w v α) k ⊗ pow K Δ k) ⊕ m) (mask_at K d (d - 1) r s Δ (omega arith))
    where
      inner : (a b c : Carrier) → (a ⊕ b) ⊗ c ≡ a ⊗ c ⊕ b ⊗ c
      inner a b c = simp ring

  module _ (q : ℕ → ℕ → Carrier) (Δ : Carrier) (numbers : ℕ → Carrier) (honest : Honest S u v q Δ) (honestMasks : HonestMasks S r s Δ numbers) where
    -- the verifier's side, with the top of f
    pub expected-at : expected S (masked w u) q Δ numbers α ≡ eval K d (proof S w v r s α) Δ ⊕ top K d (f S w v α) ⊗ pow K Δ d
    unfolding expected weighted
    expected-at =
        ap₂ ◌⊕◌
        (summed_cong 𝟘 ◌⊕◌ S.size _ _ (λ j l. ap (λ y. α j ⊗ y) (agreement S w u v q Δ honest j ∙ sym (at-eval K Δ d (p j)))) ∙ sym (at_f Δ 𝟙) ∙ at-eval K Δ d (f S w v α) ∙ split)
        masks
        ∙ swap (sigma K d (λ k. coefficient K (suc d) (f S w v α) k ⊗ pow K Δ k)) (top K d (f S w v α) ⊗ pow K Δ d) (mask_sum K (d - 1) Δ (λ k. s k ⊗ Δ ⊕ r k))
        ∙ ap (λ y. y ⊕ top K d (f S w v α) ⊗ pow K Δ d) (sym (proof-at Δ))
      where
        split : eval K (suc d) (f S w v α) Δ ≡ sigma K d (λ k. coefficient K (suc d) (f S w v α) k ⊗ pow K Δ k) ⊕ top K d (f S w v α) ⊗ pow K Δ d
        split = unfold eval summed in refl

        masks : mask_sum K (d - 1) Δ numbers ≡ mask_sum K (d - 1) Δ (λ k. s k ⊗ Δ ⊕ r k)
        masks = unfold mask_sum in summed_cong 𝟘 ◌⊕◌ (d - 1) _ _ (λ k l. ap (λ y. pow K Δ k ⊗ y) (honestMasks k l))

        swap : (a b c : Carrier) → a ⊕ b ⊕ c ≡ a ⊕ c ⊕ b
        swap a b c = simp ring

    -- where all tops are zero, the honest proof is accepted
    pub complete : ((j : ℕ) → j < S.size → top K d (polynomial S w v j) ≡ 𝟘) → Accepts S (masked w u) q Δ numbers α (proof S w v r s α)
    complete h = sym (expected-at ∙ ap (λ y. eval K d (proof S w v r s α) Δ ⊕ y ⊗ pow K Δ d) top-f ∙ inner (eval K d (proof S w v r s α) Δ) (pow K Δ d))
      where
        top-f : top K d (f S w v α) ≡ 𝟘
        top-f = sym (at_top K d (f S w v α)) ∙ at_f 𝟙 𝟘 ∙ sigma-zero K S.size _ (λ j l. ap (λ y. α j ⊗ y) (at_top K d (p j) ∙ h j l) ∙ mul-zero K (α j))

        inner : (a b : Carrier) → a ⊕ 𝟘 ⊗ b ≡ a
        inner a b = simp ring
