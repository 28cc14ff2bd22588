-- The verifier's product of a row's factors for every column, a factor at a time.
use mathlib.Core.Path.{◌≡◌, refl, sym, ◌∙◌, ap, ap₂, subst₂}
use mathlib.Core.Bool.{Bool, not}
use Prim.Native.Nat.{ℕ, zero, suc, ◌+◌, ◌-◌, ◌^◌, ◌≤◌, ◌<◌}
use native.Mathlib.Numerals.{add-one}
use native.Mathlib.Omega.{arith}
use borrow.Author.Count.{below_more}
use Rattle.field.specs.Binary.{bit}
use Rattle.field.specs.Ring.{Ring}
use Rattle.field.specs.RingLaws.{ring}
use Rattle.row.specs.Polynomial.{chosen, up, times, unit, tail, end, raise}
use Rattle.row.specs.Step.{PutTwo, Twofold}
use Rattle.row.proofs.ProductLaws.{tail-high}
use Rattle.row.proofs.NumberLaws.{chosen-low, chosen-high, chosen-below, halves}

module _ (R : Ring) where
  open R use {Carrier, zero as 𝟘, one as 𝟙, add as ◌⊕◌, mul as ◌⊗◌}

  infixl 60 ◌⊕◌
  infixl 70 ◌⊗◌
  pub raise-none : (y : Carrier) → raise R y 0 ≡ 𝟙
  unfolding raise
  raise-none y = refl

  pub raise_more : (y : Carrier) (i : ℕ) → y ⊗ raise R y i ≡ raise R y (i + 1)
  unfolding raise
  raise_more y i = ap (raise R y) (sym (add-one i))

  pub twofold_more : (f g g₁ : ℕ → Carrier) (h : ℕ) (a b : Carrier) (p : ℕ) (x y : Carrier) → p < h → Twofold R f g h a b p → PutTwo g g₁ p x (p + h) y → x ≡ a ⊗ f p → y ≡ b ⊗ f p → Twofold R f g₁ h a b (p + 1)
  twofold_more f g g₁ h a b p x y l t u ex ey = record {
    low = below_more (λ q. g₁ q ≡ a ⊗ f q) p (λ q m. u.other q (omega arith) (omega arith) ∙ t.low q m) (u.first ∙ ex);
    high = below_more (λ q. g₁ (q + h) ≡ b ⊗ f q) p (λ q m. u.other (q + h) (omega arith) (omega arith) ∙ t.high q m) (u.second ∙ ey);
    ahead = λ q m o. u.other q (omega arith) (omega arith) ∙ t.ahead q (omega arith) o;
  }

  module _ (d : ℕ) (w : ℕ → Bool) (q : ℕ → Carrier) (Δ : Carrier) where
    pub end_below : (j t u : ℕ) → t ≤ d → u ≤ t → end R d w q Δ (j + 2 ^ t) u ≡ end R d w q Δ j u
    unfolding end
    end_below j t zero h l = refl
    end_below j t (suc u) h l = ap₂ (λ b P. (q (d - 1 - u) ⊕ bit R b ⊗ Δ) ⊗ P) (chosen-below d j t u w h (omega arith)) (end_below j t u h (omega arith))

    -- the first 2^t elements are the products of the last t factors
    abbrev pub Ends : (ℕ → Carrier) → ℕ → Type 0
    Ends g t = (j : ℕ) → j < 2 ^ t → g j ≡ end R d w q Δ j t

    pub ends-none : (g : ℕ → Carrier) → g 0 ≡ 𝟙 → Ends g 0
    unfolding end
    ends-none g e zero l = e
    ends-none g e (suc j) l = absurd (omega arith)

    pub ends_more : (g g₁ : ℕ → Carrier) (t : ℕ) → t < d → Ends g t
        → Twofold R g g₁ (2 ^ t) (q (d - 1 - t) ⊕ bit R (not (w (d - 1 - t))) ⊗ Δ) (q (d - 1 - t) ⊕ bit R (w (d - 1 - t)) ⊗ Δ) (2 ^ t) → Ends g₁ (t + 1)
    unfolding end
    ends_more g g₁ t h i l = halves (λ j. g₁ j ≡ end R d w q Δ j (t + 1)) t
        (λ j a. l.low j a ∙ ap₂ (λ b P. (q (d - 1 - t) ⊕ bit R b ⊗ Δ) ⊗ P) (chosen-low d j t w h a) (i j a) ∙ ap (end R d w q Δ j) (sym (add-one t)))
        (λ j a. l.high j a ∙ ap₂ (λ b P. (q (d - 1 - t) ⊕ bit R b ⊗ Δ) ⊗ P) (chosen-high d j t w h a) (i j a ∙ sym (end_below j t t (omega arith) (omega arith))) ∙ ap (end R d w q Δ (j + 2 ^ t)) (sym (add-one t)))

  -- the coefficient of X^t of the product of t factors is their product at q = 0 and Δ = 1: that of the bits
  pub top-end : (d : ℕ) (w : ℕ → Bool) (v : ℕ → Carrier) (j t : ℕ) → tail R d w v j t t ≡ end R d w (λ k. 𝟘) 𝟙 j t
  unfolding tail end unit times up
  top-end d w v j zero = refl
  top-end d w v j (suc t) = ap₂ (λ x y. bit R (chosen d w j (d - 1 - t)) ⊗ x ⊕ v (d - 1 - t) ⊗ y) (top-end d w v j t) (tail-high R d w v j t (suc t) (omega arith)) ∙ inner (bit R (chosen d w j (d - 1 - t))) (v (d - 1 - t)) (end R d w (λ k. 𝟘) 𝟙 j t)
    where
      inner : (b y x : Carrier) → b ⊗ x ⊕ y ⊗ 𝟘 ≡ (𝟘 ⊕ b ⊗ 𝟙) ⊗ x
      inner b y x = simp ring

  pub tops_more : (d : ℕ) (w : ℕ → Bool) (g g₁ : ℕ → Carrier) (t : ℕ) → t < d → Ends d w (λ k. 𝟘) 𝟙 g t
      → Twofold R g g₁ (2 ^ t) (bit R (not (w (d - 1 - t)))) (bit R (w (d - 1 - t))) (2 ^ t) → Ends d w (λ k. 𝟘) 𝟙 g₁ (t + 1)
  tops_more d w g g₁ t h i l = ends_more d w (λ k. 𝟘) 𝟙 g g₁ t h i (subst₂ (λ a b. Twofold R g g₁ (2 ^ t) a b (2 ^ t)) (plain (not (w (d - 1 - t)))) (plain (w (d - 1 - t))) l)
    where
      plain : (b : Bool) → bit R b ≡ 𝟘 ⊕ bit R b ⊗ 𝟙
      plain b = simp ring
