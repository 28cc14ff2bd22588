-- The value of a polynomial over R at an element of a ring that R maps to.
use mathlib.Core.Path.{◌≡◌, refl, sym, ◌∙◌, ap, ap₂}
use Prim.Native.Nat.{ℕ, zero, suc, ◌+◌, ◌<◌, ◌≤◌}
use native.Mathlib.Omega.{arith}
use Rattle.field.specs.Ring.{Ring, Hom}
use Rattle.field.specs.RingLaws.{ring, hom_zero, add-zero}
use Rattle.field.specs.Sums.{pow}
use Rattle.field.specs.Vector.{Vector, zeros, unit, sum, scale}
use Rattle.field.specs.VectorLaws.{pad}
use Rattle.galois.specs.Polynomial.{product, monic}

module _ (R S : Ring) (f : Hom R S) (x : S.Carrier) where
  open R use {Carrier}
  open S use {zero as 𝟘, add as ◌⊕◌, mul as ◌⊗◌}

  infixl 60 ◌⊕◌
  infixl 70 ◌⊗◌
  -- f c₀ + x (f c₁ + x (f c₂ + ..))
  unfoldable pub evaluate : (n : ℕ) → Vector Carrier n → S.Carrier
  evaluate zero c = 𝟘
  evaluate (suc n) c = f.map c.0 ⊕ x ⊗ evaluate n c.1

  pub evaluate-zeros : (n : ℕ) → evaluate n (zeros R n) ≡ 𝟘
  unfolding evaluate zeros
  evaluate-zeros zero = refl
  evaluate-zeros (suc n) = ap₂ (λ y z. y ⊕ x ⊗ z) (hom_zero R S f) (evaluate-zeros n) ∙ simp ring

  -- the value of X^i
  pub evaluate-unit : (n i : ℕ) → i < n → evaluate n (unit R n i) ≡ pow S x i
  unfolding evaluate unit pow
  evaluate-unit zero i h = absurd (omega arith)
  evaluate-unit (suc n) zero h = ap₂ (λ y z. y ⊕ x ⊗ z) f.map-one (evaluate-zeros n) ∙ simp ring
  evaluate-unit (suc n) (suc i) h = ap₂ (λ y z. y ⊕ x ⊗ z) (hom_zero R S f) (evaluate-unit n i (omega arith)) ∙ simp ring

  pub evaluate-sum : (n : ℕ) (b c : Vector Carrier n) → evaluate n (sum R n b c) ≡ evaluate n b ⊕ evaluate n c
  unfolding evaluate sum
  evaluate-sum zero b c = sym (add-zero S 𝟘)
  evaluate-sum (suc n) b c = ap₂ (λ y z. y ⊕ x ⊗ z) (f.map-add b.0 c.0) (evaluate-sum n b.1 c.1) ∙ simp ring

  pub evaluate-scale : (n : ℕ) (r : Carrier) (c : Vector Carrier n) → evaluate n (scale R n r c) ≡ f.map r ⊗ evaluate n c
  unfolding evaluate scale
  evaluate-scale zero r c = simp ring
  evaluate-scale (suc n) r c = ap₂ (λ y z. y ⊕ x ⊗ z) (f.map-mul r c.0) (evaluate-scale n r c.1) ∙ simp ring

  pub evaluate-pad : (n m : ℕ) (c : Vector Carrier n) → n ≤ m → evaluate m (pad R n m c) ≡ evaluate n c
  unfolding evaluate pad
  evaluate-pad zero m c h = evaluate-zeros m
  evaluate-pad (suc n) zero c h = absurd (omega arith)
  evaluate-pad (suc n) (suc m) c h = ap (λ y. f.map c.0 ⊕ x ⊗ y) (evaluate-pad n m c.1 (omega arith))

  pub evaluate-monic : (k : ℕ) (c : Vector Carrier k) → evaluate (suc k) (monic R k c) ≡ evaluate k c ⊕ pow S x k
  unfolding evaluate monic pow
  evaluate-monic zero c = ap (λ y. y ⊕ x ⊗ 𝟘) f.map-one ∙ simp ring
  evaluate-monic (suc k) c = ap (λ y. f.map c.0 ⊕ x ⊗ y) (evaluate-monic k c.1) ∙ inner (f.map c.0) (evaluate k c.1) (pow S x k)
    where
      inner : (a y p : S.Carrier) → a ⊕ x ⊗ (y ⊕ p) ≡ a ⊕ x ⊗ y ⊕ x ⊗ p
      inner a y p = simp ring

  pub evaluate-product : (l m n : ℕ) (a : Vector Carrier m) (b : Vector Carrier n) → m + n ≤ l → evaluate l (product R l m n a b) ≡ evaluate m a ⊗ evaluate n b
  unfolding evaluate product
  evaluate-product zero m zero a b h = simp ring
  evaluate-product zero m (suc n) a b h = absurd (omega arith)
  evaluate-product (suc l) m zero a b h = evaluate-zeros (suc l) ∙ simp ring
  evaluate-product (suc l) m (suc n) a b h =
      evaluate-sum (suc l) (pad R m (suc l) (scale R m b.0 a)) (R.zero, product R l m n a b.1)
      ∙ ap₂ ◌⊕◌ (evaluate-pad m (suc l) (scale R m b.0 a) (omega arith) ∙ evaluate-scale m b.0 a)
      (ap₂ (λ y z. y ⊕ x ⊗ z) (hom_zero R S f) (evaluate-product l m n a b.1 (omega arith)))
      ∙ inner (f.map b.0) (evaluate m a) (evaluate n b.1)
    where
      inner : (s y z : S.Carrier) → s ⊗ y ⊕ (𝟘 ⊕ x ⊗ (y ⊗ z)) ≡ y ⊗ (s ⊕ x ⊗ z)
      inner s y z = simp ring

-- a map of rings takes values to values
pub map-evaluate : (R S T : Ring) (f : Hom R S) (h : Hom R T) (g : Hom S T) → ((r : R.Carrier) → g.map (f.map r) ≡ h.map r)
    → (x : S.Carrier) (n : ℕ) (c : Vector R.Carrier n) → g.map (evaluate R S f x n c) ≡ evaluate R T h (g.map x) n c
unfolding evaluate
map-evaluate R S T f h g e x zero c = hom_zero S T g
map-evaluate R S T f h g e x (suc n) c =
    g.map-add (f.map c.0) (S.mul x (evaluate R S f x n c.1))
    ∙ ap₂ T.add (e c.0) (g.map-mul x (evaluate R S f x n c.1) ∙ ap (T.mul (g.map x)) (map-evaluate R S T f h g e x n c.1))
