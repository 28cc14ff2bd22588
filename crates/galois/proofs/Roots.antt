-- A polynomial with as many roots as coefficients is zero, if the roots' differences cancel.
use mathlib.Core.Path.{◌≡◌, refl, sym, ◌∙◌, ap, ap₂}
use Prim.Native.Nat.{ℕ, zero, suc, ◌+◌, ◌<◌}
use native.Mathlib.Omega.{arith}
use native.Mathlib.Nat.{le_refl}
use Rattle.field.specs.Ring.{Ring, identity}
use Rattle.field.specs.RingLaws.{ring, mul-zero}
use Rattle.field.specs.Vector.{Vector, zeros, sum}
use Rattle.field.specs.VectorLaws.{pad, sum_zeros}
use Rattle.galois.specs.Polynomial.{product, monic}
use Rattle.galois.proofs.Evaluation.{evaluate}
use Rattle.galois.proofs.Division.{pad-zeros, pad-injective, product_zeros, remainder, quotient, division, evaluate_division}

module _ (R : Ring) where
  open R use {Carrier, zero as 𝟘, one as 𝟙, add as ◌⊕◌, mul as ◌⊗◌}

  infixl 60 ◌⊕◌
  infixl 70 ◌⊗◌
  -- the value at y
  abbrev at : Carrier → (n : ℕ) → Vector Carrier n → Carrier
  at y = evaluate R R (identity R) y

  linear : (x y : Carrier) → at y 2 (monic R 1 (x, tt)) ≡ y ⊕ x
  unfolding evaluate monic
  linear x y = inner
    where
      inner : x ⊕ y ⊗ (𝟙 ⊕ y ⊗ 𝟘) ≡ y ⊕ x
      inner = simp ring

  single : (y : Carrier) (r : Vector Carrier 1) → at y 1 r ≡ r.0
  unfolding evaluate
  single y r = ap (λ z. r.0 ⊕ z) (mul-zero R y) ∙ R.add-zero r.0

  -- division by X + x, where x is a root
  module _ (n : ℕ) (c : Vector Carrier (suc n)) (x : Carrier) (h : at x (suc n) c ≡ 𝟘) where
    abbrev q : Vector Carrier n
    q = quotient R 1 (x, tt) n c

    abbrev r : Vector Carrier 1
    r = remainder R 1 (x, tt) n c

    divided : (y : Carrier) → at y (suc n) c ≡ (y ⊕ x) ⊗ at y n q ⊕ r.0
    divided y = evaluate_division R 1 (x, tt) (omega arith) R (identity R) y n c ∙ ap₂ (λ d s. d ⊗ at y n q ⊕ s) (linear x y) (single y r)

    remainder-zero : r.0 ≡ 𝟘
    remainder-zero = sym (drop (at x n q) r.0) ∙ sym (divided x) ∙ h
      where
        drop : (v s : Carrier) → (x ⊕ x) ⊗ v ⊕ s ≡ s
        drop v s = simp ring

    factor : (y : Carrier) → at y (suc n) c ≡ (y ⊕ x) ⊗ at y n q
    factor y = divided y ∙ ap (λ s. (y ⊕ x) ⊗ at y n q ⊕ s) remainder-zero ∙ R.add-zero ((y ⊕ x) ⊗ at y n q)

    factor-zeros : q ≡ zeros R n → c ≡ zeros R (suc n)
    unfolding zeros
    factor-zeros z =
        pad-injective R (suc n) (2 + n) c (omega arith)
        (sym (division R 1 (x, tt) 2 (omega arith) (omega arith) n (2 + n) c (le_refl (2 + n)))
        ∙ ap₂ (sum R (2 + n)) (ap (product R (2 + n) 2 n d) z ∙ product_zeros R (2 + n) 2 n d)
        (ap (pad R 1 (2 + n)) (λ i. (remainder-zero i, tt)) ∙ pad-zeros R 1 (2 + n)) ∙ sum_zeros R (2 + n) (zeros R (2 + n)))
      where
        d : Vector Carrier 2
        d = pad R 2 2 (monic R 1 (x, tt))

  -- n coefficients with n roots x 0, x 1, ..
  pub zero-polynomial : (n : ℕ) (c : Vector Carrier n) (x : ℕ → Carrier) → ((i : ℕ) → i < n → at (x i) n c ≡ 𝟘)
      → ((i j : ℕ) → i < j → j < n → (v : Carrier) → (x j ⊕ x i) ⊗ v ≡ 𝟘 → v ≡ 𝟘) → c ≡ zeros R n
  unfolding zeros
  zero-polynomial zero c x root apart = refl
  zero-polynomial (suc n) c x root apart =
      factor-zeros n c (x 0) h
      (zero-polynomial n (q n c (x 0) h) (λ i. x (suc i))
      (λ i l. apart 0 (suc i) (omega arith) (omega arith) (at (x (suc i)) n (q n c (x 0) h)) (sym (factor n c (x 0) h (x (suc i))) ∙ root (suc i) (omega arith)))
      (λ i j k l. apart (suc i) (suc j) (omega arith) (omega arith)))
    where
      h : at (x 0) (suc n) c ≡ 𝟘
      h = root 0 (omega arith)
