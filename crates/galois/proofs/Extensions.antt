-- R[X] with X^w = X^t + 1: its elements are the values of polynomials at X, and a map of R extends to it by a value for X.
use mathlib.Core.Path.{◌≡◌, refl, sym, ◌∙◌, ap, ap₂}
use Prim.Native.Nat.{ℕ, zero, suc, ◌<◌}
use native.Mathlib.Omega.{arith}
use Rattle.field.specs.Ring.{Ring, Hom}
use Rattle.field.specs.RingLaws.{ring, hom_zero, zero-add}
use Rattle.field.specs.Sums.{pow}
use Rattle.field.specs.Vector.{Vector, zeros, unit, sum, scale, push, top}
use Rattle.field.specs.VectorLaws.{zeros-sum, sum_self, one-scale}
use Rattle.field.specs.Quotient.{rule, times_x, horner, times, constant, generator}
use Rattle.field.specs.QuotientLaws.{times-unit, generator-times}
use Rattle.field.specs.Extension.{extend, constants}
use Rattle.galois.specs.Polynomial.{modulus}
use Rattle.galois.proofs.Evaluation.{evaluate, map-evaluate, evaluate-zeros, evaluate-sum, evaluate-scale, evaluate-unit, evaluate-monic}

-- an element of the extension is the value at X of its coefficients
module _ (R : Ring) (w t : ℕ) where
  abbrev E : Ring
  E = extend R w t

  abbrev X : E.Carrier
  X = generator R w t

  -- the polynomial with n coefficients c, at X
  abbrev pub at_x : (n : ℕ) → Vector R.Carrier n → E.Carrier
  at_x = evaluate R E (constants R w t) X

  horner-at_x : (n : ℕ) (c : Vector R.Carrier n) → horner R w t n c (unit R w 0) ≡ at_x n c
  unfolding horner constant evaluate
  horner-at_x zero c = refl
  horner-at_x (suc n) c = ap (sum R w (constant R w t c.0)) (sym (generator-times R w t (horner R w t n c.1 (unit R w 0))) ∙ ap (times R w t X) (horner-at_x n c.1))

  pub at_x_self : (u : E.Carrier) → at_x w u ≡ u
  unfolding times
  at_x_self u = sym (horner-at_x w u) ∙ times-unit R w t u

  -- a map that fixes R takes u to its value at the image of X
  pub map-at_x : (g : Hom E E) → ((r : R.Carrier) → g.map (constant R w t r) ≡ constant R w t r) → (u : E.Carrier) → g.map u ≡ evaluate R E (constants R w t) (g.map X) w u
  map-at_x g h u = ap g.map (sym (at_x_self u)) ∙ map-evaluate R E E (constants R w t) (constants R w t) g h X w u

-- X^w is what the rule says
module _ (R : Ring) where
  push-last : (n : ℕ) → push R (suc n) R.zero (unit R (suc n) n) ≡ zeros R (suc n)
  unfolding push unit zeros
  push-last zero = refl
  push-last (suc n) = λ i. (R.zero, push-last n i)

  top-last : (n : ℕ) (c : R.Carrier) → top R (suc n) c (unit R (suc n) n) ≡ R.one
  unfolding top unit
  top-last zero c = refl
  top-last (suc n) c = top-last n R.zero

  pub power-rule : (w t : ℕ) → 0 < w → pow (extend R w t) (generator R w t) w ≡ rule R w t
  unfolding pow times_x
  power-rule zero t h = absurd (omega arith)
  power-rule (suc w) t h =
      ap (times R (suc w) t (generator R (suc w) t)) (sym (evaluate-unit R (E R (suc w) t) (constants R (suc w) t) (X R (suc w) t) (suc w) w (omega arith))
      ∙ at_x_self R (suc w) t (unit R (suc w) w))
      ∙ generator-times R (suc w) t (unit R (suc w) w)
      ∙ ap₂ (λ u s. sum R (suc w) u (scale R (suc w) s (rule R (suc w) t))) (push-last w) (top-last w R.zero)
      ∙ ap (sum R (suc w) (zeros R (suc w))) (one-scale R (suc w) (rule R (suc w) t)) ∙ zeros-sum R (suc w) (rule R (suc w) t)

  -- X^w + X^t + 1 is zero there
  pub modulus-zero : (w t : ℕ) → 0 < w → at_x R w t (suc w) (modulus R w t) ≡ zeros R w
  modulus-zero w t h =
      evaluate-monic R (E R w t) (constants R w t) (X R w t) w (rule R w t) ∙ ap₂ (sum R w) (at_x_self R w t (rule R w t)) (power-rule w t h) ∙ sum_self R w (rule R w t)

-- where x^w in S is what the rule says too, f extends
module _ (R S : Ring) (f : Hom R S) (x : S.Carrier) where
  open S use {one as 𝟙, add as ◌⊕◌, mul as ◌⊗◌}

  infixl 60 ◌⊕◌
  infixl 70 ◌⊗◌
  abbrev ev : (n : ℕ) → Vector R.Carrier n → S.Carrier
  ev = evaluate R S f x

  evaluate-push : (n : ℕ) (c : R.Carrier) (v : Vector R.Carrier n) → ev n (push R n c v) ⊕ f.map (top R n c v) ⊗ pow S x n ≡ f.map c ⊕ x ⊗ ev n v
  unfolding evaluate push top pow
  evaluate-push zero c v = simp ring
  evaluate-push (suc n) c v = inner (f.map c) (ev n (push R n v.0 v.1)) (f.map (top R n v.0 v.1)) (pow S x n) ∙ ap (λ y. f.map c ⊕ x ⊗ y) (evaluate-push n v.0 v.1)
    where
      inner : (a y s p : S.Carrier) → a ⊕ x ⊗ y ⊕ s ⊗ (x ⊗ p) ≡ a ⊕ x ⊗ (y ⊕ s ⊗ p)
      inner a y s p = simp ring

  module _ (w t : ℕ) (positive : 0 < w) (root : pow S x w ≡ ev w (rule R w t)) where
    evaluate-times_x : (v : Vector R.Carrier w) → ev w (times_x R w t v) ≡ x ⊗ ev w v
    unfolding times_x
    evaluate-times_x v =
        evaluate-sum R S f x w (push R w R.zero v) (scale R w (top R w R.zero v) (rule R w t))
        ∙ ap (λ y. ev w (push R w R.zero v) ⊕ y) (evaluate-scale R S f x w (top R w R.zero v) (rule R w t) ∙ ap (λ y. f.map (top R w R.zero v) ⊗ y) (sym root))
        ∙ evaluate-push w R.zero v ∙ ap (λ y. y ⊕ x ⊗ ev w v) (hom_zero R S f) ∙ zero-add S (x ⊗ ev w v)

    evaluate-horner : (n : ℕ) (c : Vector R.Carrier n) (v : Vector R.Carrier w) → ev w (horner R w t n c v) ≡ ev n c ⊗ ev w v
    unfolding horner evaluate
    evaluate-horner zero c v = evaluate-zeros R S f x w ∙ simp ring
    evaluate-horner (suc n) c v =
        evaluate-sum R S f x w (scale R w c.0 v) (times_x R w t (horner R w t n c.1 v))
        ∙ ap₂ ◌⊕◌ (evaluate-scale R S f x w c.0 v) (evaluate-times_x (horner R w t n c.1 v) ∙ ap (λ y. x ⊗ y) (evaluate-horner n c.1 v))
        ∙ inner (f.map c.0) (ev w v) (ev n c.1)
      where
        inner : (a y z : S.Carrier) → a ⊗ y ⊕ x ⊗ (z ⊗ y) ≡ (a ⊕ x ⊗ z) ⊗ y
        inner a y z = simp ring

    pub evaluate-one : ev w (unit R w 0) ≡ 𝟙
    unfolding pow
    evaluate-one = evaluate-unit R S f x w 0 positive

    pub evaluate-times : (u v : Vector R.Carrier w) → ev w (times R w t u v) ≡ ev w u ⊗ ev w v
    unfolding times
    evaluate-times u v = evaluate-horner w u v

    -- the map that is f on R and takes X to x
    abbrev pub extended : Hom (extend R w t) S
    extended = record { map = ev w; map-one = evaluate-one; map-add = evaluate-sum R S f x w; map-mul = evaluate-times }

    pub extended-X : ev w (generator R w t) ≡ x
    unfolding generator
    extended-X = evaluate-times_x (unit R w 0) ∙ ap (λ y. x ⊗ y) evaluate-one ∙ S.mul-one x
