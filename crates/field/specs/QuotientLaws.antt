-- Laws of R[X] with X^w = X^t + 1, over any such ring R, width w and tap t, proved: a reader need not believe this file.
use Rattle.std.specs.Prelude.{◌≡◌}
use Rattle.std.proofs.Math.Path.{refl, sym, ap, ap₂}
use Rattle.std.proofs.Common.{◌∙◌, le_refl, arith}
use Prim.Native.Nat.{ℕ, zero, suc, ◌≤◌, ◌<◌}
use Rattle.field.specs.Ring.{Ring}
use Rattle.field.specs.RingLaws.{ring, zero-add, mul-zero}
use Rattle.field.specs.Vector.{Vector, zeros, unit, sum, scale, push, top}
use Rattle.field.specs.VectorLaws.{pad, vector, sum_zeros, zero-scale, one-scale, add-scale, mul-scale, push-sum, top-sum, push-scale, top-scale, push-pad, top-pad, pad-same, scale-injective}
use Rattle.field.specs.Quotient.{times_x, horner, times, constant, generator}

module _ (R : Ring) (w t : ℕ) where
  open R use {Carrier, zero as 𝟘, one as 𝟙, add as ◌⊕◌, mul as ◌⊗◌}

  infixl 60 ◌⊕◌
  infixl 70 ◌⊗◌
  abbrev Elem : Type 0
  Elem = Vector Carrier w

  abbrev X : Elem → Elem
  X = times_x R w t

  pub times_x-sum : (u v : Elem) → X (sum R w u v) ≡ sum R w (X u) (X v)
  unfolding times_x
  times_x-sum u v =
      let p : push R w 𝟘 (sum R w u v) ≡ sum R w (push R w 𝟘 u) (push R w 𝟘 v) = ap (λ x. push R w x (sum R w u v)) (sym (zero-add R 𝟘)) ∙ push-sum R w 𝟘 𝟘 u v in
      let q : top R w 𝟘 (sum R w u v) ≡ top R w 𝟘 u ⊕ top R w 𝟘 v = ap (λ x. top R w x (sum R w u v)) (sym (zero-add R 𝟘)) ∙ top-sum R w 𝟘 𝟘 u v in
      simp (p, q, vector)

  pub times_x-scale : (s : Carrier) (v : Elem) → X (scale R w s v) ≡ scale R w s (X v)
  unfolding times_x
  times_x-scale s v =
      let p : push R w 𝟘 (scale R w s v) ≡ scale R w s (push R w 𝟘 v) = ap (λ x. push R w x (scale R w s v)) (sym (mul-zero R s)) ∙ push-scale R w s 𝟘 v in
      let q : top R w 𝟘 (scale R w s v) ≡ s ⊗ top R w 𝟘 v = ap (λ x. top R w x (scale R w s v)) (sym (mul-zero R s)) ∙ top-scale R w s 𝟘 v in
      simp (p, q, vector)

  times_x-zeros : X (zeros R w) ≡ zeros R w
  times_x-zeros = ap X (sym (zero-scale R w (zeros R w))) ∙ times_x-scale 𝟘 (zeros R w) ∙ zero-scale R w (X (zeros R w))

  horner-sum : (n : ℕ) (c : Vector Carrier n) (u v : Elem) → horner R w t n c (sum R w u v) ≡ sum R w (horner R w t n c u) (horner R w t n c v)
  unfolding horner
  horner-sum zero c u v = simp vector
  horner-sum (suc n) c u v = simp (vector, horner-sum n c.1 u v, times_x-sum)

  horner-scale : (n : ℕ) (c : Vector Carrier n) (s : Carrier) (v : Elem) → horner R w t n c (scale R w s v) ≡ scale R w s (horner R w t n c v)
  unfolding horner
  horner-scale zero c s v = simp vector
  horner-scale (suc n) c s v = simp (vector, horner-scale n c.1 s v, times_x-scale)

  horner-times_x : (n : ℕ) (c : Vector Carrier n) (v : Elem) → horner R w t n c (X v) ≡ X (horner R w t n c v)
  unfolding horner
  horner-times_x zero c v = sym times_x-zeros
  horner-times_x (suc n) c v = simp (horner-times_x n c.1 v, times_x-sum, times_x-scale)

  -- two products commute, whatever they are applied to
  horner-horner : (m n : ℕ) (b : Vector Carrier m) (c : Vector Carrier n) (v : Elem) → horner R w t m b (horner R w t n c v) ≡ horner R w t n c (horner R w t m b v)
  unfolding horner
  horner-horner m zero b c v = ap (horner R w t m b) (sym (zero-scale R w (zeros R w))) ∙ horner-scale m b 𝟘 (zeros R w) ∙ zero-scale R w (horner R w t m b (zeros R w))
  horner-horner m (suc n) b c v = simp (horner-sum, horner-scale, horner-times_x, horner-horner m n b c.1 v)

  tail : (k : ℕ) (s : Carrier) (v : Vector Carrier k) → sum R k (scale R k s (zeros R k)) v ≡ v
  tail k s v = simp vector

  pad-unit : (n k : ℕ) (c : Vector Carrier (suc n)) → sum R k (scale R k c.0 (unit R k 0)) (pad R (suc n) k (𝟘, c.1)) ≡ pad R (suc n) k c
  unfolding sum scale pad unit
  pad-unit n zero c = refl
  pad-unit n (suc k) c = ap₂ (λ (x : Carrier) (y : Vector Carrier k). (x, y)) (simp ring) (tail k c.0 (pad R n k c.1))

  horner-unit : (n : ℕ) (c : Vector Carrier n) → n ≤ w → horner R w t n c (unit R w 0) ≡ pad R n w c
  unfolding horner times_x pad
  horner-unit zero c h = refl
  horner-unit (suc n) c h =
      rw (horner-unit n c.1 (omega arith), push-pad R n w 𝟘 c.1, top-pad R n w 𝟘 c.1 h, zero-scale, sum_zeros) (pad-unit n w c)

  pub times-unit : (u : Elem) → times R w t u (unit R w 0) ≡ u
  unfolding times
  times-unit u = horner-unit w u (le_refl w) ∙ pad-same R w u

  pub times_comm : (u v : Elem) → times R w t u v ≡ times R w t v u
  unfolding times
  times_comm u v = ap (times R w t u) (sym (times-unit v)) ∙ horner-horner w w u v (unit R w 0) ∙ ap (times R w t v) (times-unit u)

  pub times_assoc : (u v x : Elem) → times R w t (times R w t u v) x ≡ times R w t u (times R w t v x)
  unfolding times
  times_assoc u v x = times_comm (times R w t u v) x ∙ horner-horner w w x u v ∙ ap (times R w t u) (times_comm x v)

  pub times-sum : (u v x : Elem) → times R w t u (sum R w v x) ≡ sum R w (times R w t u v) (times R w t u x)
  unfolding times
  times-sum u v x = horner-sum w u v x

  -- a product with a constant scales each coefficient
  pub constant-times : (r : Carrier) (v : Elem) → times R w t (constant R w t r) v ≡ scale R w r v
  unfolding times constant
  constant-times r v = times_comm (scale R w r (unit R w 0)) v ∙ horner-scale w v r (unit R w 0) ∙ ap (scale R w r) (times-unit v)

  pub generator-times : (v : Elem) → times R w t (generator R w t) v ≡ X v
  unfolding times generator
  generator-times v = times_comm (X (unit R w 0)) v ∙ horner-times_x w v (unit R w 0) ∙ ap X (times-unit v)

  pub constant-one : constant R w t 𝟙 ≡ unit R w 0
  unfolding constant
  constant-one = one-scale R w (unit R w 0)

  pub constant-add : (a b : Carrier) → constant R w t (a ⊕ b) ≡ sum R w (constant R w t a) (constant R w t b)
  unfolding constant
  constant-add a b = add-scale R w a b (unit R w 0)

  pub constant-mul : (a b : Carrier) → constant R w t (a ⊗ b) ≡ times R w t (constant R w t a) (constant R w t b)
  unfolding constant
  constant-mul a b = mul-scale R w a b (unit R w 0) ∙ sym (constant-times a (constant R w t b))

  pub constant-injective : 0 < w → (r s : Carrier) → constant R w t r ≡ constant R w t s → r ≡ s
  unfolding constant
  constant-injective h r s = scale-injective R w h r s

  -- one is not zero, if it is not so in R
  pub one_not_zero : 0 < w → (𝟙 ≡ 𝟘 → ⊥) → unit R w 0 ≡ zeros R w → ⊥
  unfolding constant
  one_not_zero h d e = d (constant-injective h 𝟙 𝟘 (constant-one ∙ e ∙ sym (zero-scale R w (unit R w 0))))
