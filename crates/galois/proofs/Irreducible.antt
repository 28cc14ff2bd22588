-- R[X] with X^w = X^t + 1, R a field, is a field if X^w + X^t + 1 is irreducible, and only then.
use mathlib.Core.Path.{◌≡◌, refl, sym, ◌∙◌, ap, ap₂, subst}
use mathlib.Core.Logic.{◌⊎◌, inl, inr, ⊎_elim}
use Prim.Native.Nat.{ℕ, zero, suc, ◌+◌, ◌<◌, ◌≤◌}
use native.Mathlib.Omega.{arith}
use native.Mathlib.Nat.{le_refl}
use Rattle.field.specs.Ring.{Ring}
use Rattle.field.specs.RingLaws.{ring, add-equal}
use Rattle.field.specs.Vector.{Vector, zeros, unit, sum, scale}
use Rattle.field.specs.VectorLaws.{pad, pad-same, sum_zeros, scale-zeros, one-scale, mul-scale}
use Rattle.field.specs.Quotient.{constant, generator}
use Rattle.field.specs.QuotientLaws.{constant-times, one_not_zero}
use Rattle.field.specs.Extension.{extend, constants}
use Rattle.galois.specs.Field.{NoZeroDivisors, Field}
use Rattle.galois.specs.Polynomial.{product, monic, modulus, Irreducible}
use Rattle.galois.proofs.Evaluation.{evaluate-pad, evaluate-product}
use Rattle.galois.proofs.Extensions.{at_x, at_x_self, modulus-zero}
use Rattle.galois.proofs.Division.{pad-zeros, pad-injective, product_zeros, zeros-product, remainder, quotient, division, evaluate_division}

module _ (R : Ring) where
  open R use {Carrier, zero as 𝟘, one as 𝟙, mul as ◌⊗◌}

  infixl 70 ◌⊗◌
  -- a polynomial r of k coefficients is c times a monic one of degree j, and c has an inverse
  record Lead (k : ℕ) (r : Vector Carrier k) : Type 0 where
    j : ℕ
    below : j < k
    g : Vector Carrier j
    c : Carrier
    d : Carrier
    inverse : d ⊗ c ≡ 𝟙
    same : (n : ℕ) → k ≤ n → pad R k n r ≡ scale R n c (pad R (suc j) n (monic R j g))

  constant_lead : (k : ℕ) (r : Vector Carrier (suc k)) → r.1 ≡ zeros R k → (d : Carrier) → r.0 ⊗ d ≡ 𝟙 → Lead (suc k) r
  unfolding pad scale monic
  constant_lead k r z d e = record { j = 0; below = omega arith; g = tt; c = r.0; d = d; inverse = R.mul_comm d r.0 ∙ e; same = same }
    where
      same : (n : ℕ) → suc k ≤ n → pad R (suc k) n r ≡ scale R n r.0 (pad R 1 n (𝟙, tt))
      same zero h = absurd (omega arith)
      same (suc n) h = λ i. (sym (R.mul-one r.0) i, (ap (pad R k n) z ∙ pad-zeros R k n ∙ sym (scale-zeros R n r.0)) i)

  higher_lead : (k : ℕ) (r : Vector Carrier (suc k)) → Lead k r.1 → Lead (suc k) r
  unfolding pad scale monic
  higher_lead k r L = record { j = suc L.j; below = omega (arith, L.below); g = (L.d ⊗ r.0, L.g); c = L.c; d = L.d; inverse = L.inverse; same = same }
    where
      head : r.0 ≡ L.c ⊗ (L.d ⊗ r.0)
      head = sym (R.mul-one r.0) ∙ ap (λ x. r.0 ⊗ x) (sym L.inverse) ∙ inner r.0 L.c L.d
        where
          inner : (a c d : Carrier) → a ⊗ (d ⊗ c) ≡ c ⊗ (d ⊗ a)
          inner a c d = simp ring

      same : (n : ℕ) → suc k ≤ n → pad R (suc k) n r ≡ scale R n L.c (pad R (suc (suc L.j)) n (L.d ⊗ r.0, monic R L.j L.g))
      same zero h = absurd (omega arith)
      same (suc n) h = λ i. (head i, L.same n (omega arith) i)

  lead : Field R → (k : ℕ) (r : Vector Carrier k) → (r ≡ zeros R k) ⊎ Lead k r
  unfolding zeros
  lead N zero r = inl refl
  lead N (suc k) r = go (lead N k r.1) (N.inverses r.0)
    where
      go : (r.1 ≡ zeros R k) ⊎ Lead k r.1 → (r.0 ≡ 𝟘) ⊎ ((d : Carrier) × (r.0 ⊗ d ≡ 𝟙)) → (r ≡ (𝟘, zeros R k)) ⊎ Lead (suc k) r
      go (inl z) (inl e) = inl (λ i. (e i, z i))
      go (inl z) (inr (d, e)) = inr (constant_lead k r z d e)
      go (inr L) e = inr (higher_lead k r L)

  -- then the monic one is d times r
  lead_monic : (k : ℕ) (r : Vector Carrier k) (L : Lead k r) (n : ℕ) → k ≤ n → pad R (suc L.j) n (monic R L.j L.g) ≡ scale R n L.d (pad R k n r)
  lead_monic k r L n h = sym (ap (scale R n L.d) (L.same n h) ∙ sym (mul-scale R n L.d L.c m) ∙ ap (λ x. scale R n x m) L.inverse ∙ one-scale R n m)
    where
      m : Vector Carrier n
      m = pad R (suc L.j) n (monic R L.j L.g)

  pad-one : (w : ℕ) → pad R 1 w (monic R 0 tt) ≡ unit R w 0
  unfolding pad monic unit zeros
  pad-one zero = refl
  pad-one (suc w) = refl

  monic-nonzero : (k : ℕ) (g : Vector Carrier k) → monic R k g ≡ zeros R (suc k) → 𝟙 ≡ 𝟘
  unfolding monic zeros
  monic-nonzero zero g e = λ i. (e i).0
  monic-nonzero (suc k) g e = monic-nonzero k g.1 (λ i. (e i).1)

  pub positive : (w t : ℕ) → Irreducible R w (modulus R w t) → 0 < w
  unfolding product pad
  positive zero t I = absurd (I tt tt refl)
  positive (suc w) t I = omega arith

  module _ (w t : ℕ) where
    abbrev E : Ring
    E = extend R w t

    -- two factors of the modulus have the product zero in E
    product-zero : 0 < w → (a b : Vector Carrier w) → product R (w + w) w w a b ≡ pad R (suc w) (w + w) (modulus R w t) → E.mul a b ≡ zeros R w
    product-zero h a b e =
        sym (evaluate-product R E (constants R w t) (generator R w t) (w + w) w w a b (le_refl (w + w)) ∙ ap₂ E.mul (at_x_self R w t a) (at_x_self R w t b))
        ∙ ap (at_x R w t (w + w)) e ∙ evaluate-pad R E (constants R w t) (generator R w t) (suc w) (w + w) (modulus R w t) (omega arith) ∙ modulus-zero R w t h

    at_x-pad : (n : ℕ) (c : Vector Carrier n) → n ≤ w → pad R n w c ≡ at_x R w t n c
    at_x-pad n c h = sym (at_x_self R w t (pad R n w c)) ∙ evaluate-pad R E (constants R w t) (generator R w t) n w c h

    -- so where E has no zero divisors, there are none of smaller degree
    pub field_irreducible : (𝟙 ≡ 𝟘 → ⊥) → 0 < w → NoZeroDivisors E → Irreducible R w (modulus R w t)
    field_irreducible d h N a b e = ⊎_elim (λ (z : a ≡ zeros R w). wrong (ap (λ u. product R (w + w) w w u b) z ∙ zeros-product R (w + w) w w b))
        (λ (z : b ≡ zeros R w). wrong (ap (product R (w + w) w w a) z ∙ product_zeros R (w + w) w w a)) (N a b (product-zero h a b e))
      where
        wrong : product R (w + w) w w a b ≡ zeros R (w + w) → ⊥
        wrong z = d (monic-nonzero w _ (pad-injective R (suc w) (w + w) (modulus R w t) (omega arith) (sym e ∙ z)))

    module _ (N : Field R) (I : Irreducible R w (modulus R w t)) (a : E.Carrier) where
      Multiple : E.Carrier → Type 0
      Multiple v = (q : E.Carrier) × (v ≡ E.mul q a)

      multiple-mul : (u v : E.Carrier) → Multiple v → Multiple (E.mul u v)
      unfolding Multiple
      multiple-mul u v (q, e) = (E.mul u q, ap (E.mul u) e ∙ sym (E.mul_assoc u q a))

      multiple-scale : (r : Carrier) (v : E.Carrier) → Multiple v → Multiple (scale R w r v)
      multiple-scale r v m = subst Multiple (constant-times R w t r v) (multiple-mul (constant R w t r) v m)

      module _ (k : ℕ) (g : Vector Carrier (suc k)) (below : suc k < w) where
        abbrev D : E.Carrier
        D = pad R (suc (suc k)) w (monic R (suc k) g)

        abbrev q : E.Carrier
        q = quotient R (suc k) g w (modulus R w t)

        abbrev r : Vector Carrier (suc k)
        r = remainder R (suc k) g w (modulus R w t)

        -- in E the remainder is a multiple of the divisor
        remainder-multiple : E.mul D q ≡ pad R (suc k) w r
        remainder-multiple =
            add-equal E (E.mul D q) (pad R (suc k) w r)
            (ap₂ (sum R w) (ap₂ E.mul (at_x-pad (suc (suc k)) (monic R (suc k) g) below) (sym (at_x_self R w t q))) (at_x-pad (suc k) r (omega arith))
            ∙ sym (evaluate_division R (suc k) g (omega arith) E (constants R w t) (generator R w t) w (modulus R w t)) ∙ modulus-zero R w t (omega arith))

        remainder-nonzero : r ≡ zeros R (suc k) → ⊥
        remainder-nonzero z =
            I D q (sym (sum_zeros R (w + w) (product R (w + w) w w D q))
            ∙ ap (sum R (w + w) (product R (w + w) w w D q)) (sym (ap (pad R (suc k) (w + w)) z ∙ pad-zeros R (suc k) (w + w)))
            ∙ division R (suc k) g w (omega arith) below w (w + w) (modulus R w t) (le_refl (w + w)))

      -- a monic multiple of a gives one of a smaller degree, down to 1
      descend : (n k : ℕ) → k < n → k < w → (g : Vector Carrier k) → Multiple (pad R (suc k) w (monic R k g)) → Multiple (unit R w 0)
      descend zero k l h g m = absurd (omega arith)
      descend (suc n) zero l h g m = subst Multiple (pad-one w) m
      descend (suc n) (suc k) l h g m =
          ⊎_elim (λ (z : r k g h ≡ zeros R (suc k)). absurd (remainder-nonzero k g h z))
          (λ (L : Lead (suc k) (r k g h)). descend n L.j (omega (arith, L.below)) (omega (arith, L.below)) L.g
          (subst Multiple (sym (lead_monic (suc k) (r k g h) L w (omega arith))) (multiple-scale L.d (pad R (suc k) w (r k g h))
          (subst Multiple (E.mul_comm (q k g h) (D k g h) ∙ remainder-multiple k g h) (multiple-mul (q k g h) (D k g h) m)))))
          (lead N (suc k) (r k g h))

      inverse : (a ≡ zeros R w) ⊎ ((b : E.Carrier) × (E.mul a b ≡ unit R w 0))
      unfolding Multiple
      inverse = ⊎_elim inl (λ (L : Lead w a). inr (go L)) (lead N w a)
        where
          go : Lead w a → (b : E.Carrier) × (E.mul a b ≡ unit R w 0)
          go L =
              let (b, e) = descend w L.j L.below L.below L.g
              (constant R w t L.d, lead_monic w a L w (le_refl w) ∙ ap (scale R w L.d) (pad-same R w a) ∙ sym (constant-times R w t L.d a)) in
              (b, E.mul_comm a b ∙ sym e)

    pub irreducible_field : Field R → Irreducible R w (modulus R w t) → Field E
    irreducible_field N I = record { distinct = one_not_zero R w t (positive w t I) N.distinct; inverses = inverse N I }
