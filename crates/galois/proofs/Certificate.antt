-- Facts on X^w = X^t + 1 over two elements that make R[X] with that rule a field, for R a field of 2^m elements, m and w without a common factor.
-- For then some powers a^(2^n) fix R and take X to X^(2^k), for each k. They fix an e that is its own square. So e, a polynomial in X of w
-- coefficients, has the value e at w elements X^(2^k) too, whose differences cancel: it is its first coefficient, which is 0 or 1.
use mathlib.Core.Path.{◌≡◌, refl, sym, ◌∙◌, ap, ap₂}
use mathlib.Core.Logic.{◌⊎◌, inl, inr, ⊎_elim}
use mathlib.Core.Bool.{Bool, true, false, ◌&&◌, true≢false}
use Prim.Native.Nat.{ℕ, zero, suc, ◌+◌, ◌-◌, ◌*◌, ◌<◌}
use native.Mathlib.Nat.{mul_comm, mul_assoc, mul-suc}
use native.Mathlib.Omega.{arith}
use Rattle.field.specs.Ring.{Ring, Hom, identity}
use Rattle.field.specs.RingLaws.{hom_zero, add-equal}
use Rattle.field.specs.Sums.{pow}
use Rattle.field.specs.Vector.{Vector, zeros, unit, sum, scale}
use Rattle.field.specs.Binary.{binary, bit}
use Rattle.field.proofs.Bits.{bit-add, bit-mul}
use Rattle.field.specs.Quotient.{rule, constant, generator}
use Rattle.field.specs.QuotientLaws.{constant-injective, one_not_zero}
use Rattle.field.specs.Extension.{extend, constants}
use Rattle.galois.proofs.FieldLaws.{cancel}
use Rattle.galois.proofs.Evaluation.{evaluate, evaluate-sum, evaluate-scale, evaluate-unit}
use Rattle.galois.proofs.Extensions.{at_x_self, map-at_x, power-rule, extended, extended-X}
use Rattle.galois.proofs.Roots.{zero-polynomial}
use Rattle.galois.proofs.Frobenius.{frob, frobenius, frob-add, frob-idem, frob-frob, frob-fix, hom_frob, Galois}

-- the two elements
pub binary-galois : Galois binary 1
unfolding frob
binary-galois = record { distinct = true≢false; fix = and_self; idem = two }
  where
    and_self : (b : Bool) → (b && b) ≡ b
    and_self false = refl
    and_self true = refl

    two : (e : Bool) → (e && e) ≡ e → (e ≡ false) ⊎ (e ≡ true)
    two false h = inl refl
    two true h = inr refl

-- the two elements in any ring
abbrev bits : (R : Ring) → Hom binary R
bits R = record { map = bit R; map-one = refl; map-add = bit-add R; map-mul = bit-mul R }

-- a polynomial over R as one over S
module _ (R S : Ring) (f : Hom R S) where
  each : (n : ℕ) → Vector R.Carrier n → Vector S.Carrier n
  each zero c = tt
  each (suc n) c = (f.map c.0, each n c.1)

  evaluate-each : (x : S.Carrier) (n : ℕ) (c : Vector R.Carrier n) → evaluate S S (identity S) x n (each n c) ≡ evaluate R S f x n c
  unfolding evaluate each
  evaluate-each x zero c = refl
  evaluate-each x (suc n) c = ap (λ y. S.add (f.map c.0) (S.mul x y)) (evaluate-each x n c.1)

  -- where it is e at each of n elements whose differences cancel, e is its first coefficient
  constant-value : (n : ℕ) → 0 < n → (c : Vector R.Carrier n) (e : S.Carrier) (x : ℕ → S.Carrier) → ((i : ℕ) → i < n → evaluate R S f (x i) n c ≡ e)
      → ((i j : ℕ) → i < j → j < n → (v : S.Carrier) → S.mul (S.add (x j) (x i)) v ≡ S.zero → v ≡ S.zero) → (r : R.Carrier) × (e ≡ f.map r)
  unfolding each sum scale unit zeros pow
  constant-value zero h c e x values apart = absurd (omega arith)
  constant-value (suc n) h c e x values apart = (c.0, sym (add-equal S (f.map c.0) e (ap (S.add (f.map c.0)) (sym (S.mul-one e)) ∙ (λ i. (all i).0))))
    where
      p : Vector S.Carrier (suc n)
      p = sum S (suc n) (each (suc n) c) (scale S (suc n) e (unit S (suc n) 0))

      all : p ≡ zeros S (suc n)
      all = zero-polynomial S (suc n) p x (λ i l. evaluate-sum S S (identity S) (x i) (suc n) (each (suc n) c) (scale S (suc n) e (unit S (suc n) 0))
          ∙ ap₂ S.add (evaluate-each (x i) (suc n) c ∙ values i l)
          (evaluate-scale S S (identity S) (x i) (suc n) e (unit S (suc n) 0) ∙ ap (S.mul e) (evaluate-unit S S (identity S) (x i) (suc n) 0 (omega arith)) ∙ S.mul-one e)
          ∙ S.add_self e) apart

module _ (w t : ℕ) where
  abbrev P : Ring
  P = extend binary w t

  abbrev Z : P.Carrier
  Z = generator binary w t

  -- X^(2^w) is X, and X plus X^(2^k) has an inverse for k from 1 to w - 1
  pub record Certificate : Type 0 where
    pub below : t < w
    pub fix-X : frob P w Z ≡ Z
    pub apart : (k : ℕ) → 0 < k → k < w → (u : P.Carrier) × (P.mul (P.add (frob P k Z) Z) u ≡ P.one)

  module _ (I : Certificate) (R : Ring) (m : ℕ) (G : Galois R m) (p c : ℕ) (coprime : p * m ≡ suc (c * w)) where
    abbrev E : Ring
    E = extend R w t

    abbrev X : E.Carrier
    X = generator R w t

    positive : 0 < w
    positive = omega (arith, I.below)

    lift-unit : (i : ℕ) → i < w → unit R w i ≡ evaluate binary E (bits E) X w (unit binary w i)
    lift-unit i h = sym (at_x_self R w t (unit R w i)) ∙ evaluate-unit R E (constants R w t) X w i h ∙ sym (evaluate-unit binary E (bits E) X w i h)

    root : pow E X w ≡ evaluate binary E (bits E) X w (rule binary w t)
    unfolding rule
    root = power-rule R w t positive ∙ ap₂ (sum R w) (lift-unit 0 positive) (lift-unit t I.below) ∙ sym (evaluate-sum binary E (bits E) X w (unit binary w 0) (unit binary w t))

    -- what holds of X over two elements holds of it over R
    abbrev lift : Hom P E
    lift = extended binary E (bits E) X w t positive root

    lift-X : lift.map Z ≡ X
    lift-X = extended-X binary E (bits E) X w t positive root

    lift-frob : (k : ℕ) → lift.map (frob P k Z) ≡ frob E k X
    lift-frob k = hom_frob P E lift k Z ∙ ap (frob E k) lift-X

    fixed : frob E w X ≡ X
    fixed = sym (lift-frob w) ∙ ap lift.map I.fix-X ∙ lift-X

    -- X^(2^i) and X^(2^j) differ by a factor that cancels
    apart : (i j : ℕ) → i < j → j < w → (v : E.Carrier) → E.mul (E.add (frob E j X) (frob E i X)) v ≡ E.zero → v ≡ E.zero
    apart i j h l v e = cancel E (frob E i d) (frob E i (lift.map u)) v (sym ((frobenius E i).map-mul d (lift.map u)) ∙ ap (frob E i) inverse ∙ (frobenius E i).map-one)
        (ap (λ y. E.mul y v) difference ∙ e)
      where
        k : ℕ
        k = j - i

        u : P.Carrier
        u = (I.apart k (omega arith) (omega arith)).0

        d : E.Carrier
        d = E.add (frob E k X) X

        same : i + k ≡ j
        same = omega arith

        inverse : E.mul d (lift.map u) ≡ E.one
        inverse = ap (λ y. E.mul y (lift.map u)) (ap₂ E.add (sym (lift-frob k)) (sym lift-X) ∙ sym (lift.map-add (frob P k Z) Z))
            ∙ sym (lift.map-mul (P.add (frob P k Z) Z) u) ∙ ap lift.map (I.apart k (omega arith) (omega arith)).1 ∙ lift.map-one

        difference : frob E i d ≡ E.add (frob E j X) (frob E i X)
        difference = frob-add E i (frob E k X) X ∙ ap (λ y. E.add y (frob E i X)) (frob-frob E i k X ∙ ap (λ n. frob E n X) same)

    -- a^(2^(k p m)) fixes R, and takes X to X^(2^k)
    fixes : (n : ℕ) (r : R.Carrier) → frob E (n * m) (constant R w t r) ≡ constant R w t r
    fixes n r = sym (hom_frob R E (constants R w t) (n * m) r) ∙ ap (constant R w t) (frob-fix R n m r (G.fix r))

    conjugate : (k : ℕ) → frob E (k * p * m) X ≡ frob E k X
    conjugate k = ap (λ n. frob E n X) exponent ∙ sym (frob-frob E k (k * c * w) X) ∙ ap (frob E k) (frob-fix E (k * c) w X fixed)
      where
        exponent : k * p * m ≡ k + k * c * w
        exponent = omega (arith, mul_assoc k p m, ap (λ n. k * n) coprime, mul-suc k (c * w), mul_assoc k c w)

    -- what is its own square is constant: it has the same value at each X^(2^k)
    idem-constant : (e : E.Carrier) → E.mul e e ≡ e → (r : R.Carrier) × (e ≡ constant R w t r)
    idem-constant e h = constant-value R E (constants R w t) w positive e e (λ k. frob E k X)
        (λ k l. sym (map-at_x R w t (frobenius E (k * p * m)) (fixes (k * p)) e ∙ ap (λ x. evaluate R E (constants R w t) x w e) (conjugate k)) ∙ frob-idem E (k * p * m) e h) apart

    pub galois : Galois E (w * m)
    galois = record {
      distinct = one_not_zero R w t positive G.distinct;
      fix = λ a. map-at_x R w t (frobenius E (w * m)) (fixes w) a
          ∙ ap (λ x. evaluate R E (constants R w t) x w a) (ap (λ n. frob E n X) (mul_comm w m) ∙ frob-fix E m w X fixed) ∙ at_x_self R w t a;
      idem = λ e h. let (r, q) = idem-constant e h in
          ⊎_elim (λ (z : r ≡ R.zero). inl (q ∙ ap (constant R w t) z ∙ hom_zero R E (constants R w t))) (λ (z : r ≡ R.one). inr (q ∙ ap (constant R w t) z ∙ (constants R w t).map-one))
          (G.idem r (constant-injective R w t positive (R.mul r r) r ((constants R w t).map-mul r r ∙ ap (λ x. E.mul x x) (sym q) ∙ h ∙ q)));
    }
