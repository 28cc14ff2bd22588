-- Polynomials and values go along a map of rings: over F, where they are computed, and in K.
use mathlib.Core.Path.{◌≡◌, refl, sym, ◌∙◌, ap, ap₂}
use mathlib.Core.Bool.{Bool, true, false}
use Prim.Native.Nat.{ℕ, zero, suc}
use lib.Dec.{ltb}
use borrow.Author.Tests.{ltb-true, ltb-false}
use Rattle.field.specs.Ring.{Ring, Hom, identity}
use Rattle.field.specs.RingLaws.{hom_zero}
use Rattle.field.specs.Vector.{Vector, zeros, sum, scale}
use Rattle.field.specs.Binary.{xor, bit}
use Rattle.field.specs.Word.{vector}
use Rattle.constraints.specs.Graded.{Polynomial, coefficient, linear, raised, linear_times, polynomials, point}
use Rattle.constraints.specs.GradedLaws.{Morphism}
use Rattle.constraints.specs.System.{polynomial, value}
use Rattle.constraints.specs.Digits.{Instance}
use Rattle.constraints.specs.DigitsLaws.{map-digits}
use Rattle.constraints.specs.Modelling.{digits}
use Rattle.constraints.proofs.Coefficients.{coefficient-zeros, coefficient-sum, coefficient-scale, coefficient_ext, coefficient-vector, coefficient-above, coefficient-times}

module _ {K L : Ring} (h : Hom K L) where
  -- h of each coefficient
  pub each : (n : ℕ) → Vector K.Carrier n → Vector L.Carrier n
  each n p = vector n (λ k. h.map (coefficient K n p k))

  pub coefficient-each : (n : ℕ) (p : Vector K.Carrier n) (k : ℕ) → coefficient L n (each n p) k ≡ h.map (coefficient K n p k)
  unfolding each
  coefficient-each n p k = pick (ltb k n) refl
    where
      pick : (b : Bool) → ltb k n ≡ b → coefficient L n (vector n (λ k. h.map (coefficient K n p k))) k ≡ h.map (coefficient K n p k)
      pick true e = coefficient-vector L n (λ k. h.map (coefficient K n p k)) k (ltb-true k n e)
      pick false e = coefficient-above L n (vector n (λ k. h.map (coefficient K n p k))) k (ltb-false k n e) ∙ sym (ap h.map (coefficient-above K n p k (ltb-false k n e)) ∙ hom_zero K L h)

  -- a polynomial with these coefficients
  each-is : (n : ℕ) (p : Vector K.Carrier n) (q : Vector L.Carrier n) → ((k : ℕ) → h.map (coefficient K n p k) ≡ coefficient L n q k) → each n p ≡ q
  each-is n p q e = coefficient_ext L n (each n p) q (λ k l. coefficient-each n p k ∙ e k)

  pub each-zeros : (n : ℕ) → each n (zeros K n) ≡ zeros L n
  each-zeros n = each-is n (zeros K n) (zeros L n) (λ k. ap h.map (coefficient-zeros K n k) ∙ hom_zero K L h ∙ sym (coefficient-zeros L n k))

  pub each-sum : (n : ℕ) (p q : Vector K.Carrier n) → each n (sum K n p q) ≡ sum L n (each n p) (each n q)
  each-sum n p q = each-is n (sum K n p q) (sum L n (each n p) (each n q)) (λ k. ap h.map (coefficient-sum K n p q k) ∙ h.map-add (coefficient K n p k) (coefficient K n q k)
      ∙ sym (coefficient-sum L n (each n p) (each n q) k ∙ ap₂ L.add (coefficient-each n p k) (coefficient-each n q k)))

  pub each-scale : (n : ℕ) (c : K.Carrier) (p : Vector K.Carrier n) → each n (scale K n c p) ≡ scale L n (h.map c) (each n p)
  each-scale n c p = each-is n (scale K n c p) (scale L n (h.map c) (each n p)) (λ k. ap h.map (coefficient-scale K n c p k) ∙ h.map-mul c (coefficient K n p k)
      ∙ sym (coefficient-scale L n (h.map c) (each n p) k ∙ ap (L.mul (h.map c)) (coefficient-each n p k)))

  pub each-linear : (b v : K.Carrier) → each 2 (linear K b v) ≡ linear L (h.map b) (h.map v)
  unfolding each vector coefficient
  each-linear b v = refl

  pub each-unit : each 1 (K.one, tt) ≡ (L.one, tt)
  unfolding each vector coefficient
  each-unit = λ i. (h.map-one i, tt)

  each-raised : (f : ℕ → K.Carrier) (k : ℕ) → h.map (raised K f k) ≡ raised L (λ i. h.map (f i)) k
  unfolding raised
  each-raised f zero = hom_zero K L h
  each-raised f (suc k) = refl

  pub each-times : (d : ℕ) (l : Polynomial K 1) (p : Polynomial K d) → each (suc (suc d)) (linear_times K d l p) ≡ linear_times L d (each 2 l) (each (suc d) p)
  each-times d l p = each-is (suc (suc d)) (linear_times K d l p) (linear_times L d (each 2 l) (each (suc d) p)) (λ k. ap h.map (coefficient-times K d l p k)
      ∙ h.map-add (K.mul l.1.0 (raised K c k)) (K.mul l.0 (c k)) ∙ ap₂ L.add (h.map-mul l.1.0 (raised K c k) ∙ ap (L.mul (h.map l.1.0)) (each-raised c k)) (h.map-mul l.0 (c k))
      ∙ ap (λ (f : ℕ → L.Carrier). L.add (L.mul (h.map l.1.0) (raised L f k)) (L.mul (h.map l.0) (f k))) (λ t i. sym (coefficient-each (suc d) p i) t)
      ∙ sym (coefficient-times L d (linear L (h.map l.1.0) (h.map l.0)) (each (suc d) p) k)
      ∙ ap (λ m. coefficient L (suc (suc d)) (linear_times L d m (each (suc d) p)) k) (sym (each-linear l.1.0 l.0)))
    where
      c : ℕ → K.Carrier
      c = coefficient K (suc d) p

  abbrev pub each-polynomial : Morphism h (polynomials K) (polynomials L)
  each-polynomial = record {
    map = λ d. each (suc d);
    map-nil = λ d. each-zeros (suc d);
    map-plus = λ d. each-sum (suc d);
    map-scaled = λ d. each-scale (suc d);
    map-unit = each-unit;
    map-X = each-linear K.one K.zero ∙ ap₂ (linear L) h.map-one (hom_zero K L h);
    map-times = each-times;
  }

  abbrev pub each-point : (x : K.Carrier) → Morphism h (point K x) (point L (h.map x))
  each-point x = record {
    map = λ d. h.map;
    map-nil = λ d. hom_zero K L h;
    map-plus = λ d. h.map-add;
    map-scaled = λ d. h.map-mul;
    map-unit = h.map-one;
    map-X = refl;
    map-times = λ d. h.map-mul;
  }

  pub map-bit : (b : Bool) → h.map (bit K b) ≡ bit L b
  map-bit false = hom_zero K L h
  map-bit true = h.map-one

-- of embedded offsets and numbers, the polynomials and values over K are those over F
module _ {F K : Ring} (φ : Hom F K) (key : Instance F) (d : ℕ) where
  pub polynomial_along : (w : ℕ → ℕ → Bool) (v : ℕ → ℕ → F.Carrier) (j k : ℕ)
      → coefficient K (suc d) (polynomial (digits φ key d) w (λ i k. φ.map (v i k)) j) k ≡ φ.map (coefficient F (suc d) (polynomial (digits (identity F) key d) w v j) k)
  unfolding polynomial
  polynomial_along w v j k = sym (sym (coefficient-each φ (suc d) (polynomial (digits (identity F) key d) w v j) k)
      ∙ ap (λ p. coefficient K (suc d) p k) (map-digits (identity F) φ (λ a. refl) key (each-polynomial φ) d (λ i k c. linear F (bit F (xor (w i k) c)) (v i k)) j
      ∙ ap (λ f. (digits φ key d).constraint (polynomials K) f j) (λ t i k c. (each-linear φ (bit F (xor (w i k) c)) (v i k) ∙ ap (λ b. linear K b (φ.map (v i k))) (map-bit φ (xor (w i k) c))) t)))

  pub value_along : (t : ℕ → ℕ → Bool) (q : ℕ → ℕ → F.Carrier) (Δ : F.Carrier) (j : ℕ)
      → value (digits φ key d) t (λ i k. φ.map (q i k)) (φ.map Δ) j ≡ φ.map (value (digits (identity F) key d) t q Δ j)
  unfolding value
  value_along t q Δ j = sym (map-digits (identity F) φ (λ a. refl) key (each-point φ Δ) d (λ i k c. F.add (q i k) (F.mul (bit F (xor (t i k) c)) Δ)) j
      ∙ ap (λ f. (digits φ key d).constraint (point K (φ.map Δ)) f j) (λ s i k c. (φ.map-add (q i k) (F.mul (bit F (xor (t i k) c)) Δ)
      ∙ ap (K.add (φ.map (q i k))) (φ.map-mul (bit F (xor (t i k) c)) Δ ∙ ap (λ b. K.mul b (φ.map Δ)) (map-bit φ (xor (t i k) c)))) s))
