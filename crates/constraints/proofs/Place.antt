-- The digits of a number, highest first, in any base.
use mathlib.Core.Path.{◌≡◌, refl, sym, ◌∙◌, ap, ap₂, subst}
use mathlib.Core.Bool.{Bool, true, false, ◌&&◌}
use Prim.Native.Nat.{ℕ, zero, suc, ◌+◌, ◌-◌, ◌*◌, ◌/◌, ◌%◌, ◌^◌, ◌<◌}
use native.Mathlib.Nat.{mod-lt, pow-zero, pow-succ', pow-suc, div-one, div-div-eq-div-mul, div-lt_iff_lt-mul, div-add-mod', mul-add-div_right, mul-add-mod_self_right, mod-eq_of_lt, div-eq_of_lt}
use native.Mathlib.Omega.{arith}
use lib.Dec.{eqb}
use borrow.Author.Tests.{eqb-true, eqb-false, eq-eqb, ne_eqb}
use Rattle.field.specs.Ring.{Ring}
use Rattle.field.specs.Binary.{bit}
use Rattle.constraints.specs.Graded.{product, point}
use Rattle.constraints.specs.GradedLaws.{product_cong}
use Rattle.constraints.specs.Digits.{digit_in}
use Rattle.field.proofs.Bits.{bit-mul}

pub digit_lt : (b d k j : ℕ) → 0 < b → digit_in b d k j < b
unfolding digit_in
digit_lt b d k j p = mod-lt (j / b ^ (d - 1 - k)) p

-- the number with the digits c 0, c 1, .., c (d - 1)
unfoldable pub compose : (b d : ℕ) → (ℕ → ℕ) → ℕ
compose b zero c = 0
compose b (suc d) c = compose b d c * b + c d

digit-last : (b d j : ℕ) → digit_in b (suc d) d j ≡ j % b
unfolding digit_in
digit-last b d j = ap (λ s. j / b ^ s % b) {x = suc d - 1 - d} {y = 0} (omega arith) ∙ ap (λ s. j / s % b) (pow-zero b) ∙ ap (λ s. s % b) (div-one j)

digit-rest : (b d k j : ℕ) → k < d → digit_in b (suc d) k j ≡ digit_in b d k (j / b)
unfolding digit_in
digit-rest b d k j l = ap (λ s. j / b ^ s % b) {x = suc d - 1 - k} {y = suc (d - 1 - k)} (omega arith)
    ∙ ap (λ s. j / s % b) (pow-succ' b (d - 1 - k)) ∙ ap (λ s. s % b) (sym (div-div-eq-div-mul j b (b ^ (d - 1 - k))))

compose_cong : (b d : ℕ) (c e : ℕ → ℕ) → ((k : ℕ) → k < d → c k ≡ e k) → compose b d c ≡ compose b d e
unfolding compose
compose_cong b zero c e h = refl
compose_cong b (suc d) c e h = ap₂ (λ s t. s * b + t) (compose_cong b d c e (λ k l. h k (omega arith))) (h d (omega arith))

half : (b d j : ℕ) → 0 < b → j < b ^ suc d → j / b < b ^ d
half b d j p h = (div-lt_iff_lt-mul p).1 (subst (λ s. j < s) (pow-suc b d) h)

pub compose-digits : (b d j : ℕ) → 0 < b → j < b ^ d → compose b d (λ k. digit_in b d k j) ≡ j
unfolding compose
compose-digits b zero j p h = omega (arith, subst (λ s. j < s) (pow-zero b) h)
compose-digits b (suc d) j p h =
    ap₂ (λ s t. s * b + t) (compose_cong b d _ _ (λ k l. digit-rest b d k j l) ∙ compose-digits b d (j / b) p (half b d j p h)) (digit-last b d j)
    ∙ div-add-mod' j b

eqb_split : (b a c j : ℕ) → 0 < b → c < b → eqb (a * b + c) j ≡ (eqb c (j % b) && eqb a (j / b))
eqb_split b a c j p l = cases (eqb c (j % b)) (eqb a (j / b)) refl refl
  where
    high : (a * b + c) / b ≡ a
    high = mul-add-div_right p a c ∙ ap (λ s. a + s) (div-eq_of_lt l) ∙ omega arith

    low : (a * b + c) % b ≡ c
    low = mul-add-mod_self_right a b c ∙ mod-eq_of_lt l

    cases : (s t : Bool) → eqb c (j % b) ≡ s → eqb a (j / b) ≡ t → eqb (a * b + c) j ≡ (s && t)
    cases false t e g = ne_eqb (a * b + c) j (λ h. eqb-false c (j % b) e (sym low ∙ ap (λ s. s % b) h))
    cases true false e g = ne_eqb (a * b + c) j (λ h. eqb-false a (j / b) g (sym high ∙ ap (λ s. s / b) h))
    cases true true e g = eq-eqb (a * b + c) j (ap₂ (λ s t. s * b + t) (eqb-true a (j / b) g) (eqb-true c (j % b) e) ∙ div-add-mod' j b)

-- the digits agree exactly where the numbers do
pub digits-agree : (K : Ring) (x : K.Carrier) (b d : ℕ) (c : ℕ → ℕ) (j : ℕ) → 0 < b → ((k : ℕ) → k < d → c k < b) → j < b ^ d
    → product (point K x) d (λ k. bit K (eqb (c k) (digit_in b d k j))) ≡ bit K (eqb (compose b d c) j)
unfolding product compose
digits-agree K x b zero c j p h l = ap (bit K) (sym (eq-eqb 0 j (omega (arith, subst (λ s. j < s) (pow-zero b) l))))
digits-agree K x b (suc d) c j p h l =
    ap₂ K.mul (ap (λ s. bit K (eqb (c d) s)) (digit-last b d j))
    (product_cong (point K x) d _ _ (λ k r. ap (λ s. bit K (eqb (c k) s)) (digit-rest b d k j r)) ∙ digits-agree K x b d c (j / b) p (λ k r. h k (omega arith)) (half b d j p l))
    ∙ sym (bit-mul K (eqb (c d) (j % b)) (eqb (compose b d c) (j / b))) ∙ ap (bit K) (sym (eqb_split b (compose b d c) (c d) j p (h d (omega arith))))
