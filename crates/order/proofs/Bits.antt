-- Laws of the set of bits.
use mathlib.Core.Path.{◌≡◌, refl, sym, ap, ap₂, ◌∙◌}
use mathlib.Core.Bool.{false, ◌||◌}
use mathlib.Core.List.{List}
use Prim.Native.Nat.{ℕ, zero, suc, ◌+◌, ◌-◌, ◌/◌, ◌%◌, ◌^◌, ◌<◌}
use native.Mathlib.Decide.{dec_lt, ℕ_discrete}
use native.Mathlib.Nat.{mod-lt, one-mul, div-eq_of_lt}
use native.Mathlib.Omega.{arith}
use borrow.Author.Tests.{eq-eqb, ne_eqb}
use lib.Bits.{bit_or, or_shr, or_mod, shifted_even}
use lib.Dec.{eqb}
use lib.ListN.{length, get_or, set, replicate}
use lib.Pow.{pow_pos, pow-lt, pow-add, shl-shr}
use lib.Seq.{get_or-set_same, get_or-set_other}
use Rattle.lists.proofs.Words.{zeros}
use Rattle.order.specs.Seen.{has}

-- digit a of 2^b
power-digit : (a b : ℕ) → eqb (2 ^ b / 2 ^ a % 2) 1 ≡ eqb b a
power-digit a b = go (dec_lt b a) (dec_lt a b)
  where
    go : Dec (b < a) → Dec (a < b) → eqb (2 ^ b / 2 ^ a % 2) 1 ≡ eqb b a
    go (yes l) h = ap (λ x. eqb (x % 2) 1) (div-eq_of_lt (pow-lt l)) ∙ sym (ne_eqb b a (omega arith))
    go (no g) (yes l) = ap (λ x. eqb (x % 2) 1) (ap (λ c. 2 ^ c / 2 ^ a) {x = b} {y = suc (b - suc a) + a} (omega arith) ∙ ap (λ x. x / 2 ^ a) (pow-add 2 (suc (b - suc a)) a) ∙ shl-shr (2 ^ suc (b - suc a)) a)
        ∙ ap (λ x. eqb x 1) (ap (λ x. x % 2) (sym (one-mul (2 ^ suc (b - suc a)))) ∙ shifted_even 1 (b - suc a)) ∙ sym (ne_eqb b a (omega arith))
    go (no g) (no h) = ap (λ x. eqb (x % 2) 1) (ap (λ c. 2 ^ c / 2 ^ a) {x = b} {y = a} (omega arith) ∙ ap (λ x. x / 2 ^ a) (sym (one-mul (2 ^ a))) ∙ shl-shr 1 a) ∙ sym (eq-eqb b a (omega arith))

either : (x y : ℕ) → x < 2 → y < 2 → eqb (bit_or x y) 1 ≡ (eqb y 1 || eqb x 1)
either zero zero h l = refl
either zero (suc zero) h l = refl
either (suc zero) zero h l = refl
either (suc zero) (suc zero) h l = refl
either zero (suc (suc y)) h l = absurd (omega arith)
either (suc zero) (suc (suc y)) h l = absurd (omega arith)
either (suc (suc x)) y h l = absurd (omega arith)

-- digit a of a word with digit b put to 1
or-digit : (w a b : ℕ) → eqb (bit_or w (2 ^ b) / 2 ^ a % 2) 1 ≡ (eqb b a || eqb (w / 2 ^ a % 2) 1)
or-digit w a b = ap (λ x. eqb (x % 2) 1) (or_shr w (2 ^ b) a) ∙ ap (λ x. eqb x 1) (or_mod (w / 2 ^ a) (2 ^ b / 2 ^ a) 1)
    ∙ either (w / 2 ^ a % 2) (2 ^ b / 2 ^ a % 2) (mod-lt (w / 2 ^ a) (omega arith)) (mod-lt (2 ^ b / 2 ^ a) (omega arith)) ∙ ap (λ c. c || eqb (w / 2 ^ a % 2) 1) (power-digit a b)

-- j put into the set
pub has-add : (seen : List ℕ) (j k : ℕ) → j / 64 < length seen → has (set seen (j / 64) (bit_or (get_or seen (j / 64) 0) (2 ^ (j % 64)))) k ≡ (eqb j k || has seen k)
unfolding has
has-add seen j k h = go (ℕ_discrete (k / 64) (j / 64))
  where
    w : ℕ
    w = bit_or (get_or seen (j / 64) 0) (2 ^ (j % 64))

    same : j / 64 ≡ k / 64 → eqb (j % 64) (k % 64) ≡ eqb j k
    same e = pick (ℕ_discrete (j % 64) (k % 64))
      where
        pick : Dec (j % 64 ≡ k % 64) → eqb (j % 64) (k % 64) ≡ eqb j k
        pick (yes p) = eq-eqb (j % 64) (k % 64) p ∙ sym (eq-eqb j k (omega arith))
        pick (no p) = ne_eqb (j % 64) (k % 64) p ∙ sym (ne_eqb j k (λ q. p (ap (λ x. x % 64) q)))

    go : Dec (k / 64 ≡ j / 64) → eqb (get_or (set seen (j / 64) (bit_or (get_or seen (j / 64) 0) (2 ^ (j % 64)))) (k / 64) 0 / 2 ^ (k % 64) % 2) 1 ≡ (eqb j k || eqb (get_or seen (k / 64) 0 / 2 ^ (k % 64) % 2) 1)
    go (yes e) = ap (λ x. eqb (x / 2 ^ (k % 64) % 2) 1) (ap (λ q. get_or (set seen (j / 64) w) q 0) e ∙ get_or-set_same seen (j / 64) w 0 h) ∙ or-digit (get_or seen (j / 64) 0) (k % 64) (j % 64)
        ∙ ap₂ ◌||◌ (same (sym e)) (ap (λ q. eqb (get_or seen q 0 / 2 ^ (k % 64) % 2) 1) (sym e))
    go (no g) = ap (λ x. eqb (x / 2 ^ (k % 64) % 2) 1) (get_or-set_other seen (j / 64) (k / 64) w 0 g) ∙ ap (λ c. c || eqb (get_or seen (k / 64) 0 / 2 ^ (k % 64) % 2) 1) (sym (ne_eqb j k (λ q. g (ap (λ x. x / 64) (sym q)))))

-- nothing is in a set of zeros
pub has-none : (n k : ℕ) → has (replicate n 0) k ≡ false
unfolding has
has-none n k = ap (λ x. eqb (x / 2 ^ (k % 64) % 2) 1) (zeros n (k / 64)) ∙ ap (λ x. eqb (x % 2) 1) (div-eq_of_lt (pow_pos (k % 64)))
