-- What the operations on a number do to each of its lanes of sixteen bits, however many there are.
use mathlib.Core.Path.{◌≡◌, refl, sym, ◌∙◌, ap, ap₂}
use Prim.Native.Nat.{ℕ, zero, suc, ◌+◌, ◌-◌, ◌*◌, ◌/◌, ◌%◌, ◌^◌, ◌<◌, ◌≤◌}
use native.Mathlib.Nat.{mul-add, mul_assoc, add_comm, mul-mod_left, mod-eq_of_lt, zero-mul, one-mul, mul-one}
use native.Mathlib.Decide.{dec_lt}
use native.Mathlib.Omega.{arith}
use lib.Bits.{bit_xor, bit_and, xor_mod, xor_shr, and_mod, and_shr, and_mask}
use Rattle.field.specs.Packed.{lane}
use lib.Pow.{split, high, low, field, mod-mod-pow, mod-pow-add, shr-shr, shl-shr, pow-add}

pub lane-lt : (x j : ℕ) → lane x j < 65536
unfolding lane
lane-lt x zero = omega arith
lane-lt x (suc j) = lane-lt (x / 65536) j

pub lane_xor : (x y j : ℕ) → lane (bit_xor x y) j ≡ bit_xor (lane x j) (lane y j)
unfolding lane
lane_xor x y zero = xor_mod x y 16
lane_xor x y (suc j) = ap (λ n. lane n j) (xor_shr x y 16) ∙ lane_xor (x / 65536) (y / 65536) j

pub lane_and : (x y j : ℕ) → lane (bit_and x y) j ≡ bit_and (lane x j) (lane y j)
unfolding lane
lane_and x y zero = and_mod x y 16
lane_and x y (suc j) = ap (λ n. lane n j) (and_shr x y 16) ∙ lane_and (x / 65536) (y / 65536) j

-- a number below 2^16 is lane 0, and the others are 0
pub lane-small : (x : ℕ) → x < 65536 → lane x 0 ≡ x
unfolding lane
lane-small x h = mod-eq_of_lt h

pub lane-zero : (j : ℕ) → lane 0 j ≡ 0
unfolding lane
lane-zero zero = refl
lane-zero (suc j) = lane-zero j

pub lane_above : (x j : ℕ) → x < 65536 → lane x (suc j) ≡ 0
unfolding lane
lane_above x j h = ap (λ n. lane n j) none ∙ lane-zero j
  where
    none : x / 65536 ≡ 0
    none = omega arith

-- c times a word is c times each lane, if no lane overflows
pub lane-mul : (c x j : ℕ) → ((i : ℕ) → i ≤ j → c * lane x i < 65536) → lane (c * x) j ≡ c * lane x j
unfolding lane
lane-mul c x zero h = ap (λ n. n % 65536) (ap (λ n. c * n) (sym (split x 16)) ∙ mul-add c (x / 65536 * 65536) (x % 65536) ∙ ap (λ n. n + c * (x % 65536)) (sym (mul_assoc c (x / 65536) 65536))) ∙ low (c * (x / 65536)) 16 (h 0 (omega arith))
lane-mul c x (suc j) h =
    ap (λ n. lane (n / 65536) j) (ap (λ n. c * n) (sym (split x 16)) ∙ mul-add c (x / 65536 * 65536) (x % 65536) ∙ ap (λ n. n + c * (x % 65536)) (sym (mul_assoc c (x / 65536) 65536)))
    ∙ ap (λ n. lane n j) (high (c * (x / 65536)) 16 (h 0 (omega arith)))
    ∙ lane-mul c (x / 65536) j (λ i l. h (suc i) (omega arith))

-- the digit of 2^e in each lane
pub lane-digit : (e x j : ℕ) → e < 16 → lane (x / 2 ^ e) j % 2 ≡ lane x j / 2 ^ e % 2
unfolding lane
lane-digit e x zero h = first ∙ sym (ap (λ n. n % 2) (ap (λ k. x % 2 ^ k / 2 ^ e) sixteen ∙ field x (15 - e + 1) e) ∙ mod-mod-pow (x / 2 ^ e) (15 - e) 1)
  where
    sixteen : 16 ≡ 15 - e + 1 + e
    sixteen = omega arith

    first : x / 2 ^ e % 65536 % 2 ≡ x / 2 ^ e % 2
    first = omega arith
lane-digit e x (suc j) h = ap (λ n. lane n j % 2) (shr-shr x e 16 ∙ ap (λ k. x / 2 ^ k) (add_comm e 16) ∙ sym (shr-shr x 16 e)) ∙ lane-digit e (x / 65536) j h

-- a word of n lanes
pub lane-cut : (n x j : ℕ) → j < n → lane (x % 2 ^ (16 * n)) j ≡ lane x j
unfolding lane
lane-cut zero x j h = absurd (omega arith)
lane-cut (suc n) x zero h = ap (λ k. x % 2 ^ k % 65536) more ∙ mod-mod-pow x (16 * n) 16
  where
    more : 16 * suc n ≡ 16 * n + 16
    more = omega arith
lane-cut (suc n) x (suc j) h = ap (λ k. lane (x % 2 ^ k / 65536) j) more ∙ ap (λ y. lane y j) (field x (16 * n) 16) ∙ lane-cut n (x / 65536) j (omega arith)
  where
    more : 16 * suc n ≡ 16 * n + 16
    more = omega arith

-- moved up by one lane, with b put in below
pub lane-up : (n x b : ℕ) → b < 65536 → x * 65536 % 2 ^ (16 * suc n) + b ≡ x % 2 ^ (16 * n) * 65536 + b
lane-up n x b h = ap (λ y. y + b) (ap (λ k. x * 65536 % 2 ^ k) more ∙ mod-pow-add (x * 65536) (16 * n) 16 ∙ ap₂ (λ (u v : ℕ). u % 2 ^ (16 * n) * 65536 + v) (shl-shr x 16) (mul-mod_left x 65536) ∙ plain)
  where
    more : 16 * suc n ≡ 16 * n + 16
    more = omega arith

    plain : x % 2 ^ (16 * n) * 65536 + 0 ≡ x % 2 ^ (16 * n) * 65536
    plain = omega arith

pub lane-up-zero : (n x b : ℕ) → b < 65536 → lane (x * 65536 % 2 ^ (16 * suc n) + b) 0 ≡ b
unfolding lane
lane-up-zero n x b h = ap (λ y. y % 65536) (lane-up n x b h) ∙ low (x % 2 ^ (16 * n)) 16 h

pub lane-up-suc : (n x b j : ℕ) → b < 65536 → j < n → lane (x * 65536 % 2 ^ (16 * suc n) + b) (suc j) ≡ lane x j
unfolding lane
lane-up-suc n x b j h l = ap (λ y. lane (y / 65536) j) (lane-up n x b h) ∙ ap (λ y. lane y j) (high (x % 2 ^ (16 * n)) 16 h) ∙ lane-cut n x j l

pub lane-cons-zero : (x b : ℕ) → b < 65536 → lane (x * 65536 + b) 0 ≡ b
unfolding lane
lane-cons-zero x b h = low x 16 h

pub lane-cons-suc : (x b j : ℕ) → b < 65536 → lane (x * 65536 + b) (suc j) ≡ lane x j
unfolding lane
lane-cons-suc x b j h = ap (λ y. lane y j) (high x 16 h)

-- y in lane i alone
grow : (i y : ℕ) → y * 2 ^ (16 * suc i) ≡ y * 2 ^ (16 * i) * 65536 + 0
grow i y = ap (λ k. y * 2 ^ k) more ∙ ap (λ n. y * n) (pow-add 2 (16 * i) 16) ∙ sym (mul_assoc y (2 ^ (16 * i)) 65536) ∙ omega arith
  where
    more : 16 * suc i ≡ 16 * i + 16
    more = omega arith

pub lane-put-below : (i y j : ℕ) → j < i → lane (y * 2 ^ (16 * i)) j ≡ 0
lane-put-below zero y j h = absurd (omega arith)
lane-put-below (suc i) y zero h = ap (λ x. lane x 0) (grow i y) ∙ lane-cons-zero (y * 2 ^ (16 * i)) 0 (omega arith)
lane-put-below (suc i) y (suc j) h = ap (λ x. lane x (suc j)) (grow i y) ∙ lane-cons-suc (y * 2 ^ (16 * i)) 0 j (omega arith) ∙ lane-put-below i y j (omega arith)

pub lane-put-at : (i y : ℕ) → y < 65536 → lane (y * 2 ^ (16 * i)) i ≡ y
lane-put-at zero y h = ap (λ x. lane x 0) (mul-one y) ∙ lane-small y h
lane-put-at (suc i) y h = ap (λ x. lane x (suc i)) (grow i y) ∙ lane-cons-suc (y * 2 ^ (16 * i)) 0 i (omega arith) ∙ lane-put-at i y h

pub lane-put-above : (i y j : ℕ) → y < 65536 → i < j → lane (y * 2 ^ (16 * i)) j ≡ 0
lane-put-above i y zero h l = absurd (omega arith)
lane-put-above zero y (suc j) h l = ap (λ x. lane x (suc j)) (mul-one y) ∙ lane_above y j h
lane-put-above (suc i) y (suc j) h l = ap (λ x. lane x (suc j)) (grow i y) ∙ lane-cons-suc (y * 2 ^ (16 * i)) 0 j (omega arith) ∙ lane-put-above i y j h (omega arith)

pub lane-put-other : (i y j : ℕ) → y < 65536 → (j ≡ i → ⊥) → lane (y * 2 ^ (16 * i)) j ≡ 0
lane-put-other i y j h d = pick (dec_lt j i)
  where
    pick : Dec (j < i) → lane (y * 2 ^ (16 * i)) j ≡ 0
    pick (yes l) = lane-put-below i y j l
    pick (no n) = lane-put-above i y j h (omega arith)

-- all lanes or none
pub lane_mask : (n e x j : ℕ) → e < 2 → j < n → lane (bit_and x (e * (2 ^ (16 * n) - 1))) j ≡ e * lane x j
lane_mask n zero x j h l = ap (λ m. lane (bit_and x m) j) (zero-mul (2 ^ (16 * n) - 1)) ∙ lane_and x 0 j ∙ ap (bit_and (lane x j)) (lane-zero j) ∙ and_mask (lane x j) 0 ∙ nothing
  where
    nothing : lane x j % 1 ≡ 0 * lane x j
    nothing = omega arith
lane_mask n (suc zero) x j h l = ap (λ m. lane (bit_and x m) j) (one-mul (2 ^ (16 * n) - 1)) ∙ ap (λ y. lane y j) (and_mask x (16 * n)) ∙ lane-cut n x j l ∙ sym (one-mul (lane x j))
lane_mask n (suc (suc e)) x j h l = absurd (omega arith)
