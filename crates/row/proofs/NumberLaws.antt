-- Rows of n elements, powers of two, and binary digits.
use mathlib.Core.Path.{◌≡◌, refl, sym, ◌∙◌, ap, subst}
use mathlib.Core.Bool.{Bool, true, false, not}
use Prim.Native.Nat.{ℕ, zero, suc, ◌+◌, ◌-◌, ◌*◌, ◌/◌, ◌%◌, ◌^◌, ◌≤◌, ◌<◌}
use native.Mathlib.Decide.{dec_lt}
use native.Mathlib.Nat.{mul-one, one-mul, mul-suc, mul-add, mul-le-mul_left, mul-le-mul_right, pow-le-pow_right, pow-succ', two-pow-succ, one-le-pow, add-mul-div_right, add-mul-mod_self_left, div-eq_of_lt}
use native.Mathlib.Numerals.{add-one}
use native.Mathlib.Omega.{arith}
use lib.Pow.{pow-add}
use Rattle.field.specs.Binary.{xor, xor-false}
use Rattle.field.specs.Word.{odd}
use Rattle.row.specs.Polynomial.{digit, chosen}

-- row q, of n elements, ends before row r
pub row-le : (n q r : ℕ) → q < r → n * q + n ≤ n * r
row-le n q r h = subst (λ x. x ≤ n * r) (mul-suc n q) (mul-le-mul_left n h)

pub row_next : (n q : ℕ) → n * (q + 1) ≡ n * q + n
row_next n q = ap (λ r. n * r) (add-one q) ∙ mul-suc n q

-- places of different rows differ
pub cells : (n q k r i : ℕ) → k < n → i < n → (q ≡ r → ⊥) → n * q + k ≡ n * r + i → ⊥
cells n q k r i h l d e = pick (dec_lt q r)
  where
    pick : Dec (q < r) → ⊥
    pick (yes m) = omega (arith, row-le n q r m)
    pick (no m) = omega (arith, row-le n r q (omega arith))

-- one row or more
pub many : (d n : ℕ) → n ≤ (d + 1) * n
many d n = subst (λ x. x ≤ (d + 1) * n) (one-mul n) (mul-le-mul_right {m = 1} {n = d + 1} n (omega arith))

pub pos : (t : ℕ) → 0 < 2 ^ t
pos t = one-le-pow t 2 (omega arith)

pub pow_double : (t : ℕ) → 2 ^ t + 2 ^ t ≡ 2 ^ (t + 1)
pow_double t = sym (ap (λ e. 2 ^ e) (add-one t) ∙ two-pow-succ t)

-- twice 2^t rows are among 2^d
pub pow_room : (d t : ℕ) → t < d → 2 ^ t + 2 ^ t ≤ 2 ^ d
pow_room d t h = omega (arith, pow-le-pow_right {n = 2} (omega arith) h, two-pow-succ t)

pub room : (n d t : ℕ) → t < d → n * 2 ^ t + n * 2 ^ t ≤ n * 2 ^ d
room n d t h = subst (λ x. x ≤ n * 2 ^ d) (mul-add n (2 ^ t) (2 ^ t)) (mul-le-mul_left n (pow_room d t h))

pub room-one : (n d : ℕ) → n ≤ n * 2 ^ d
room-one n d = subst (λ x. x ≤ n * 2 ^ d) (mul-one n) (mul-le-mul_left n (pos d))

pub odd-not : (w : ℕ) → w < 2 → odd (1 - w) ≡ not (odd w)
odd-not zero h = refl
odd-not (suc zero) h = refl
odd-not (suc (suc w)) h = absurd (omega arith)

xor-true : (b : Bool) → xor b true ≡ not b
xor-true false = refl
xor-true true = refl

-- the digit of 2^t
pub digit-place : (d x t : ℕ) → t < d → digit d x (d - 1 - t) ≡ odd (x / 2 ^ t % 2)
unfolding digit
digit-place d x t h = ap (λ n. odd (x / 2 ^ n % 2)) same
  where
    same : d - 1 - (d - 1 - t) ≡ t
    same = omega arith

-- digits of q below 2^t and of q + 2^t
digit-none : (d q t : ℕ) → t < d → q < 2 ^ t → digit d q (d - 1 - t) ≡ false
digit-none d q t h l = digit-place d q t h ∙ ap (λ n. odd (n % 2)) (div-eq_of_lt l)

digit-one : (d q t : ℕ) → t < d → q < 2 ^ t → digit d (q + 2 ^ t) (d - 1 - t) ≡ true
digit-one d q t h l = digit-place d (q + 2 ^ t) t h ∙ ap (λ n. odd (n % 2)) (ap (λ n. (q + n) / 2 ^ t) (sym (one-mul (2 ^ t))) ∙ add-mul-div_right q 1 (pos t) ∙ ap (λ n. n + 1) (div-eq_of_lt l))

pow_split : (t u : ℕ) → u < t → 2 ^ t ≡ 2 * 2 ^ (t - 1 - u) * 2 ^ u
pow_split t u h = ap (λ n. 2 ^ n) same ∙ pow-add 2 (suc (t - 1 - u)) u ∙ ap (λ n. n * 2 ^ u) (pow-succ' 2 (t - 1 - u))
  where
    same : t ≡ suc (t - 1 - u) + u
    same = omega arith

digit-below : (d q t u : ℕ) → t ≤ d → u < t → digit d (q + 2 ^ t) (d - 1 - u) ≡ digit d q (d - 1 - u)
digit-below d q t u h l = digit-place d (q + 2 ^ t) u (omega arith) ∙ ap odd (ap (λ n. n % 2) shifted ∙ even) ∙ sym (digit-place d q u (omega arith))
  where
    shifted : (q + 2 ^ t) / 2 ^ u ≡ q / 2 ^ u + 2 * 2 ^ (t - 1 - u)
    shifted = ap (λ n. (q + n) / 2 ^ u) (pow_split t u l) ∙ add-mul-div_right q (2 * 2 ^ (t - 1 - u)) (pos u)

    even : (q / 2 ^ u + 2 * 2 ^ (t - 1 - u)) % 2 ≡ q / 2 ^ u % 2
    even = add-mul-mod_self_left (q / 2 ^ u) 2 (2 ^ (t - 1 - u))

-- the bit of a column without and with 2^t
pub chosen-low : (d q t : ℕ) (w : ℕ → Bool) → t < d → q < 2 ^ t → not (w (d - 1 - t)) ≡ chosen d w q (d - 1 - t)
chosen-low d q t w h l = sym (xor-true (w (d - 1 - t))) ∙ ap (λ b. xor (w (d - 1 - t)) (not b)) (sym (digit-none d q t h l))

pub chosen-high : (d q t : ℕ) (w : ℕ → Bool) → t < d → q < 2 ^ t → w (d - 1 - t) ≡ chosen d w (q + 2 ^ t) (d - 1 - t)
chosen-high d q t w h l = sym (xor-false (w (d - 1 - t))) ∙ ap (λ b. xor (w (d - 1 - t)) (not b)) (sym (digit-one d q t h l))

pub chosen-below : (d q t u : ℕ) (w : ℕ → Bool) → t ≤ d → u < t → chosen d w (q + 2 ^ t) (d - 1 - u) ≡ chosen d w q (d - 1 - u)
chosen-below d q t u w h l = ap (λ b. xor (w (d - 1 - u)) (not b)) (digit-below d q t u h l)

-- a column below 2^(t+1) is below 2^t or 2^t more than one that is
pub halves : (P : ℕ → Type 0) (t : ℕ) → ((q : ℕ) → q < 2 ^ t → P q) → ((q : ℕ) → q < 2 ^ t → P (q + 2 ^ t)) → (q : ℕ) → q < 2 ^ (t + 1) → P q
halves P t low high q m = pick (dec_lt q (2 ^ t))
  where
    back : 2 ^ t ≤ q → q - 2 ^ t + 2 ^ t ≡ q
    back a = omega arith

    pick : Dec (q < 2 ^ t) → P q
    pick (yes a) = low q a
    pick (no a) = subst P (back (omega arith)) (high (q - 2 ^ t) (omega (arith, pow_double t)))
