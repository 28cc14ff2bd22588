-- Laws of numbers as elements of F: z^w = z^t + 1 over two elements, for any width w and tap t.
use mathlib.Core.Path.{◌≡◌, refl, sym, ◌∙◌, ap, ap₂, subst}
use mathlib.Core.Bool.{Bool, true, false, cond}
use Prim.Native.Nat.{ℕ, zero, suc, ◌+◌, ◌-◌, ◌*◌, ◌/◌, ◌%◌, ◌^◌, ◌<◌, ◌≤◌}
use native.Mathlib.Nat.{zero-mul, one-mul, mul-zero, mul_comm, pow-suc, mod-lt, mul-le-mul_right}
use native.Mathlib.Omega.{arith}
use lib.Arith.{mod-mul}
use lib.Bits.{bit_xor, differ, xor_step, xor_lt, xor_block, xor_zero_r, xor_shifted, xor_comm}
use lib.Pow.{pow_pos, pow-lt, split}
use Rattle.field.specs.Ring.{Ring}
use Rattle.field.specs.RingLaws.{zero-mul as 𝟘-mul, add-mul}
use Rattle.field.specs.Binary.{binary, xor}
use Rattle.field.specs.Vector.{Vector, zeros, unit, sum, scale, push, top}
use Rattle.field.specs.VectorLaws.{zero-scale, one-scale, sum_zeros}
use Rattle.field.specs.Quotient.{rule, times_x, times, generator}
use Rattle.field.specs.QuotientLaws.{generator-times}
use Rattle.field.specs.Extension.{extend}
use Rattle.field.specs.Word.{odd, digits, number}

differ-lt : (x y : ℕ) → x < 2 → y < 2 → (differ x y < 2) × (odd (differ x y) ≡ xor (odd x) (odd y))
differ-lt zero zero h k = (omega arith, refl)
differ-lt zero (suc zero) h k = (omega arith, refl)
differ-lt zero (suc (suc y)) h k = absurd (omega arith)
differ-lt (suc zero) zero h k = (omega arith, refl)
differ-lt (suc zero) (suc zero) h k = (omega arith, refl)
differ-lt (suc zero) (suc (suc y)) h k = absurd (omega arith)
differ-lt (suc (suc x)) y h k = absurd (omega arith)

pub digits-xor : (n a b : ℕ) → digits n (bit_xor a b) ≡ sum binary n (digits n a) (digits n b)
unfolding digits sum
digits-xor zero a b = refl
digits-xor (suc n) a b = λ i. ((ap odd low ∙ d.1) i, (ap (digits n) high ∙ digits-xor n (a / 2) (b / 2)) i)
  where
    d : (differ (a % 2) (b % 2) < 2) × (odd (differ (a % 2) (b % 2)) ≡ xor (odd (a % 2)) (odd (b % 2)))
    d = differ-lt (a % 2) (b % 2) (omega arith) (omega arith)

    low : bit_xor a b % 2 ≡ differ (a % 2) (b % 2)
    low = omega (arith, xor_step a b, d.0)

    high : bit_xor a b / 2 ≡ bit_xor (a / 2) (b / 2)
    high = omega (arith, xor_step a b, d.0)

bit-odd : (b : Bool) (m : ℕ) → (odd ((cond b 1 0 + 2 * m) % 2) ≡ b) × ((cond b 1 0 + 2 * m) / 2 ≡ m)
bit-odd false m = (ap odd {x = (0 + 2 * m) % 2} {y = 0} (omega arith), omega arith)
bit-odd true m = (ap odd {x = (1 + 2 * m) % 2} {y = 1} (omega arith), omega arith)

pub digits-zero : (n : ℕ) → digits n 0 ≡ zeros binary n
unfolding digits zeros
digits-zero zero = refl
digits-zero (suc n) = λ i. (false, digits-zero n i)

pub digits-one : (n : ℕ) → digits n 1 ≡ unit binary n 0
unfolding digits unit
digits-one zero = refl
digits-one (suc n) = λ i. (true, digits-zero n i)

pub digits_number : (n : ℕ) (v : Vector Bool n) → digits n (number n v) ≡ v
unfolding digits number
digits_number zero v = refl
digits_number (suc n) v = λ i. ((bit-odd v.0 (number n v.1)).0 i, (ap (digits n) (bit-odd v.0 (number n v.1)).1 ∙ digits_number n v.1) i)

odd-bit : (x : ℕ) → x < 2 → cond (odd x) 1 0 ≡ x
odd-bit zero h = refl
odd-bit (suc zero) h = refl
odd-bit (suc (suc x)) h = absurd (omega arith)

pub number_digits : (n x : ℕ) → x < 2 ^ n → number n (digits n x) ≡ x
unfolding digits number
number_digits zero x h = omega arith
number_digits (suc n) x h = ap₂ (λ (a b : ℕ). a + 2 * b) (odd-bit (x % 2) (omega arith)) (number_digits n (x / 2) (omega (arith, pow-suc 2 n))) ∙ omega arith

-- a number doubled, with a digit put in below
pub digits_push : (n x : ℕ) (b : Bool) → digits n (cond b 1 0 + 2 * x) ≡ push binary n b (digits n x)
unfolding digits push
digits_push zero x b = refl
digits_push (suc n) x b = λ i. ((bit-odd b x).0 i, (ap (digits n) ((bit-odd b x).1 ∙ split) ∙ digits_push n (x / 2) (odd (x % 2))) i)
  where
    split : x ≡ cond (odd (x % 2)) 1 0 + 2 * (x / 2)
    split = omega (arith, odd-bit (x % 2) (omega arith))

-- the digit that falls out above
top-low : (n x : ℕ) (b : Bool) → cond b 1 0 + 2 * x < 2 ^ n → top binary n b (digits n x) ≡ false
unfolding digits top
top-low zero x false h = refl
top-low zero x true h = absurd (omega arith)
top-low (suc n) x b h = top-low n (x / 2) (odd (x % 2)) (omega (arith, pow-suc 2 n, odd-bit (x % 2) (omega arith)))

top-high : (n x : ℕ) (b : Bool) → 2 ^ n ≤ cond b 1 0 + 2 * x → x < 2 ^ n → top binary n b (digits n x) ≡ true
unfolding digits top
top-high zero x false h l = absurd (omega arith)
top-high zero x true h l = refl
top-high (suc n) x b h l = top-high n (x / 2) (odd (x % 2)) (low b h) (omega (arith, pow-suc 2 n))
  where
    low : (b : Bool) → 2 ^ suc n ≤ cond b 1 0 + 2 * x → 2 ^ n ≤ cond (odd (x % 2)) 1 0 + 2 * (x / 2)
    low false h = omega (arith, pow-suc 2 n, odd-bit (x % 2) (omega arith))
    low true h = omega (arith, pow-suc 2 n, odd-bit (x % 2) (omega arith))

digits_above : (n x : ℕ) → digits n (2 ^ n + x) ≡ digits n x
unfolding digits
digits_above zero x = refl
digits_above (suc n) x = λ i. (odd (low i), (ap (digits n) high ∙ digits_above n (x / 2)) i)
  where
    low : (2 ^ suc n + x) % 2 ≡ x % 2
    low = omega (arith, pow-suc 2 n)

    high : (2 ^ suc n + x) / 2 ≡ 2 ^ n + x / 2
    high = omega (arith, pow-suc 2 n)

pub number_lt : (n : ℕ) (v : Vector Bool n) → number n v < 2 ^ n
unfolding number
number_lt zero v = omega arith
number_lt (suc n) v = go v.0 (number n v.1) (number_lt n v.1)
  where
    go : (b : Bool) (x : ℕ) → x < 2 ^ n → cond b 1 0 + 2 * x < 2 ^ suc n
    go false x h = omega (arith, pow-suc 2 n)
    go true x h = omega (arith, pow-suc 2 n)

-- the number of a sum
pub number-sum : (n : ℕ) (u v : Vector Bool n) → number n (sum binary n u v) ≡ bit_xor (number n u) (number n v)
number-sum n u v = ap (number n) (ap₂ (sum binary n) (sym (digits_number n u)) (sym (digits_number n v)) ∙ sym (digits-xor n (number n u) (number n v)))
    ∙ number_digits n (bit_xor (number n u) (number n v)) (xor_lt n (number n u) (number n v) (number_lt n u) (number_lt n v))

-- z times a number: doubled, with the digit of z^w turned into the number r of the rule
module _ (w t : ℕ) where
  double : (x : ℕ) → 2 * x ≡ 0 + 2 * x
  double x = omega arith

  times_x-low : (x : ℕ) → 2 * x < 2 ^ w → digits w (2 * x) ≡ times_x binary w t (digits w x)
  unfolding times_x
  times_x-low x h = sym (sum_zeros binary w (digits w (2 * x)))
      ∙ ap₂ (sum binary w) (ap (digits w) (double x) ∙ digits_push w x false) (sym (zero-scale binary w (rule binary w t)) ∙ ap (λ c. scale binary w c (rule binary w t)) (sym (top-low w x false (omega arith))))

  -- a number by its lowest digit and its half
  pub digits_half : (x : ℕ) → 1 < w → x < 2 ^ w → digits w x ≡ sum binary w (digits w (x % 2)) (times binary w t (digits w 2) (digits w (x / 2)))
  unfolding generator
  digits_half x h l = ap (digits w) parts ∙ digits-xor w (x % 2) (2 * (x / 2))
      ∙ ap (sum binary w (digits w (x % 2))) (times_x-low (x / 2) (omega arith) ∙ sym (generator-times binary w t (digits w (x / 2))) ∙ ap (λ u. times binary w t u (digits w (x / 2))) (ap (times_x binary w t) (sym (digits-one w)) ∙ sym (times_x-low 1 two)))
    where
      two : 2 * 1 < 2 ^ w
      two = pow-lt h

      parts : x ≡ bit_xor (x % 2) (2 * (x / 2))
      parts = omega arith ∙ sym (xor_shifted (x / 2) 1 (x % 2) (omega arith)) ∙ xor_comm (x / 2 * 2) (x % 2) ∙ ap (bit_xor (x % 2)) (mul_comm (x / 2) 2)

  times_x-high : (x r : ℕ) → digits w r ≡ rule binary w t → 2 ^ w ≤ 2 * x → x < 2 ^ w → digits w (bit_xor (2 * x - 2 ^ w) r) ≡ times_x binary w t (digits w x)
  unfolding times_x
  times_x-high x r e h l = digits-xor w (2 * x - 2 ^ w) r
      ∙ ap₂ (sum binary w) (sym (digits_above w (2 * x - 2 ^ w)) ∙ ap (digits w) (above ∙ double x) ∙ digits_push w x false) (e ∙ sym (one-scale binary w (rule binary w t)) ∙ ap (λ c. scale binary w c (rule binary w t)) (sym (top-high w x false (omega arith) l)))
    where
      above : 2 ^ w + (2 * x - 2 ^ w) ≡ 2 * x
      above = omega arith

  half : 0 < w → 2 ^ w ≡ 2 ^ (w - 1) * 2
  half p = ap (λ k. 2 ^ k) same ∙ pow-suc 2 (w - 1)
    where
      same : w ≡ suc (w - 1)
      same = omega arith

  pub times_x-number : (r x : ℕ) → 0 < w → digits w r ≡ rule binary w t → r < 2 ^ w → x < 2 ^ w
      → (bit_xor (2 * x) ((2 ^ w + r) * (x / 2 ^ (w - 1))) < 2 ^ w) × (digits w (bit_xor (2 * x) ((2 ^ w + r) * (x / 2 ^ (w - 1)))) ≡ times_x binary w t (digits w x))
  times_x-number r x p e l h = go (x / 2 ^ (w - 1)) refl
    where
      parts : x / 2 ^ (w - 1) * 2 ^ (w - 1) + x % 2 ^ (w - 1) ≡ x
      parts = split x (w - 1)

      rest : x % 2 ^ (w - 1) < 2 ^ (w - 1)
      rest = mod-lt x (pow_pos (w - 1))

      Result : ℕ → Type 0
      Result n = (n < 2 ^ w) × (digits w n ≡ times_x binary w t (digits w x))

      go : (q : ℕ) → x / 2 ^ (w - 1) ≡ q → Result (bit_xor (2 * x) ((2 ^ w + r) * q))
      go zero d = subst Result (sym (ap (bit_xor (2 * x)) (mul-zero (2 ^ w + r)) ∙ xor_zero_r (2 * x))) (fits, times_x-low x fits)
        where
          fits : 2 * x < 2 ^ w
          fits = omega (arith, half p, rest, parts, d, ap (λ n. n * 2 ^ (w - 1)) d, zero-mul (2 ^ (w - 1)))
      go (suc zero) d = subst Result (sym turned) (xor_lt w (2 * x - 2 ^ w) r (omega (arith, above)) l, times_x-high x r e above h)
        where
          above : 2 ^ w ≤ 2 * x
          above = omega (arith, half p, parts, ap (λ n. n * 2 ^ (w - 1)) d, one-mul (2 ^ (w - 1)))

          one : 2 * x ≡ 1 * 2 ^ w + (2 * x - 2 ^ w)
          one = omega (arith, above, one-mul (2 ^ w))

          two : (2 ^ w + r) * 1 ≡ 1 * 2 ^ w + r
          two = omega (arith, one-mul (2 ^ w))

          turned : bit_xor (2 * x) ((2 ^ w + r) * 1) ≡ bit_xor (2 * x - 2 ^ w) r
          turned = ap₂ bit_xor one two ∙ xor_block w 1 1 (2 * x - 2 ^ w) r (omega (arith, above)) l ∙ omega (arith, zero-mul (2 ^ w))
      go (suc (suc q)) d = absurd (omega (arith, half p, parts, h, ap (λ n. n * 2 ^ (w - 1)) d, big))
        where
          big : 2 * 2 ^ (w - 1) ≤ suc (suc q) * 2 ^ (w - 1)
          big = mul-le-mul_right (2 ^ (w - 1)) (omega arith)

-- products of an element b of F with numbers
module _ (w t : ℕ) (b : Vector Bool w) where
  abbrev F : Ring
  F = extend binary w t

  -- the number of a times b
  abbrev pub multiple : ℕ → ℕ
  multiple a = number w (F.mul (digits w a) b)

  pub multiple-none : multiple 0 ≡ 0
  multiple-none = ap (number w) (ap (λ u. F.mul u b) (digits-zero w) ∙ 𝟘-mul F b ∙ sym (digits-zero w)) ∙ number_digits w 0 (pow_pos w)

  pub multiple-one : multiple 1 ≡ number w b
  multiple-one = ap (λ u. number w (F.mul u b)) (digits-one w) ∙ ap (number w) (F.mul_comm (unit binary w 0) b ∙ F.mul-one b)

  -- z times the multiple by z^k is the multiple by z^(k + 1)
  pub multiple-up : (k : ℕ) → suc k < w → times_x binary w t (F.mul (digits w (2 ^ k)) b) ≡ F.mul (digits w (2 ^ suc k)) b
  multiple-up k h = sym (generator-times binary w t (F.mul (digits w (2 ^ k)) b)) ∙ sym (F.mul_assoc (generator binary w t) (digits w (2 ^ k)) b)
      ∙ ap (λ u. F.mul u b) (generator-times binary w t (digits w (2 ^ k)) ∙ sym (times_x-low w t (2 ^ k) fits) ∙ ap (digits w) twice)
    where
      twice : 2 * 2 ^ k ≡ 2 ^ suc k
      twice = omega (arith, pow-suc 2 k)

      fits : 2 * 2 ^ k < 2 ^ w
      fits = subst (λ n. n < 2 ^ w) (sym twice) (pow-lt h)

  -- one digit e more
  digit_more : (x e k : ℕ) → x < 2 ^ k → e < 2 → multiple (e * 2 ^ k + x) ≡ bit_xor (multiple x) (e * multiple (2 ^ k))
  digit_more x zero k h l = ap multiple none ∙ sym (ap (bit_xor (multiple x)) (zero-mul (multiple (2 ^ k))) ∙ xor_zero_r (multiple x))
    where
      none : 0 * 2 ^ k + x ≡ x
      none = omega (arith, zero-mul (2 ^ k))
  digit_more x (suc zero) k h l = ap (λ n. number w (F.mul n b)) (ap (digits w) (sym (xor_shifted 1 k x h) ∙ ap (λ n. bit_xor n x) (one-mul (2 ^ k))) ∙ digits-xor w (2 ^ k) x ∙ F.add_comm (digits w (2 ^ k)) (digits w x))
      ∙ ap (number w) (add-mul F (digits w x) (digits w (2 ^ k)) b) ∙ number-sum w (F.mul (digits w x) b) (F.mul (digits w (2 ^ k)) b) ∙ ap (bit_xor (multiple x)) (sym (one-mul (multiple (2 ^ k))))
  digit_more x (suc (suc e)) k h l = absurd (omega arith)

  -- the multiple by the lowest k + 1 digits of a, from that by the lowest k
  pub multiple_more : (a k : ℕ) → multiple (a % 2 ^ suc k) ≡ bit_xor (multiple (a % 2 ^ k)) (a / 2 ^ k % 2 * multiple (2 ^ k))
  multiple_more a k = ap multiple (ap (λ n. a % n) (pow-suc 2 k ∙ mul_comm (2 ^ k) 2) ∙ mod-mul a {m = 2} {c = 2 ^ k} (omega arith) (pow_pos k)) ∙ digit_more (a % 2 ^ k) (a / 2 ^ k % 2) k (mod-lt a (pow_pos k)) (omega arith)

  -- z times the multiple y by z^k, as a number
  pub multiple-next : (k y z : ℕ) → suc k < w → y ≡ multiple (2 ^ k) → z < 2 ^ w → digits w z ≡ times_x binary w t (digits w y) → z ≡ multiple (2 ^ suc k)
  multiple-next k y z h e l d = sym (number_digits w z l) ∙ ap (number w) (d ∙ ap (times_x binary w t) (ap (digits w) e ∙ digits_number w (F.mul (digits w (2 ^ k)) b)) ∙ multiple-up k h)
