-- Sums, products and inverses in F, in words; and what the rank's theorem asks of F.
use mathlib.Core.Path.{◌≡◌, sym, ◌∙◌, ap, ap₂, subst}
use mathlib.Core.Bool.{true, true≢false}
use mathlib.Core.Logic.{◌↔◌}
use mathlib.Core.List.{List}
use Prim.Native.Nat.{ℕ, zero, suc, ◌+◌, ◌-◌, ◌*◌, ◌/◌, ◌%◌, ◌^◌, ◌<◌, ◌≤◌}
use native.Mathlib.Nat.{pow-suc, mod-one, mod-eq_of_lt, lt_of_lt_of_le, zero-mul as none-mul, one-mul as single-mul}
use native.Mathlib.Numerals.{add-one}
use native.Mathlib.Omega.{arith}
use lib.Bits.{bit_xor, bit_and, xor_lt}
use lib.Pow.{pow_pos, pow-lt, pow_mono}
use borrow.Author.Tests.{eqb-true, eq-eqb}
use Rattle.field.specs.Ring.{Ring}
use Rattle.field.specs.RingLaws.{ring, mul-zero}
use Rattle.field.specs.Sums.{pow}
use Rattle.field.specs.Binary.{binary}
use Rattle.field.specs.Vector.{sum}
use Rattle.field.specs.VectorLaws.{sum_assoc}
use Rattle.field.specs.Quotient.{times_x}
use Rattle.field.specs.declared.Level.{Level}
use Rattle.field.specs.Level.{F, level_at}
use Rattle.field.specs.Word.{digits, number, small, word}
use Rattle.field.proofs.Fields.{F-distinct, bounded}
use Rattle.field.proofs.Number.{digits-zero, digits-one, digits_number, number_digits, number_lt, number-sum, digits-xor, multiple, multiple-none, multiple-one, multiple_more, multiple-next}
use Rattle.field.proofs.ShiftAdd.{masked}
use Rattle.galois.specs.Inverse.{inverse, Inverts}
use Rattle.elimination.specs.Rank.{is_zero, rank_of, Leaning}
use Rattle.elimination.specs.Steps.{times_word}
use Rattle.elimination.proofs.Dependence.{Inverting, short-rank}

pub xor_assoc : (n a b c : ℕ) → a < 2 ^ n → b < 2 ^ n → c < 2 ^ n → bit_xor (bit_xor a b) c ≡ bit_xor a (bit_xor b c)
xor_assoc n a b c h k l = sym (number_digits n (bit_xor (bit_xor a b) c) (xor_lt n (bit_xor a b) c (xor_lt n a b h k) l))
    ∙ ap (number n) (digits-xor n (bit_xor a b) c ∙ ap (λ u. sum binary n u (digits n c)) (digits-xor n a b) ∙ sum_assoc binary n (digits n a) (digits n b) (digits n c)
    ∙ sym (digits-xor n a (bit_xor b c) ∙ ap (sum binary n (digits n a)) (digits-xor n b c)))
    ∙ number_digits n (bit_xor a (bit_xor b c)) (xor_lt n a (bit_xor b c) h (xor_lt n b c k l))

module _ (R : Ring) (x : R.Carrier) where
  pub pow-add : (m n : ℕ) → pow R x (m + n) ≡ R.mul (pow R x m) (pow R x n)
  unfolding pow
  pow-add m zero = ap (pow R x) {x = m + 0} {y = m} (omega arith) ∙ sym (R.mul-one (pow R x m))
  pow-add m (suc n) = ap (pow R x) {x = m + suc n} {y = suc (m + n)} (omega arith) ∙ ap (R.mul x) (pow-add m n) ∙ inner (pow R x m) (pow R x n)
    where
      inner : (a b : R.Carrier) → R.mul x (R.mul a b) ≡ R.mul a (R.mul x b)
      inner a b = simp ring

  -- x^(2^(k + 1) - 1) from x^(2^k - 1), and x^(2^k - 2) from x^(2^(k - 1) - 1)
  pub pow-ones : (k : ℕ) → R.mul x (R.mul (pow R x (2 ^ k - 1)) (pow R x (2 ^ k - 1))) ≡ pow R x (2 ^ (k + 1) - 1)
  unfolding pow
  pow-ones k = ap (R.mul x) (sym (pow-add (2 ^ k - 1) (2 ^ k - 1))) ∙ ap (pow R x) same
    where
      same : suc (2 ^ k - 1 + (2 ^ k - 1)) ≡ 2 ^ (k + 1) - 1
      same = omega (arith, pow_pos k, ap (λ n. 2 ^ n) (add-one k), pow-suc 2 k)

  pub pow-last : (k : ℕ) → R.mul (pow R x (2 ^ k - 1)) (pow R x (2 ^ k - 1)) ≡ pow R x (2 ^ suc k - 2)
  pow-last k = sym (pow-add (2 ^ k - 1) (2 ^ k - 1)) ∙ ap (pow R x) same
    where
      same : 2 ^ k - 1 + (2 ^ k - 1) ≡ 2 ^ suc k - 2
      same = omega (arith, pow_pos k, pow-suc 2 k)

module _ (l : Level) where
  pub small_word : (a : (F l).Carrier) → small l (word l a) ≡ a
  unfolding F small word
  small_word a = digits_number l.width a

  pub word_small : (x : ℕ) → x < 2 ^ l.width → word l (small l x) ≡ x
  unfolding F small word
  word_small x h = number_digits l.width x h

  pub word_lt : (a : (F l).Carrier) → word l a < 2 ^ l.width
  unfolding F word
  word_lt a = number_lt l.width a

  pub small-zero : small l 0 ≡ (F l).zero
  unfolding F small
  small-zero = digits-zero l.width

  pub word-zero : word l (F l).zero ≡ 0
  word-zero = ap (word l) (sym small-zero) ∙ word_small 0 (pow_pos l.width)

  pub word-one : 0 < l.width → word l (F l).one ≡ 1
  unfolding F word
  word-one h = ap (number l.width) (sym (digits-one l.width)) ∙ number_digits l.width 1 (pow-lt {i = 0} {j = l.width} h)

  pub word_sum : (a b : (F l).Carrier) → bit_xor (word l a) (word l b) ≡ word l ((F l).add a b)
  unfolding F word
  word_sum a b = sym (number-sum l.width a b)

  pub times-is : (a b : ℕ) {r : ℕ} → r ≡ word l ((F l).mul (small l a) (small l b)) → r ≡ times_word l a b
  unfolding times_word
  times-is a b e = e

  pub times-word : (a b : (F l).Carrier) → times_word l (word l a) (word l b) ≡ word l ((F l).mul a b)
  unfolding times_word
  times-word a b = ap₂ (λ x y. word l ((F l).mul x y)) (small_word a) (small_word b)

  pub times-lt : (a b : ℕ) → times_word l a b < 2 ^ l.width
  unfolding times_word
  times-lt a b = word_lt ((F l).mul (small l a) (small l b))

  -- times a word that is zero
  pub times_none : (a : ℕ) → times_word l a 0 ≡ 0
  unfolding times_word
  times_none a = ap (λ x. word l ((F l).mul (small l a) x)) small-zero ∙ ap (word l) (mul-zero (F l) (small l a)) ∙ word-zero

  -- zero is the element whose word is zero
  pub zero_is : (a : (F l).Carrier) → is_zero l a ≡ true → a ≡ (F l).zero
  unfolding is_zero
  zero_is a e = sym (small_word a) ∙ ap (small l) (eqb-true (word l a) 0 e) ∙ small-zero

  module _ (I : Inverts l) (w : 0 < l.width) where
    pub inverting : Inverting (F l) (is_zero l) (inverse l)
    unfolding is_zero
    inverting = record {
      distinct = F-distinct l w;
      null = zero_is;
      inverts = λ a e. I a (λ z. true≢false (sym (eq-eqb (word l a) 0 (ap (word l) z ∙ word-zero)) ∙ e));
    }

    -- refusal 15: the rank is short exactly when the rows lean on each other
    pub short_leaning : (n m : ℕ) (h : List ℕ) → (rank_of l n m h < m) ↔ Leaning l n m h
    unfolding rank_of
    short_leaning n m h = short-rank (F l) (is_zero l) (inverse l) inverting n m _

-- the words of elements are within the limit, and no word within it but zero is that of zero
module _ (number : ℕ) where
  abbrev l : Level
  l = level_at number

  pub word-within : {x : ℕ} (a : (F l).Carrier) → x ≡ word l a → x ≤ l.limit
  word-within a e = omega (arith, e, word_lt l a, (bounded number).whole)

  pub within-lt : {x : ℕ} → x ≤ l.limit → x < 2 ^ l.width
  within-lt h = omega (arith, (bounded number).limit)

  pub some-small : (x : ℕ) → 0 < x → x ≤ l.limit → small l x ≡ (F l).zero → ⊥
  some-small x p h e = omega (arith, p, sym (word_small l x (within-lt h)) ∙ ap (word l) e ∙ word-zero l)

-- f times the words of a row, by the digits of the words: w is the width and t the tap
module _ (l : Level) (f : ℕ) where
  abbrev w : ℕ
  w = l.width

  -- the word of f times x
  abbrev pub product : ℕ → ℕ
  product x = multiple w l.tap (digits w f) x

  pub product_lt : (x : ℕ) → product x < 2 ^ w
  product_lt x = number_lt w _

  pub product-none : (x : ℕ) → product (x % 2 ^ 0) ≡ 0
  product-none x = ap product (mod-one x) ∙ multiple-none w l.tap (digits w f)

  pub product-one : f < 2 ^ w → f ≡ product (2 ^ 0)
  product-one h = sym (multiple-one w l.tap (digits w f) ∙ number_digits w f h)

  -- z times the multiple by z^k
  pub product-next : (y v k : ℕ) → k + 1 < w → y ≡ product (2 ^ k) → (y < 2 ^ w → (v < 2 ^ w) × (digits w v ≡ times_x binary w l.tap (digits w y))) → v ≡ product (2 ^ (k + 1))
  product-next y v k h e next =
      let r = next (subst (λ n. n < 2 ^ w) (sym e) (product_lt (2 ^ k))) in
      multiple-next w l.tap (digits w f) k y v (omega arith) e r.0 r.1 ∙ ap (λ n. product (2 ^ n)) (sym (add-one k))

  -- one digit more of x, added to p
  pub product_more : (p x k : ℕ) → p < 2 ^ w → w ≤ 16 → bit_xor (bit_xor p (product (x % 2 ^ k))) (bit_and (product (2 ^ k)) (x / 2 ^ k % 2 * 65535)) ≡ bit_xor p (product (x % 2 ^ (k + 1)))
  product_more p x k h s = ap (bit_xor (bit_xor p (product (x % 2 ^ k)))) bit ∙ xor_assoc w p (product (x % 2 ^ k)) (x / 2 ^ k % 2 * product (2 ^ k)) h (product_lt (x % 2 ^ k)) (term (x / 2 ^ k % 2) (omega arith))
      ∙ ap (bit_xor p) (sym (multiple_more w l.tap (digits w f) x k) ∙ ap (λ n. product (x % 2 ^ n)) (sym (add-one k)))
    where
      bit : bit_and (product (2 ^ k)) (x / 2 ^ k % 2 * 65535) ≡ x / 2 ^ k % 2 * product (2 ^ k)
      bit = masked (x / 2 ^ k % 2) (product (2 ^ k)) (omega arith) (lt_of_lt_of_le (product_lt (2 ^ k)) (pow_mono {i = w} {j = 16} s))

      term : (e : ℕ) → e < 2 → e * product (2 ^ k) < 2 ^ w
      term zero l = subst (λ n. n < 2 ^ w) (sym (none-mul (product (2 ^ k)))) (pow_pos w)
      term (suc zero) l = subst (λ n. n < 2 ^ w) (sym (single-mul (product (2 ^ k)))) (product_lt (2 ^ k))
      term (suc (suc e)) l = absurd (omega arith)

  pub product-end : (x : ℕ) → x < 2 ^ w → product (x % 2 ^ w) ≡ times_word l f x
  unfolding times_word F small word
  product-end x h = ap product (mod-eq_of_lt h) ∙ ap (word l) ((F l).mul_comm (small l x) (small l f))
