-- Numbers as bytes and back.
use mathlib.Core.Path.{◌≡◌, refl, sym, ap, ap₂, ◌∙◌, subst}
use mathlib.Core.List.{List, [], ◌∷◌, ◌++◌}
use Prim.Native.Nat.{ℕ, zero, suc, ◌+◌, ◌*◌, ◌/◌, ◌%◌, ◌≤◌, ◌<◌}
use native.Mathlib.Decide.{dec_lt}
use native.Mathlib.Omega.{arith}
use lib.ListN.{length, get_or, drop, length-take, get_or-eq_default}
use Rattle.lists.specs.Words.{part}
use Rattle.lists.proofs.Words.{part_at}
use Rattle.copying.specs.Words.{Bytes, word, words, two_bytes, word_bytes, from_bytes_after, from_bytes}
use Rattle.copying.proofs.Words.{words_half}

pub words-bytes : (s : List ℕ) → words (word_bytes s) ≡ s
unfolding words word_bytes
words-bytes [] = refl
words-bytes (x ∷ s) =
    let e : x / 256 * 256 + x % 256 ≡ x = omega arith in
    ap₂ ◌∷◌ e (words-bytes s)

pub bytes-length : (s : List ℕ) → length (word_bytes s) ≡ 2 * length s
unfolding word_bytes
bytes-length [] = refl
bytes-length (x ∷ s) = let h = bytes-length s in omega arith

pub words-length : (c : List ℕ) (k : ℕ) → length c ≡ 2 * k → length (words c) ≡ k
words-length c k h = omega (arith, words_half c)

-- the two bytes of number i
pub bytes_high : (s : List ℕ) (i : ℕ) → get_or (word_bytes s) (2 * i) 0 ≡ get_or s i 0 / 256
unfolding word_bytes
bytes_high [] i = refl
bytes_high (x ∷ s) zero = refl
bytes_high (x ∷ s) (suc i) =
    let e : 2 * suc i ≡ suc (suc (2 * i)) = omega arith in
    ap (λ k. get_or (word_bytes (x ∷ s)) k 0) e ∙ bytes_high s i

pub bytes_low : (s : List ℕ) (i : ℕ) → get_or (word_bytes s) (2 * i + 1) 0 ≡ get_or s i 0 % 256
unfolding word_bytes
bytes_low [] i = refl
bytes_low (x ∷ s) zero = refl
bytes_low (x ∷ s) (suc i) =
    let e : 2 * suc i + 1 ≡ suc (suc (2 * i + 1)) = omega arith in
    ap (λ k. get_or (word_bytes (x ∷ s)) k 0) e ∙ bytes_low s i

-- a content of k numbers, from its numbers
pub bytes-words : (c : List ℕ) (k : ℕ) → Bytes c → length c ≡ 2 * k → word_bytes (words c) ≡ c
unfolding words word_bytes
bytes-words [] k b h = refl
bytes-words (x ∷ []) k b h = absurd (omega arith)
bytes-words (x ∷ y ∷ c) zero b h = absurd (omega arith)
bytes-words (x ∷ y ∷ c) (suc k) b h =
    let low : y < 256 = b 1 in
    let high : (x * 256 + y) / 256 ≡ x = omega arith in
    let rest : (x * 256 + y) % 256 ≡ y = omega arith in
    ap₂ ◌∷◌ high (ap₂ ◌∷◌ rest (bytes-words c k (λ i. b (suc (suc i))) (omega arith)))

pub word_lt : (s : List ℕ) (i : ℕ) → Bytes s → word s i < 65536
word_lt s i b = omega (arith, b i, b (i + 1))

pub bytes-part : (s : List ℕ) (i n : ℕ) → Bytes s → Bytes (part i n s)
bytes-part s i n b k = pick (dec_lt k n)
  where
    pick : Dec (k < n) → get_or (part i n s) k 0 < 256
    pick (yes h) = subst (λ x. x < 256) (sym (part_at i n s k h)) (b (i + k))
    pick (no h) =
        let short : length (part i n s) ≤ k = rw (length-take n (drop i s)) (omega arith) in
        subst (λ x. x < 256) (sym (get_or-eq_default (part i n s) 0 short)) (omega arith)

pub bytes-cons : (x : ℕ) (s : List ℕ) → x < 256 → Bytes s → Bytes (x ∷ s)
bytes-cons x s h b zero = h
bytes-cons x s h b (suc i) = b i

pub bytes-append : (s t : List ℕ) → Bytes s → Bytes t → Bytes (s ++ t)
bytes-append [] t b d i = d i
bytes-append (x ∷ s) t b d zero = b 0
bytes-append (x ∷ s) t b d (suc i) = bytes-append s t (λ k. b (suc k)) d i

-- numbers below 2^16 are written as bytes
pub two_bytes_lem : (x : ℕ) → x < 65536 → Bytes (two_bytes x)
two_bytes_lem x h zero = omega arith
two_bytes_lem x h (suc zero) = omega arith
two_bytes_lem x h (suc (suc i)) = omega arith

pub word-bytes : (s : List ℕ) → ((i : ℕ) → get_or s i 0 < 65536) → Bytes (word_bytes s)
unfolding word_bytes
word-bytes [] h = λ i. omega arith
word-bytes (x ∷ s) h = bytes-append (two_bytes x) (word_bytes s) (two_bytes_lem x (h 0)) (word-bytes s (λ i. h (suc i)))

-- four bytes or fewer make a number below 2^32
pub from_lt : (c : List ℕ) → Bytes c → length c ≤ 4 → from_bytes c < 4294967296
unfolding from_bytes_after
from_lt [] b h = omega arith
from_lt (x₀ ∷ []) b h = omega (arith, b 0)
from_lt (x₀ ∷ x₁ ∷ []) b h = omega (arith, b 0, b 1)
from_lt (x₀ ∷ x₁ ∷ x₂ ∷ []) b h = omega (arith, b 0, b 1, b 2)
from_lt (x₀ ∷ x₁ ∷ x₂ ∷ x₃ ∷ []) b h = omega (arith, b 0, b 1, b 2, b 3)
from_lt (x₀ ∷ x₁ ∷ x₂ ∷ x₃ ∷ x₄ ∷ c) b h = absurd (omega arith)

-- the lowest 32 bits of what comes before decide those of the number
from_low : (v w : ℕ) (c : List ℕ) → v % 4294967296 ≡ w % 4294967296 → from_bytes_after v c % 4294967296 ≡ from_bytes_after w c % 4294967296
unfolding from_bytes_after
from_low v w [] h = h
from_low v w (x ∷ c) h = from_low (v * 256 + x) (w * 256 + x) c (omega arith)

-- one byte taken, where y is what then comes before
pub from_more : (v b y : ℕ) {c t : List ℕ} {n : ℕ} → c ≡ b ∷ t → from_bytes_after v c % 4294967296 ≡ n → y % 4294967296 ≡ (v * 256 + b) % 4294967296 → from_bytes_after y t % 4294967296 ≡ n
unfolding from_bytes_after
from_more v b y {c} {t} e f h = from_low y (v * 256 + b) t h ∙ ap (λ s. from_bytes_after v s % 4294967296) (sym e) ∙ f
