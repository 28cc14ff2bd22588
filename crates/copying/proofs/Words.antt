-- Numbers of two bytes, read from bytes.
use mathlib.Core.Path.{◌≡◌, refl, ap₂, ◌∙◌}
use mathlib.Core.List.{List, [], ◌∷◌}
use Prim.Native.Nat.{ℕ, zero, suc, ◌+◌, ◌*◌, ◌/◌, ◌<◌}
use native.Mathlib.Numerals.{add-one, add-two}
use native.Mathlib.Omega.{arith}
use lib.ListN.{length, get_or, drop}
use lib.Seq.{drop-cons}
use Rattle.copying.specs.Words.{word, words}

-- those from a position on
pub words-cons : (c : List ℕ) (i : ℕ) → i + 1 < length c → words (drop i c) ≡ word c i ∷ words (drop (i + 2) c)
unfolding words
words-cons c i h =
    let near : i < length c = omega arith in
    let far : suc i < length c = omega arith in
    rw (add-two, add-one i, drop-cons c i 0 near, drop-cons c (suc i) 0 far)

pub words-short : (c : List ℕ) → length c < 2 → words c ≡ []
unfolding words
words-short [] h = refl
words-short (a ∷ []) h = refl
words-short (a ∷ b ∷ t) h = absurd (omega arith)

-- how many there are, and number i
pub words_half : (c : List ℕ) → length (words c) ≡ length c / 2
unfolding words
words_half [] = refl
words_half (a ∷ []) = refl
words_half (a ∷ b ∷ c) = let h = words_half c in omega arith

pub words-at : (c : List ℕ) (i : ℕ) → 2 * i + 1 < length c → get_or (words c) i 0 ≡ word c (2 * i)
unfolding words
words-at [] i h = absurd (omega arith)
words-at (a ∷ []) i h = absurd (omega arith)
words-at (a ∷ b ∷ c) zero h = refl
words-at (a ∷ b ∷ c) (suc i) h =
    let high : suc (suc (2 * i)) ≡ 2 * suc i = omega arith in
    let low : suc (suc (2 * i + 1)) ≡ 2 * suc i + 1 = omega arith in
    words-at c i (omega arith) ∙ ap₂ (λ (j k : ℕ). get_or (a ∷ b ∷ c) j 0 * 256 + get_or (a ∷ b ∷ c) k 0) high low
