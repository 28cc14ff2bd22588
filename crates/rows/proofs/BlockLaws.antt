-- Lists given by their parts, and loops that fill a list with them.
use mathlib.Core.Path.{◌≡◌, sym, ap, ap₂, ◌∙◌}
use mathlib.Core.List.{List, ◌++◌, append-nil}
use Prim.Native.Nat.{ℕ, zero, suc, ◌+◌, ◌*◌, ◌≤◌}
use native.Mathlib.Nat.{mul-suc, mul-zero}
use native.Mathlib.Numerals.{add-one}
use lib.ListN.{length, take, drop, drop_of_length-le}
use lib.Seq.{take-add, take_at, drop-drop, drop-append-add}
use Rattle.lists.specs.Words.{part, put, concat}
use Rattle.lists.proofs.Concat.{concat-length, concat-append}

pub concat_flat : (s n : ℕ) (f : ℕ → List ℕ) → concat (s * n) f ≡ concat n (λ j. concat s (λ k. f (s * j + k)))
unfolding concat
concat_flat s zero f = ap (λ n. concat n f) (mul-zero s)
concat_flat s (suc n) f = ap (λ n. concat n f) (mul-suc s n) ∙ concat-append (s * n) s f ∙ ap (λ t. t ++ concat s (λ k. f (s * n + k))) (concat_flat s n f)

-- a list by its parts of w words
pub concat_parts : (w n : ℕ) (ys : List ℕ) → take (w * n) ys ≡ concat n (λ i. part (w * i) w ys)
unfolding concat
concat_parts w zero ys = ap (λ n. take n ys) (mul-zero w)
concat_parts w (suc n) ys = ap (λ n. take n ys) (mul-suc w n) ∙ take-add (w * n) w ys ∙ ap (λ t. t ++ part (w * n) w ys) (concat_parts w n ys)

-- a loop that puts block n, of w words, after those before it
pub built_none : (d : List ℕ) (w : ℕ) (f : ℕ → List ℕ) → d ≡ concat 0 f ++ drop (w * 0) d
unfolding concat
built_none d w f = rw mul-zero

pub built_more : (w n : ℕ) (d : List ℕ) (f : ℕ → List ℕ) → ((i : ℕ) → length (f i) ≡ w) → put (w * n) (f n) (concat n f ++ drop (w * n) d) ≡ concat (n + 1) f ++ drop (w * (n + 1)) d
unfolding concat
built_more w n d f h =
    let l : length (concat n f) ≡ w * n = concat-length w f h n in
    let t : drop (w * n + length (f n)) (concat n f ++ drop (w * n) d) ≡ drop (w * n + w) d =
    ap₂ (λ (k e : ℕ). drop (k + e) (concat n f ++ drop (w * n) d)) (sym l) (h n) ∙ drop-append-add (concat n f) (drop (w * n) d) w ∙ drop-drop w (w * n) d in
    rw (add-one n, take_at (concat n f) (drop (w * n) d) (w * n) l, t, mul-suc)

pub built_all : (w n : ℕ) (d : List ℕ) (f : ℕ → List ℕ) → length d ≤ w * n → concat n f ++ drop (w * n) d ≡ concat n f
built_all w n d f l = rw (drop_of_length-le d l) (append-nil (concat n f))
