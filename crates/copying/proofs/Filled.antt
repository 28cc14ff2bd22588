-- Loops that fill a list from a place on: after i turns the first i of what is to stand there are pasted in. And what is put one after the other.
use mathlib.Core.Path.{◌≡◌, ap, ap₂, ◌∙◌}
use mathlib.Core.List.{List, ◌++◌, append_assoc}
use Prim.Native.Nat.{ℕ, ◌+◌, ◌≤◌, ◌<◌}
use native.Mathlib.Numerals.{add-one}
use native.Mathlib.Omega.{arith}
use lib.ListN.{length, get_or, set, take, drop, length-append}
use lib.Seq.{paste, paste-suc, take_at, drop-append-add, drop-drop, length-take-le}
use Rattle.lists.specs.Words.{put}

-- one more of s, at its place
pub paste_more : (d : List ℕ) (at : ℕ) (s : List ℕ) (i : ℕ) {out : List ℕ} {k x : ℕ} → out ≡ paste d at s i → k ≡ at + i → x ≡ get_or s i 0 → at + i < length d → i < length s → set out k x ≡ paste d at s (i + 1)
paste_more d at s i e f g h b = rw (e, f, g, paste-suc d at s i 0 h b, add-one i)

-- b after a
pub put_more : (s : List ℕ) (at : ℕ) (a b : List ℕ) → at + length a + length b ≤ length s → put (at + length a) b (put at a s) ≡ put at (a ++ b) s
put_more s at a b h =
    let front = take at s ++ a in
    let rest = drop (at + length a) s in
    let size : length front ≡ at + length a = omega (arith, length-append (take at s) a, length-take-le at s (omega arith)) in
    let far : at + length a + length b ≡ at + length (a ++ b) = omega (arith, length-append a b) in
    let place : at + length a + length b ≡ length front + length b = omega arith in
    ap₂ (λ (u v : List ℕ). u ++ b ++ v) (take_at front rest (at + length a) size) (ap (λ k. drop k (front ++ rest)) place ∙ drop-append-add front rest (length b) ∙ drop-drop (length b) (at + length a) s ∙ ap (λ k. drop k s) far)
    ∙ ap (λ u. u ++ drop (at + length (a ++ b)) s) (append_assoc (take at s) a b)

-- t is s with a put from place at on, and i is the place after it
pub record Stands (s : List ℕ) (at : ℕ) (a t : List ℕ) (i : ℕ) : Type 0 where
  pub is : t ≡ put at a s
  pub end : i ≡ at + length a

pub stands-next : {s a t u : List ℕ} {at i j : ℕ} (b : List ℕ) → Stands s at a t i → i + length b ≤ length s → u ≡ put i b t → j ≡ i + length b → Stands s at (a ++ b) u j
stands-next {s} {a} {at = at} b w h e f =
    let end = w.end in
    record {
      is = e ∙ ap₂ (λ (k : ℕ) (r : List ℕ). put k b r) end w.is ∙ put_more s at a b (omega arith);
      end = omega (arith, length-append a b);
    }

-- from the start of s on
pub stands-first : {s a t : List ℕ} {i : ℕ} → t ≡ put 0 a s → i ≡ length a → Stands s 0 a t i
stands-first {a = a} e f = let near : length a ≡ 0 + length a = omega arith in record { is = e; end = f ∙ near }

pub first-stands : {s a t : List ℕ} {i : ℕ} → Stands s 0 a t i → (t ≡ a ++ drop (length a) s) × (i ≡ length a)
first-stands {s} {a} w = let near : 0 + length a ≡ length a = omega arith in (w.is ∙ ap (λ k. a ++ drop k s) near, w.end ∙ near)
