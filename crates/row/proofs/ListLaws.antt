-- Laws of lists given by their words, and of loops that fill a list from the front.
use mathlib.Core.Path.{◌≡◌, refl, sym, ap, ◌∙◌}
use mathlib.Core.List.{List, [], ◌∷◌, ◌++◌}
use Prim.Native.Nat.{ℕ, zero, suc, ◌+◌, ◌-◌, ◌≤◌, ◌<◌}
use native.Mathlib.Decide.{dec_lt}
use native.Mathlib.Nat.{add-zero}
use native.Mathlib.Numerals.{add-one}
use native.Mathlib.Omega.{arith}
use lib.ListN.{length, get_or, take, drop, replicate, length-append, length-replicate, get_or-append}
use lib.Seq.{length-take-le, get_or-take, get_or-drop, get_or-append-add}
use Rattle.lists.specs.Words.{put}
use Rattle.row.specs.Lists.{tab}

pub tab-length : (n : ℕ) (f : ℕ → ℕ) → length (tab n f) ≡ n
unfolding tab
tab-length zero f = refl
tab-length (suc n) f = length-append (tab n f) (f n ∷ []) ∙ ap (λ k. k + 1) (tab-length n f) ∙ add-one n

pub tab-at : (n : ℕ) (f : ℕ → ℕ) (i : ℕ) → i < n → get_or (tab n f) i 0 ≡ f i
unfolding tab
tab-at zero f i h = absurd (omega arith)
tab-at (suc n) f i h = pick (λ l. tab-at n f i l) (dec_lt i n)
  where
    last : i ≡ n → get_or (tab n f ++ (f n ∷ [])) i 0 ≡ f i
    last e = ap (λ k. get_or (tab n f ++ (f n ∷ [])) k 0) (e ∙ sym (tab-length n f) ∙ sym (add-zero (length (tab n f)))) ∙ get_or-append-add (tab n f) (f n ∷ []) 0 0 ∙ ap f (sym e)

    pick : (i < n → get_or (tab n f) i 0 ≡ f i) → Dec (i < n) → get_or (tab n f ++ (f n ∷ [])) i 0 ≡ f i
    pick g (yes l) = get_or-append (tab n f) (f n ∷ []) 0 i (omega (arith, tab-length n f)) ∙ g l
    pick g (no l) = last (omega arith)

-- a list with c in place of its words from place at on
module _ (at : ℕ) (c xs : List ℕ) (fits : at + length c ≤ length xs) where
  head : length (take at xs) ≡ at
  head = length-take-le at xs (omega arith)

  middle : length (take at xs ++ c) ≡ at + length c
  middle = length-append (take at xs) c ∙ ap (λ n. n + length c) head

  pub put-before : (k : ℕ) → k < at → get_or (put at c xs) k 0 ≡ get_or xs k 0
  put-before k h = get_or-append (take at xs ++ c) (drop (at + length c) xs) 0 k (omega (arith, middle)) ∙ get_or-append (take at xs) c 0 k (omega (arith, head)) ∙ get_or-take at xs k 0 h

  pub put_in : (k : ℕ) → k < length c → get_or (put at c xs) (at + k) 0 ≡ get_or c k 0
  put_in k h = get_or-append (take at xs ++ c) (drop (at + length c) xs) 0 (at + k) (omega (arith, middle)) ∙ ap (λ n. get_or (take at xs ++ c) (n + k) 0) (sym head) ∙ get_or-append-add (take at xs) c k 0

  pub put-after : (k : ℕ) → at + length c ≤ k → get_or (put at c xs) k 0 ≡ get_or xs k 0
  put-after k h = ap (λ n. get_or (put at c xs) n 0) split ∙ get_or-append-add (take at xs ++ c) (drop (at + length c) xs) (k - (at + length c)) 0 ∙ get_or-drop (at + length c) xs (k - (at + length c)) 0 ∙ ap (λ n. get_or xs n 0) back
    where
      split : k ≡ length (take at xs ++ c) + (k - (at + length c))
      split = omega (arith, middle)

      back : at + length c + (k - (at + length c)) ≡ k
      back = omega arith

-- zeros
abbrev pub blanks : ℕ → List ℕ
blanks n = replicate {A = ℕ} n 0

pub blanks-length : (n : ℕ) → length (blanks n) ≡ n
blanks-length n = length-replicate {A = ℕ} n 0

pub blanks_at : (n k : ℕ) → get_or (blanks n) k 0 ≡ 0
blanks_at zero k = refl
blanks_at (suc n) zero = refl
blanks_at (suc n) (suc k) = blanks_at n k
