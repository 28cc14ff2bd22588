-- Laws of parts of lists, of tests of all words, and of loops that fill a list from the front.
use mathlib.Core.Path.{◌≡◌, refl, sym, ap, ap₂, ◌∙◌, subst}
use mathlib.Core.Bool.{Bool, true, false, ◌&&◌, and-eq-true_iff}
use mathlib.Core.List.{List, [], ◌∷◌, ◌++◌, append-nil}
use Prim.Native.Nat.{ℕ, zero, suc, ◌+◌, ◌≤◌, ◌<◌}
use native.Mathlib.Decide.{dec_lt}
use native.Mathlib.Numerals.{add-one}
use native.Mathlib.Omega.{arith}
use lib.ListN.{length, get_or, take, drop, set, replicate, drop_of_length-le, length-append, length-drop, get_or-eq_default}
use borrow.Author.Count.{below_more}
use lib.Seq.{take_all, take-suc, length-take-le, get_or-take, get_or-drop, get_or-set_same, get_or-set_other, paste}
use Rattle.lists.specs.Words.{part, put, all}

-- a list of zeros
pub zeros : (n i : ℕ) → ◌≡◌ {A = ℕ} (get_or (replicate n 0) i 0) 0
zeros zero i = refl
zeros (suc n) zero = refl
zeros (suc n) (suc i) = zeros n i

-- word k of a part
pub part_at : (i n : ℕ) (s : List ℕ) (k : ℕ) → k < n → get_or (part i n s) k 0 ≡ get_or s (i + k) 0
part_at i n s k h = get_or-take n (drop i s) k 0 h ∙ get_or-drop i s k 0

pub part_length : (i n : ℕ) (s : List ℕ) → i + n ≤ length s → length (part i n s) ≡ n
part_length i n s h = length-take-le n (drop i s) (simp length-drop (omega arith))

-- the whole list as a part, and put in place of one as long
pub part-whole : (n : ℕ) (s : List ℕ) → length s ≡ n → part 0 n s ≡ s
part-whole n s e = take_all n s (omega arith)

pub put_whole : (b s : List ℕ) → length b ≡ length s → put 0 b s ≡ b
put_whole b s e = ap (λ t. b ++ t) (drop_of_length-le s {i = 0 + length b} (omega arith)) ∙ append-nil b

pub put-length : (i : ℕ) (b s : List ℕ) → i + length b ≤ length s → length (put i b s) ≡ length s
put-length i b s h = simp (length-append, length-take-le i s (omega arith), length-drop) (omega arith)

-- a copy that is whole
pub put_pasted : (i n : ℕ) (b s : List ℕ) → length b ≡ n → paste s i b n ≡ put i b s
put_pasted i n b s e = ap₂ (λ (u : List ℕ) (k : ℕ). take i s ++ u ++ drop (i + k) s) (take_all n b (omega arith)) (sym e)

-- what holds of each of the first i words, with one more set
pub set_more : (P : ℕ → ℕ → Type 0) (s : List ℕ) (i x : ℕ) → i < length s → ((k : ℕ) → k < i → P k (get_or s k 0)) → P i x → (k : ℕ) → k < i + 1 → P k (get_or (set s i x) k 0)
set_more P s i x h e p = below_more (λ k. P k (get_or (set s i x) k 0)) i (λ k l. subst (P k) (sym (get_or-set_other s i k x 0 (omega arith))) (e k l)) (subst (P i) (sym (get_or-set_same s i x 0 h)) p)

module _ (p : ℕ → Bool) where
  and-true : (b : Bool) → b ≡ (b && true)
  and-true false = refl
  and-true true = refl

  and_assoc : (a b c : Bool) → ((a && b) && c) ≡ (a && (b && c))
  and_assoc false b c = refl
  and_assoc true b c = refl

  pub all_append : (s t : List ℕ) → all p (s ++ t) ≡ (all p s && all p t)
  unfolding all
  all_append [] t = refl
  all_append (x ∷ s) t = ap (λ b. p x && b) (all_append s t) ∙ sym (and_assoc (p x) (all p s) (all p t))

  -- one word more
  pub all_more : (s : List ℕ) (k : ℕ) → k < length s → all p (take (k + 1) s) ≡ (all p (take k s) && p (get_or s k 0))
  unfolding all
  all_more s k h = ap (λ t. all p t) (ap (λ n. take n s) (add-one k) ∙ take-suc s k 0 h) ∙ all_append (take k s) (get_or s k 0 ∷ []) ∙ ap (λ b. all p (take k s) && b) (sym (and-true (p (get_or s k 0))))

  pub all-at : (s : List ℕ) → all p s ≡ true → (k : ℕ) → k < length s → p (get_or s k 0) ≡ true
  unfolding all
  all-at [] e k h = absurd (omega arith)
  all-at (x ∷ s) e zero h = ((and-eq-true_iff (p x) (all p s)).0 e).0
  all-at (x ∷ s) e (suc k) h = all-at s ((and-eq-true_iff (p x) (all p s)).0 e).1 k (omega arith)

  pub all_from : (s : List ℕ) → ((k : ℕ) → k < length s → p (get_or s k 0) ≡ true) → all p s ≡ true
  unfolding all
  all_from [] h = refl
  all_from (x ∷ s) h = ap₂ ◌&&◌ (h 0 (omega arith)) (all_from s (λ k l. h (suc k) (omega arith)))

  -- past the end a list has zeros
  pub all_everywhere : (s : List ℕ) → all p s ≡ true → p 0 ≡ true → (k : ℕ) → p (get_or s k 0) ≡ true
  all_everywhere s e z k = pick (dec_lt k (length s))
    where
      pick : Dec (k < length s) → p (get_or s k 0) ≡ true
      pick (yes h) = all-at s e k h
      pick (no h) = ap p (get_or-eq_default s 0 (omega arith)) ∙ z
