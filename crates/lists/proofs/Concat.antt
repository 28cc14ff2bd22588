-- Lists of equal length, one after the other, and their parts.
use mathlib.Core.Path.{◌≡◌, refl, sym, ◌∙◌, ap, ap₂}
use mathlib.Core.Bool.{Bool, true, false, ◌&&◌}
use mathlib.Core.List.{List, [], ◌∷◌, ◌++◌, append-nil, append_assoc}
use Prim.Native.Nat.{ℕ, zero, suc, ◌+◌, ◌*◌, ◌<◌, ◌≤◌}
use native.Mathlib.Nat.{add-zero, add-suc, mul-suc, mul-zero, mul-add, mul_comm, mul_assoc, mul-le-mul_left}
use native.Mathlib.Omega.{arith}
use lib.Dec.{eqb}
use borrow.Author.Tests.{eqb-true, eqb-false}
use lib.ListN.{length, take, drop, length-append, length-drop}
use lib.Seq.{take-append-le, drop-append-le, take_all, drop_at, drop-drop, take-take}
use Rattle.lists.specs.Words.{part, all, concat}
use Rattle.lists.proofs.Words.{all_append}

pub concat_cong : (n : ℕ) (f g : ℕ → List ℕ) → ((i : ℕ) → i < n → f i ≡ g i) → concat n f ≡ concat n g
unfolding concat
concat_cong zero f g h = refl
concat_cong (suc n) f g h = ap₂ ◌++◌ (concat_cong n f g (λ i l. h i (omega arith))) (h n (omega arith))

module _ (size : ℕ) (f : ℕ → List ℕ) (each : (i : ℕ) → length (f i) ≡ size) where
  pub concat-length : (n : ℕ) → length (concat n f) ≡ size * n
  unfolding concat
  concat-length zero = sym (mul-zero size)
  concat-length (suc n) = length-append (concat n f) (f n) ∙ ap₂ ◌+◌ (concat-length n) (each n) ∙ sym (mul-suc size n)

  pub concat-part : (n i : ℕ) → i < n → part (size * i) size (concat n f) ≡ f i
  unfolding concat
  concat-part zero i l = absurd (omega arith)
  concat-part (suc n) i l = last (eqb i n) refl (concat-part n i)
    where
      last : (b : Bool) → eqb i n ≡ b → (i < n → part (size * i) size (concat n f) ≡ f i) → part (size * i) size (concat n f ++ f n) ≡ f i
      last true e before = ap (take size) (drop_at (concat n f) (f n) (size * i) (concat-length n ∙ ap (λ k. size * k) (sym (eqb-true i n e)))) ∙ take_all size (f n) (omega (arith, each n)) ∙ ap f (sym (eqb-true i n e))
      last false e before = ap (take size) (drop-append-le (size * i) (concat n f) (f n) (omega (arith, concat-length n, room, mul-suc size i)))
          ∙ take-append-le size (drop (size * i) (concat n f)) (f n) (omega (arith, length-drop (size * i) (concat n f), concat-length n, room, mul-suc size i)) ∙ before (omega (arith, eqb-false i n e))
        where
          room : size * suc i ≤ size * n
          room = mul-le-mul_left size (omega (arith, eqb-false i n e))

-- a test that holds of every word of each list
pub all-concat : (test : ℕ → Bool) (n : ℕ) (f : ℕ → List ℕ) → ((i : ℕ) → i < n → all test (f i) ≡ true) → all test (concat n f) ≡ true
unfolding concat all
all-concat test zero f h = refl
all-concat test (suc n) f h = all_append test (concat n f) (f n) ∙ ap₂ ◌&&◌ (all-concat test n f (λ i l. h i (omega arith))) (h n (omega arith))

-- a part of a part
pub part-part : (a b i n : ℕ) (s : List ℕ) → a + b ≤ n → part a b (part i n s) ≡ part (i + a) b s
part-part a b i n s h = inside a b n (drop i s) h ∙ ap (take b) (drop-drop a i s)
  where
    inside : (a b n : ℕ) (s : List ℕ) → a + b ≤ n → take b (drop a (take n s)) ≡ take b (drop a s)
    inside zero b n s h = take-take b n s (omega arith)
    inside (suc a) b zero s h = absurd (omega arith)
    inside (suc a) b (suc n) [] h = refl
    inside (suc a) b (suc n) (x ∷ s) h = inside a b n s (omega arith)

-- row after row, c lists in each
module _ (size c : ℕ) (f : ℕ → ℕ → List ℕ) (each : (i k : ℕ) → length (f i k) ≡ size) where
  pub rows-length : (n : ℕ) → length (concat n (λ i. concat c (f i))) ≡ size * c * n
  rows-length n = concat-length (size * c) (λ i. concat c (f i)) (λ i. concat-length size (f i) (each i) c) n

  pub rows-part : (n i k : ℕ) → i < n → k < c → part (size * (i * c + k)) size (concat n (λ i. concat c (f i))) ≡ f i k
  rows-part n i k l q =
      ap (λ a. part a size (concat n (λ i. concat c (f i)))) (mul-add size (i * c) k ∙ ap (λ a. a + size * k) (ap (λ a. size * a) (mul_comm i c) ∙ sym (mul_assoc size c i)))
      ∙ sym (part-part (size * k) size (size * c * i) (size * c) (concat n (λ i. concat c (f i))) (omega (arith, room, mul-suc size k)))
      ∙ ap (part (size * k) size) (concat-part (size * c) (λ i. concat c (f i)) (λ i. concat-length size (f i) (each i) c) n i l)
      ∙ concat-part size (f i) (each i) c k q
    where
      room : size * suc k ≤ size * c
      room = mul-le-mul_left size q

-- the first n lists, and then m more
pub concat-append : (n m : ℕ) (f : ℕ → List ℕ) → concat (n + m) f ≡ concat n f ++ concat m (λ e. f (n + e))
unfolding concat
concat-append n zero f = ap (λ k. concat k f) (add-zero n) ∙ sym (append-nil (concat n f))
concat-append n (suc m) f = ap (λ k. concat k f) (add-suc n m) ∙ ap (λ s. s ++ f (n + m)) (concat-append n m f) ∙ append_assoc (concat n f) (concat m (λ e. f (n + e))) (f (n + m))
