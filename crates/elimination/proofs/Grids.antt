-- Rows of words in a list, of which a part is replaced, or all rows from one on.
use mathlib.Core.Path.{◌≡◌, refl, sym, ap, ap₂, ◌∙◌, subst}
use mathlib.Core.List.{List, [], ◌∷◌, ◌++◌, append-nil}
use Prim.Native.Nat.{ℕ, zero, suc, ◌+◌, ◌-◌, ◌*◌, ◌/◌, ◌%◌, ◌^◌, ◌<◌, ◌≤◌}
use native.Mathlib.Decide.{dec_lt}
use native.Mathlib.Nat.{suc-mul, add-mul, one-mul, mul_comm, add-zero, mul-le-mul_right, div-add-mod', div-lt_iff_lt-mul, mod-lt}
use native.Mathlib.Omega.{arith}
use lib.Arith.{digits_lt}
use lib.Bits.{bit_xor, xor_lt}
use lib.Pow.{pow_pos}
use lib.ListN.{length, get_or, take, drop, replicate, length-append, length-drop, drop_of_length-le, get_or-append, get_or-eq_default}
use lib.Seq.{length-take-le, get_or-take, get_or-drop, get_or-append-add, ext_get_or, take_all}
use borrow.Rule.Slice.PartMut.{put_mid}
use Rattle.lists.specs.Words.{concat}
use Rattle.lists.proofs.Words.{part_at}
use Rattle.lists.proofs.Concat.{rows-length, rows-part}
use Rattle.field.specs.declared.Level.{Level}
use Rattle.field.specs.Word.{Words}
use Rattle.elimination.specs.Steps.{Row, Grid, entry_at, times_word}
use Rattle.elimination.proofs.Words.{times-lt}

-- a list whose words below its length are all below 2^w, so that all are: past the end it has zeros
pub words-each : (l : Level) (s : List ℕ) → ((k : ℕ) → k < length s → get_or s k 0 < 2 ^ l.width) → Words l s
words-each l s h k = go (dec_lt k (length s))
  where
    go : Dec (k < length s) → get_or s k 0 < 2 ^ l.width
    go (yes b) = h k b
    go (no b) = subst (λ x. x < 2 ^ l.width) (sym (get_or-eq_default s 0 (omega arith))) (pow_pos l.width)

pub words_added : (l : Level) (f : ℕ) (part row part' : List ℕ) → Words l part → Row (length part) part' (λ j. bit_xor (get_or part j 0) (times_word l f (get_or row j 0))) → Words l part'
words_added l f part row part' h r = words-each l part' (λ k b. subst (λ x. x < 2 ^ l.width) (sym (r.at k (omega (arith, r.size)))) (xor_lt l.width (get_or part k 0) (times_word l f (get_or row k 0)) (h k) (times-lt l f (get_or row k 0))))

pub words-zeros : (l : Level) (n : ℕ) → Words l (replicate n 0)
words-zeros l zero k = pow_pos l.width
words-zeros l (suc n) zero = pow_pos l.width
words-zeros l (suc n) (suc k) = words-zeros l n k

words_take : (l : Level) (n : ℕ) (s : List ℕ) → Words l s → Words l (take n s)
words_take l zero s h k = pow_pos l.width
words_take l (suc n) [] h k = pow_pos l.width
words_take l (suc n) (x ∷ s) h zero = h 0
words_take l (suc n) (x ∷ s) h (suc k) = words_take l n s (λ i. h (suc i)) k

pub words-part : (l : Level) (b r : ℕ) (s : List ℕ) → Words l s → Words l (take r (drop b s))
words-part l b r s h = words_take l r (drop b s) (λ k. subst (λ x. x < 2 ^ l.width) (sym (get_or-drop b s k 0)) (h (b + k)))

-- r words from place b on replaced
module _ (b r : ℕ) (h ys : List ℕ) (room : b + r ≤ length h) (same : length ys ≡ r) where
  abbrev new : List ℕ
  new = put_mid b r h ys

  front : length (take b h) ≡ b
  front = length-take-le b h (omega (arith, room))

  pub put-size : length new ≡ length h
  put-size = length-append (take b h) (ys ++ drop r (drop b h)) ∙ omega (arith, front, room, same, length-append ys (drop r (drop b h)), length-drop r (drop b h), length-drop b h)

  pub put-inside : (j : ℕ) → j < r → get_or new (b + j) 0 ≡ get_or ys j 0
  put-inside j q = ap (λ a. get_or new (a + j) 0) (sym front) ∙ get_or-append-add (take b h) (ys ++ drop r (drop b h)) j 0 ∙ get_or-append ys (drop r (drop b h)) 0 j (omega (arith, same))

  pub put-below : (i : ℕ) → i < b → get_or new i 0 ≡ get_or h i 0
  put-below i q = get_or-append (take b h) (ys ++ drop r (drop b h)) 0 i (omega (arith, front)) ∙ get_or-take b h i 0 q

  pub put-above : (i : ℕ) → b + r ≤ i → get_or new i 0 ≡ get_or h i 0
  put-above i q = at (i - (b + r)) (omega arith)
    where
      at : (k : ℕ) → i ≡ b + (r + k) → get_or new i 0 ≡ get_or h i 0
      at k e = ap (λ a. get_or new a 0) (e ∙ ap₂ (λ (x y : ℕ). x + (y + k)) (sym front) (sym same))
          ∙ get_or-append-add (take b h) (ys ++ drop r (drop b h)) (length ys + k) 0 ∙ get_or-append-add ys (drop r (drop b h)) k 0
          ∙ get_or-drop r (drop b h) k 0 ∙ get_or-drop b h (r + k) 0 ∙ ap (λ a. get_or h a 0) (sym e)

  pub put-words : (l : Level) → Words l h → Words l ys → Words l new
  put-words l u v k = go (dec_lt k b) (dec_lt k (b + r))
    where
      go : Dec (k < b) → Dec (k < b + r) → get_or new k 0 < 2 ^ l.width
      go (yes q) _ = subst (λ x. x < 2 ^ l.width) (sym (put-below k q)) (u k)
      go (no q) (no z) = subst (λ x. x < 2 ^ l.width) (sym (put-above k (omega arith))) (u k)
      go (no q) (yes z) = subst (λ x. x < 2 ^ l.width) (sym (ap (λ a. get_or new a 0) {x = k} {y = b + (k - b)} (omega arith) ∙ put-inside (k - b) (omega arith))) (v (k - b))

-- row k ends where row i begins, or before
pub row-past : (n i k : ℕ) → k < i → k * n + n ≤ i * n
row-past n i k h = omega (arith, suc-mul k n, mul-le-mul_right {m = suc k} {n = i} n h)

-- where row k of at most 128 rows ends
pub row-end : (n k rows : ℕ) → k < rows → rows ≤ 128 → (k * n + n ≤ 128 * n) × (k * n + n ≤ rows * n)
row-end n k rows q r = (row-past n 128 k (omega arith), row-past n rows k q)

-- the rows after row p
module _ (m n p : ℕ) (h : List ℕ) (size : length h ≡ m * n) (l : p < m) where
  abbrev end : ℕ
  end = p * n + n

  within : end ≤ length h
  within = omega (arith, size, row-past n m p l)

  all-rows : m * n ≡ end + (m - p - 1) * n
  all-rows = ap (λ k. k * n) {x = m} {y = suc p + (m - p - 1)} (omega arith) ∙ add-mul (suc p) (m - p - 1) n ∙ ap (λ k. k + (m - p - 1) * n) (suc-mul p n)

  pub rest-length : length (drop end h) ≡ (m - p - 1) * n
  rest-length = length-drop end h ∙ omega (arith, size, all-rows)

  later : (i j : ℕ) → p < i → i * n + j ≡ end + ((i - p - 1) * n + j)
  later i j q = omega (arith, ap (λ k. k * n) {x = i} {y = suc p + (i - p - 1)} (omega arith), add-mul (suc p) (i - p - 1) n, suc-mul p n)

  pub rest-entry : (i j : ℕ) → p < i → entry_at n (drop end h) (i - p - 1) j ≡ entry_at n h i j
  rest-entry i j q = get_or-drop end h ((i - p - 1) * n + j) 0 ∙ ap (λ k. get_or h k 0) (sym (later i j q))

  front_length : length (take end h) ≡ end
  front_length = length-take-le end h within

  module _ (ys : List ℕ) where
    pub joined_length : length ys ≡ (m - p - 1) * n → length (take end h ++ ys) ≡ m * n
    joined_length e = length-append (take end h) ys ∙ omega (arith, front_length, e, all-rows)

    pub joined-after : (i j : ℕ) → p < i → entry_at n (take end h ++ ys) i j ≡ entry_at n ys (i - p - 1) j
    joined-after i j q = ap (λ k. get_or (take end h ++ ys) k 0) (later i j q ∙ ap (λ k. k + ((i - p - 1) * n + j)) (sym front_length)) ∙ get_or-append-add (take end h) ys ((i - p - 1) * n + j) 0

    pub joined-before : (i j : ℕ) → i ≤ p → j < n → entry_at n (take end h ++ ys) i j ≡ entry_at n h i j
    joined-before i j q b = get_or-append (take end h) ys 0 (i * n + j) (omega (arith, front_length, inside)) ∙ get_or-take end h (i * n + j) 0 inside
      where
        inside : i * n + j < end
        inside = omega (arith, suc-mul p n, digits_lt {q = i} {m = suc p} {r = j} {c = n} (omega arith) b)

-- `&mut s[a..]`: what is lent, and the whole when it is back
pub tail-lent : (a : ℕ) (s : List ℕ) → take (length s - a) (drop a s) ≡ drop a s
tail-lent a s = take_all (length s - a) (drop a s) (simp length-drop (omega arith))

pub tail-back : (a : ℕ) (s ys : List ℕ) → put_mid a (length s - a) s ys ≡ take a s ++ ys
tail-back a s ys = ap (λ t. take a s ++ (ys ++ t)) (drop_of_length-le (drop a s) {i = length s - a} (simp length-drop (omega arith))) ∙ ap (λ t. take a s ++ t) (append-nil ys)

-- a list is the rows that it has
module _ (m n : ℕ) (h : List ℕ) (f : ℕ → ℕ → ℕ) (g : Grid m n h f) where
  positive : (n : ℕ) {k : ℕ} → k < m * n → 0 < n
  positive zero l = absurd (omega arith)
  positive (suc n) l = omega arith

  abbrev rows : List ℕ
  rows = concat m (λ i. concat n (λ j. f i j ∷ []))

  size-rows : length rows ≡ m * n
  size-rows = rows-length 1 n (λ i j. f i j ∷ []) (λ i j. refl) m ∙ ap (λ k. k * m) (one-mul n) ∙ mul_comm n m

  at_rows : (i j : ℕ) → i < m → j < n → entry_at n rows i j ≡ f i j
  at_rows i j a b = ap (λ k. get_or rows k 0) (sym (add-zero (i * n + j))) ∙ sym (part_at (i * n + j) 1 rows 0 (omega arith))
      ∙ ap (λ s. get_or s 0 0) (ap (λ k. take 1 (drop k rows)) (sym (one-mul (i * n + j))) ∙ rows-part 1 n (λ i j. f i j ∷ []) (λ i j. refl) m i j a b)

  pub each-entry : (P : ℕ → Type 0) → ((i j : ℕ) → i < m → j < n → P (i * n + j)) → (k : ℕ) → k < m * n → P k
  each-entry P p k l = subst P (div-add-mod' k n) (p (k / n) (k % n) ((div-lt_iff_lt-mul (positive n l)).1 l) (mod-lt k (positive n l)))

  pub grid-list : h ≡ rows
  grid-list = ext_get_or 0 h rows (g.size ∙ sym size-rows) (λ k l. each-entry (λ k. get_or h k 0 ≡ get_or rows k 0) (λ i j a b. g.at i j a b ∙ sym (at_rows i j a b)) k (omega (arith, g.size)))

  pub grid-words : (l : Level) → ((i j : ℕ) → f i j < 2 ^ l.width) → Words l h
  grid-words l w = words-each l h (λ k b. each-entry (λ k. get_or h k 0 < 2 ^ l.width) (λ i j p q. subst (λ x. x < 2 ^ l.width) (sym (g.at i j p q)) (w i j)) k (omega (arith, g.size)))
