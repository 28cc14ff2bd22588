-- Rows of words in a list, of which a part is replaced, or one row.
use mathlib.Core.Path.{◌≡◌, refl, sym, ap, ap₂, ◌∙◌, subst}
use mathlib.Core.List.{List, [], ◌∷◌, ◌++◌}
use Prim.Native.Nat.{ℕ, zero, suc, ◌+◌, ◌-◌, ◌*◌, ◌/◌, ◌%◌, ◌<◌, ◌≤◌}
use native.Mathlib.Decide.{dec_lt}
use native.Mathlib.Nat.{suc-mul, one-mul, mul_comm, add-zero, mul-le-mul_right, div-add-mod', div-lt_iff_lt-mul, mod-lt}
use native.Mathlib.Omega.{arith}
use lib.ListN.{length, get_or, take, drop, length-append, length-drop, get_or-append}
use lib.Seq.{length-take-le, get_or-take, get_or-drop, get_or-append-add, ext_get_or}
use borrow.Rule.Slice.PartMut.{put_mid}
use Rattle.lists.specs.Words.{concat}
use Rattle.lists.specs.Rows.{Row, Grid, entry_at}
use Rattle.lists.proofs.Words.{part_at, part_length}
use Rattle.lists.proofs.Concat.{rows-length, rows-part}

-- r words from place b on replaced
module _ (b r : ℕ) (h ys : List ℕ) (room : b + r ≤ length h) (same : length ys ≡ r) where
  abbrev new : List ℕ
  new = put_mid b r h ys

  front : length (take b h) ≡ b
  front = length-take-le b h (omega (arith, room))

  pub put-size : length new ≡ length h
  put-size = length-append (take b h) (ys ++ drop r (drop b h)) ∙ omega (arith, front, room, same, length-append ys (drop r (drop b h)), length-drop r (drop b h), length-drop b h)

  pub put-inside : (j : ℕ) → j < r → get_or new (b + j) 0 ≡ get_or ys j 0
  put-inside j q = ap (λ a. get_or new (a + j) 0) (sym front) ∙ get_or-append-add (take b h) (ys ++ drop r (drop b h)) j 0 ∙ get_or-append ys (drop r (drop b h)) 0 j (omega (arith, same))

  pub put-below : (i : ℕ) → i < b → get_or new i 0 ≡ get_or h i 0
  put-below i q = get_or-append (take b h) (ys ++ drop r (drop b h)) 0 i (omega (arith, front)) ∙ get_or-take b h i 0 q

  pub put-above : (i : ℕ) → b + r ≤ i → get_or new i 0 ≡ get_or h i 0
  put-above i q = at (i - (b + r)) (omega arith)
    where
      at : (k : ℕ) → i ≡ b + (r + k) → get_or new i 0 ≡ get_or h i 0
      at k e = ap (λ a. get_or new a 0) (e ∙ ap₂ (λ (x y : ℕ). x + (y + k)) (sym front) (sym same))
          ∙ get_or-append-add (take b h) (ys ++ drop r (drop b h)) (length ys + k) 0 ∙ get_or-append-add ys (drop r (drop b h)) k 0
          ∙ get_or-drop r (drop b h) k 0 ∙ get_or-drop b h (r + k) 0 ∙ ap (λ a. get_or h a 0) (sym e)

-- row k ends where row i begins, or before
pub row-past : (n i k : ℕ) → k < i → k * n + n ≤ i * n
row-past n i k h = omega (arith, suc-mul k n, mul-le-mul_right {m = suc k} {n = i} n h)

-- row k lent and given back: its words are those of g, and no other row is changed
module _ (m n k : ℕ) (h ys : List ℕ) (f : ℕ → ℕ → ℕ) (g : ℕ → ℕ) (a : Grid m n h f) (q : k < m) (y : Row n ys g) where
  room : k * n + n ≤ length h
  room = omega (arith, a.size, row-past n m k q)

  pub row_back : (f' : ℕ → ℕ → ℕ) → ((j : ℕ) → j < n → f' k j ≡ g j) → ((i j : ℕ) → (i ≡ k → ⊥) → f' i j ≡ f i j) → Grid m n (put_mid (k * n) n h ys) f'
  row_back f' here others = record { size = put-size (k * n) n h ys room y.size ∙ a.size; at = λ i j p b. by i j p b (dec_lt i k) (dec_lt k i) }
    where
      by : (i j : ℕ) → i < m → j < n → Dec (i < k) → Dec (k < i) → entry_at n (put_mid (k * n) n h ys) i j ≡ f' i j
      by i j p b (yes e) _ = put-below (k * n) n h ys room y.size (i * n + j) (omega (arith, row-past n k i e)) ∙ a.at i j p b ∙ sym (others i j (λ z. omega (arith, z)))
      by i j p b (no d) (yes e) = put-above (k * n) n h ys room y.size (i * n + j) (omega (arith, row-past n i k e)) ∙ a.at i j p b ∙ sym (others i j (λ z. omega (arith, z)))
      by i j p b (no d) (no e) = let z : i ≡ k = omega arith in ap (λ x. entry_at n (put_mid (k * n) n h ys) x j) z ∙ put-inside (k * n) n h ys room y.size j b ∙ y.at j b ∙ sym (ap (λ x. f' x j) z ∙ here j b)

-- row k of a list of rows
pub row-lent : (m n k : ℕ) (h : List ℕ) (f : ℕ → ℕ → ℕ) → Grid m n h f → k < m → Row n (take n (drop (k * n) h)) (f k)
row-lent m n k h f a q = record {
  size = part_length (k * n) n h (omega (arith, a.size, row-past n m k q));
  at = λ j b. part_at (k * n) n h j b ∙ a.at k j q b;
}

-- a list is the rows that it has
module _ (m n : ℕ) (h : List ℕ) (f : ℕ → ℕ → ℕ) (g : Grid m n h f) where
  positive : (n : ℕ) {k : ℕ} → k < m * n → 0 < n
  positive zero l = absurd (omega arith)
  positive (suc n) l = omega arith

  abbrev rows : List ℕ
  rows = concat m (λ i. concat n (λ j. f i j ∷ []))

  size-rows : length rows ≡ m * n
  size-rows = rows-length 1 n (λ i j. f i j ∷ []) (λ i j. refl) m ∙ ap (λ k. k * m) (one-mul n) ∙ mul_comm n m

  at_rows : (i j : ℕ) → i < m → j < n → entry_at n rows i j ≡ f i j
  at_rows i j a b = ap (λ k. get_or rows k 0) (sym (add-zero (i * n + j))) ∙ sym (part_at (i * n + j) 1 rows 0 (omega arith))
      ∙ ap (λ s. get_or s 0 0) (ap (λ k. take 1 (drop k rows)) (sym (one-mul (i * n + j))) ∙ rows-part 1 n (λ i j. f i j ∷ []) (λ i j. refl) m i j a b)

  pub each-entry : (P : ℕ → Type 0) → ((i j : ℕ) → i < m → j < n → P (i * n + j)) → (k : ℕ) → k < m * n → P k
  each-entry P p k l = subst P (div-add-mod' k n) (p (k / n) (k % n) ((div-lt_iff_lt-mul (positive n l)).1 l) (mod-lt k (positive n l)))

  pub grid-list : h ≡ rows
  grid-list = ext_get_or 0 h rows (g.size ∙ sym size-rows) (λ k l. each-entry (λ k. get_or h k 0 ≡ get_or rows k 0) (λ i j a b. g.at i j a b ∙ sym (at_rows i j a b)) k (omega (arith, g.size)))
