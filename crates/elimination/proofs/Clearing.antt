-- A column cleared in the rows of a list, row after row.
use mathlib.Core.Path.{◌≡◌, refl, sym, ap, ap₂, ◌∙◌}
use mathlib.Core.Bool.{Bool, true, false, cond, ◌&&◌}
use mathlib.Core.List.{List, ◌++◌}
use Prim.Native.Nat.{ℕ, ◌+◌, ◌-◌, ◌*◌, ◌<◌, ◌≤◌}
use native.Mathlib.Decide.{dec_lt}
use native.Mathlib.Omega.{arith}
use lib.Bits.{bit_xor}
use lib.Dec.{leb, ltb}
use lib.ListN.{length, get_or, take, drop}
use borrow.Rule.Slice.PartMut.{put_mid}
use borrow.Author.Tests.{lt-ltb, le-ltb, eq-eqb, ne_eqb, le-leb, lt-leb, leb-true}
use Rattle.lists.proofs.Words.{part_at, part_length}
use Rattle.field.specs.declared.Level.{Level}
use Rattle.field.specs.Word.{Words}
use Rattle.elimination.specs.Steps.{Row, Grid, entry_at, times_word, cleared_word, unused}
use Rattle.elimination.proofs.Grids.{words_added, words-part, put-size, put-inside, put-below, put-above, put-words, row-past, rest-entry, joined_length, joined-after, joined-before}

module _ (l : Level) (n c v from : ℕ) (used row h₀ : List ℕ) where
  -- what an entry becomes
  abbrev target : ℕ → ℕ → ℕ
  target i j = cleared_word l n c v (λ j. get_or row (j - c) 0) h₀ (unused used (from + i)) i j

  -- after the first k rows
  abbrev pub cleared : ℕ → ℕ → ℕ → ℕ
  cleared k i j = cond (ltb i k) (target i j) (entry_at n h₀ i j)

  pub cleared-below : (k i j : ℕ) → i < k → cleared k i j ≡ target i j
  cleared-below k i j q = ap (λ b. cond b (target i j) (entry_at n h₀ i j)) (lt-ltb i k q)

  pub cleared_from : (k i j : ℕ) → k ≤ i → cleared k i j ≡ entry_at n h₀ i j
  cleared_from k i j q = ap (λ b. cond b (target i j) (entry_at n h₀ i j)) (le-ltb i k q)

  module _ (rows k : ℕ) (h : List ℕ) (q : k < rows) (col : c < n) (g : Grid rows n h (cleared k)) where
    same_row : (j : ℕ) → j < n → entry_at n h k j ≡ entry_at n h₀ k j
    same_row j b = g.at k j q b ∙ cleared_from k k j (omega arith)

    -- row k changed as it should be, and no other
    next : (h' : List ℕ) → length h' ≡ rows * n → ((j : ℕ) → j < n → entry_at n h' k j ≡ target k j) → ((i j : ℕ) → (i ≡ k → ⊥) → j < n → entry_at n h' i j ≡ entry_at n h i j) → Grid rows n h' (cleared (k + 1))
    next h' size here others = record { size = size; at = λ i j a b. by i j a b (dec_lt i k) (dec_lt k i) }
      where
        by : (i j : ℕ) → i < rows → j < n → Dec (i < k) → Dec (k < i) → entry_at n h' i j ≡ cleared (k + 1) i j
        by i j a b (yes e) _ = others i j (omega arith) b ∙ g.at i j a b ∙ cleared-below k i j e ∙ sym (cleared-below (k + 1) i j (omega arith))
        by i j a b (no d) (yes e) = others i j (omega arith) b ∙ g.at i j a b ∙ cleared_from k i j (omega arith) ∙ sym (cleared_from (k + 1) i j (omega arith))
        by i j a b (no d) (no e) = let z : i ≡ k = omega arith in ap (λ x. entry_at n h' x j) z ∙ here j b ∙ sym (ap (λ x. target x j) z) ∙ sym (cleared-below (k + 1) i j (omega arith))

    pub skipped : (get_or used (from + k) 0 ≡ 0 → ⊥) → Grid rows n h (cleared (k + 1))
    skipped u = next h g.size (λ j b. same_row j b ∙ ap (λ t. cond (t && leb c j) (bit_xor (entry_at n h₀ k j) (times_word l (times_word l (entry_at n h₀ k c) v) (get_or row (j - c) 0))) (entry_at n h₀ k j)) (sym (ne_eqb (get_or used (from + k) 0) 0 u))) (λ i j a b. refl)

    -- the part of row k from column c on
    module _ (b r f : ℕ) (ys : List ℕ) (place : b ≡ k * n + c) (width : c + r ≡ n) (u : get_or used (from + k) 0 ≡ 0) (fe : f ≡ times_word l (entry_at n h k c) v)
        (ye : Row (length (take r (drop b h))) ys (λ j. bit_xor (get_or (take r (drop b h)) j 0) (times_word l f (get_or row j 0)))) where
      room : b + r ≤ length h
      room = omega (arith, g.size, row-past n rows k q, place, width)

      size : length ys ≡ r
      size = ye.size ∙ part_length b r h room

      here : (j : ℕ) → j < n → entry_at n (put_mid b r h ys) k j ≡ target k j
      here j e = go (dec_lt j c)
        where
          marked : (t : Bool) → leb c j ≡ t → cond t (bit_xor (entry_at n h₀ k j) (times_word l (times_word l (entry_at n h₀ k c) v) (get_or row (j - c) 0))) (entry_at n h₀ k j) ≡ target k j
          marked t z = ap₂ (λ x y. cond (x && y) (bit_xor (entry_at n h₀ k j) (times_word l (times_word l (entry_at n h₀ k c) v) (get_or row (j - c) 0))) (entry_at n h₀ k j)) (sym (eq-eqb (get_or used (from + k) 0) 0 u)) (sym z)

          go : Dec (j < c) → entry_at n (put_mid b r h ys) k j ≡ target k j
          go (yes z) = put-below b r h ys room size (k * n + j) (omega (arith, place)) ∙ same_row j e ∙ marked false (lt-leb c j z)
          go (no z) = ap (λ a. get_or (put_mid b r h ys) a 0) {x = k * n + j} {y = b + (j - c)} (omega (arith, place)) ∙ put-inside b r h ys room size (j - c) (omega (arith, width)) ∙ ye.at (j - c) (omega (arith, part_length b r h room, width))
              ∙ ap₂ (λ x y. bit_xor x (times_word l y (get_or row (j - c) 0))) (part_at b r h (j - c) (omega (arith, width)) ∙ ap (λ a. get_or h a 0) {x = b + (j - c)} {y = k * n + j} (omega (arith, place)) ∙ same_row j e) (fe ∙ ap (λ x. times_word l x v) (same_row c col))
              ∙ marked true (le-leb c j (omega arith))

      others : (i j : ℕ) → (i ≡ k → ⊥) → j < n → entry_at n (put_mid b r h ys) i j ≡ entry_at n h i j
      others i j d e = go (dec_lt i k)
        where
          go : Dec (i < k) → entry_at n (put_mid b r h ys) i j ≡ entry_at n h i j
          go (yes z) = put-below b r h ys room size (i * n + j) (omega (arith, place, row-past n k i z))
          go (no z) = put-above b r h ys room size (i * n + j) (omega (arith, place, width, row-past n i k (omega (arith, d))))

      pub added : Grid rows n (put_mid b r h ys) (cleared (k + 1))
      added = next (put_mid b r h ys) (put-size b r h ys room size ∙ g.size) here others

      pub added_words : Words l h → Words l (put_mid b r h ys)
      added_words s = put-words b r h ys room size l s (words_added l f (take r (drop b h)) row ys (words-part l b r h s) ye)

-- the rows below row p cleared, in a list of their own: the whole
module _ (l : Level) (m n p c v w : ℕ) (used row h ys : List ℕ) (size : length h ≡ m * n) (q : p < m) (col : c < n) (ve : v ≡ w) (re : (j : ℕ) → c ≤ j → j < n → get_or row (j - c) 0 ≡ entry_at n h p j)
    (g : Grid (m - p - 1) n ys (λ i j. cleared_word l n c v (λ j. get_or row (j - c) 0) (drop (p * n + n) h) (unused used (p + 1 + i)) i j)) where
  abbrev below : ℕ → ℕ → ℕ
  below i j = cleared_word l n c w (entry_at n h p) h (ltb p i && unused used i) i j

  pub whole : Grid m n (take (p * n + n) h ++ ys) below
  whole = record { size = joined_length m n p h size q ys g.size; at = λ i j a b. by i j a b (dec_lt p i) }
    where
      -- a row below p, that clears or does not
      row_below : (i j : ℕ) → i < m → j < n → p < i → (x y : Bool) → leb c j ≡ y
          → cond (x && y) (bit_xor (entry_at n (drop (p * n + n) h) (i - p - 1) j) (times_word l (times_word l (entry_at n (drop (p * n + n) h) (i - p - 1) c) v) (get_or row (j - c) 0))) (entry_at n (drop (p * n + n) h) (i - p - 1) j)
          ≡ cond (x && y) (bit_xor (entry_at n h i j) (times_word l (times_word l (entry_at n h i c) w) (entry_at n h p j))) (entry_at n h i j)
      row_below i j a b z false y e = rest-entry m n p h size q i j z
      row_below i j a b z true false e = rest-entry m n p h size q i j z
      row_below i j a b z true true e = λ t. bit_xor (rest-entry m n p h size q i j z t) (times_word l (times_word l (rest-entry m n p h size q i c z t) (ve t)) (re j (leb-true c j e) b t))

      by : (i j : ℕ) → i < m → j < n → Dec (p < i) → entry_at n (take (p * n + n) h ++ ys) i j ≡ below i j
      by i j a b (no z) = joined-before m n p h size q ys i j (omega arith) b ∙ ap (λ x. cond ((x && unused used i) && leb c j) (bit_xor (entry_at n h i j) (times_word l (times_word l (entry_at n h i c) w) (entry_at n h p j))) (entry_at n h i j)) (sym (le-ltb p i (omega arith)))
      by i j a b (yes z) =
          joined-after m n p h size q ys i j z ∙ g.at (i - p - 1) j (omega arith) b ∙ row_below i j a b z (unused used (p + 1 + (i - p - 1))) (leb c j) refl
          ∙ ap₂ (λ x y. cond ((x && unused used y) && leb c j) (bit_xor (entry_at n h i j) (times_word l (times_word l (entry_at n h i c) w) (entry_at n h p j))) (entry_at n h i j)) (sym (lt-ltb p i z)) place
        where
          place : p + 1 + (i - p - 1) ≡ i
          place = omega arith
