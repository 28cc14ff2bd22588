-- Elements in lists of words and in packed words, at every level.
use mathlib.Core.Path.{◌≡◌, sym, ◌∙◌, ap, subst}
use mathlib.Core.List.{List}
use Prim.Native.Nat.{ℕ, zero, suc, ◌+◌, ◌-◌, ◌*◌, ◌^◌, ◌≤◌, ◌<◌}
use native.Mathlib.Decide.{dec_lt}
use native.Mathlib.Nat.{min-le_left, lt_of_lt_of_le, one-mul, mul-le-mul_left, mul-le-mul_right, le_trans}
use native.Mathlib.Omega.{arith}
use lib.ListN.{length, get_or, drop, length-take, length-drop}
use lib.Pow.{pow_pos}
use lib.Seq.{ext_get_or}
use Rattle.lists.specs.Words.{part, put}
use Rattle.lists.proofs.Words.{part_at, part_length, put-length}
use Rattle.field.specs.declared.Level.{Level}
use Rattle.field.specs.Level.{K}
use Rattle.field.specs.Word.{element, words, Words}
use Rattle.field.specs.Packed.{coordinate, Holds}
use Rattle.field.proofs.Elements.{words-length, words-lt, element-words, words-element-lt, zero_word}
use Rattle.row.specs.Lists.{tab}
use Rattle.row.specs.Elements.{el, Fits, value_of, Held}
use Rattle.row.specs.Step.{Step, Put, PutTwo}
use Rattle.row.proofs.ListLaws.{tab-length, tab-at, put-before, put_in, put-after, blanks, blanks-length, blanks_at}
use Rattle.row.proofs.NumberLaws.{row-le, row_next}

-- room for fewer elements, in a list as long
pub fits_le : (l : Level) (n m : ℕ) {a b : ℕ} → n ≤ m → b ≡ a → Fits l m a → Fits l n b
fits_le l n m h e f = (subst (λ b. l.coordinates * n ≤ b) (sym e) (le_trans (mul-le-mul_left l.coordinates h) f.0), omega arith)

-- the words of element i are inside
pub fits-inside : (l : Level) (i : ℕ) {a : ℕ} → Fits l (i + 1) a → l.coordinates * i + l.coordinates ≤ a
fits-inside l i f = omega (arith, f.0, row_next l.coordinates i)

-- room for exactly so many
pub fits_all : (l : Level) (n : ℕ) {a : ℕ} → 0 < l.coordinates → a ≡ l.coordinates * n → Fits l n a
fits_all l n {a} h e = (omega arith, subst (λ b. n ≤ b) (sym e) (many l.coordinates h))
  where
    many : (w : ℕ) → 0 < w → n ≤ w * n
    many zero p = absurd (omega arith)
    many (suc w) p = subst (λ b. b ≤ suc w * n) (one-mul n) (mul-le-mul_right n p)

-- a list filled with zeros
pub cleared-length : {s : List ℕ} (n : ℕ) → s ≡ blanks n → length s ≡ n
cleared-length n e = ap length e ∙ blanks-length n

module _ (l : Level) where
  abbrev w : ℕ
  w = l.coordinates

  -- words of an element
  words_of : (s : List ℕ) (x : (K l).Carrier) → length s ≡ l.coordinates → ((i : ℕ) → i < l.coordinates → get_or s i 0 ≡ get_or (words l x) i 0) → s ≡ words l x
  words_of s x e h = ext_get_or 0 s (words l x) (e ∙ sym (words-length l x)) (λ i p. h i (omega arith))

  -- packed words and what they hold
  pub holds-value : (ws : List ℕ) (x : (K l).Carrier) → Holds l ws x → value_of l ws ≡ x
  unfolding value_of Holds
  holds-value ws x h = ap (element l) (words_of (tab w (coordinate ws)) x (tab-length w (coordinate ws)) (λ i p. tab-at w (coordinate ws) i p ∙ h i p)) ∙ element-words l x

  pub holds-held : (ws : List ℕ) (x : (K l).Carrier) → Holds l ws x → Held l ws
  holds-held ws x h = subst (Holds l ws) (sym (holds-value ws x h)) h

  -- the words of element i
  module _ (s : List ℕ) (i : ℕ) (h : Words l s) (fits : Fits l (i + 1) (length s)) where
    pub part-words : part (l.coordinates * i) l.coordinates s ≡ words l (el l s i)
    unfolding el
    part-words = sym (words-element-lt l (part (w * i) w s) (part_length (w * i) w s (fits-inside l i fits)) (λ k p. subst (λ y. y < 2 ^ l.width) (sym (part_at (w * i) w s k p)) (h (w * i + k))))

  -- an element by its words
  el-is : (s : List ℕ) (i : ℕ) (x : (K l).Carrier) → ((k : ℕ) → k < l.coordinates → get_or s (l.coordinates * i + k) 0 ≡ get_or (words l x) k 0) → l.coordinates * i + l.coordinates ≤ length s → el l s i ≡ x
  unfolding el
  el-is s i x h f = ap (element l) (words_of (part (w * i) w s) x (part_length (w * i) w s f) (λ k p. part_at (w * i) w s k p ∙ h k p)) ∙ element-words l x

  -- elements whose words are the same
  el-same : (s t : List ℕ) (j : ℕ) → length s ≡ length t → ((k : ℕ) → k < l.coordinates → get_or s (l.coordinates * j + k) 0 ≡ get_or t (l.coordinates * j + k) 0) → el l s j ≡ el l t j
  unfolding el
  el-same s t j e h = ap (element l) (ext_get_or 0 (part (w * j) w s) (part (w * j) w t) long (λ k p. at k (below k p)))
    where
      long : length (part (w * j) w s) ≡ length (part (w * j) w t)
      long = simp (length-take, length-drop, e)

      below : (k : ℕ) → k < length (part (w * j) w s) → k < w
      below k p = lt_of_lt_of_le (subst (λ n. k < n) (length-take w (drop (w * j) s)) p) (min-le_left w (length (drop (w * j) s)))

      at : (k : ℕ) → k < w → get_or (part (w * j) w s) k 0 ≡ get_or (part (w * j) w t) k 0
      at k p = part_at (w * j) w s k p ∙ h k p ∙ sym (part_at (w * j) w t k p)

  -- the words of x in place of those of element i
  module _ (xs : List ℕ) (i : ℕ) (x : (K l).Carrier) (fits : Fits l (i + 1) (length xs)) where
    abbrev ys : List ℕ
    ys = put (l.coordinates * i) (words l x) xs

    room : l.coordinates * i + length (words l x) ≤ length xs
    room = omega (arith, fits-inside l i fits, words-length l x)

    long : length ys ≡ length xs
    long = put-length (w * i) (words l x) xs room

    el-put : el l ys i ≡ x
    el-put = el-is ys i x (λ k p. put_in (w * i) (words l x) xs room k (omega (arith, words-length l x))) (omega (arith, room, long, words-length l x))

    el-other : (j : ℕ) → (j ≡ i → ⊥) → el l ys j ≡ el l xs j
    el-other j d = el-same ys xs j long (λ k p. pick k p (dec_lt j i))
      where
        pick : (k : ℕ) → k < w → Dec (j < i) → get_or ys (w * j + k) 0 ≡ get_or xs (w * j + k) 0
        pick k p (yes m) = put-before (w * i) (words l x) xs room (w * j + k) (omega (arith, row-le w j i m))
        pick k p (no m) = put-after (w * i) (words l x) xs room (w * j + k) (omega (arith, row-le w i j (omega arith), words-length l x))

    put-words : Words l xs → Words l ys
    put-words h k = pick (dec_lt k (w * i)) (dec_lt k (w * i + w))
      where
        within-x : w * i ≤ k → k < w * i + w → get_or ys k 0 < 2 ^ l.width
        within-x m n = subst (λ j. get_or ys j 0 < 2 ^ l.width) back (subst (λ y. y < 2 ^ l.width) (sym (put_in (w * i) (words l x) xs room (k - w * i) (omega (arith, words-length l x)))) (words-lt l x (k - w * i) (omega arith)))
          where
            back : w * i + (k - w * i) ≡ k
            back = omega arith

        pick : Dec (k < w * i) → Dec (k < w * i + w) → get_or ys k 0 < 2 ^ l.width
        pick (yes m) e = subst (λ y. y < 2 ^ l.width) (sym (put-before (w * i) (words l x) xs room k m)) (h k)
        pick (no m) (yes n) = within-x (omega arith) n
        pick (no m) (no n) = subst (λ y. y < 2 ^ l.width) (sym (put-after (w * i) (words l x) xs room k (omega (arith, words-length l x)))) (h k)

    pub stored : {zs : List ℕ} → Words l xs → zs ≡ ys → Step l xs zs (λ f g. Put f g i x)
    stored h e = subst (λ zs. Step l xs zs (λ f g. Put f g i x)) (sym e) (record { same = long; words = put-words h; holds = record { here = el-put; other = el-other } })

  -- two elements put, one after the other
  pub put_two : {xs ys zs : List ℕ} (a b : ℕ) (x y : (K l).Carrier) → a < b → Step l xs ys (λ f g. Put f g a x) → Step l ys zs (λ f g. Put f g b y) → Step l xs zs (λ f g. PutTwo f g a x b y)
  put_two a b x y h p q = record {
    same = q.same ∙ p.same;
    words = q.words;
    holds = record { first = q.holds.other a (omega arith) ∙ p.holds.here; second = q.holds.here; other = λ j c d. q.holds.other j d ∙ p.holds.other j c };
  }

  -- zeros
  blanks-words : (n : ℕ) → Words l (blanks n)
  blanks-words n k = subst (λ y. y < 2 ^ l.width) (sym (blanks_at n k)) (pow_pos l.width)

  blanks-el : (n i : ℕ) → Fits l (i + 1) n → el l (blanks n) i ≡ (K l).zero
  blanks-el n i f = el-is (blanks n) i (K l).zero (λ k p. blanks_at n (w * i + k) ∙ sym (zero_word l k p)) (omega (arith, fits-inside l i f, blanks-length n))

  -- a list filled with zeros
  pub cleared-words : {s : List ℕ} (n : ℕ) → s ≡ blanks n → Words l s
  cleared-words n e = subst (Words l) (sym e) (blanks-words n)

  pub cleared-el : {s : List ℕ} (n i : ℕ) → s ≡ blanks n → Fits l (i + 1) n → el l s i ≡ (K l).zero
  cleared-el n i e f = ap (λ t. el l t i) e ∙ blanks-el n i f
