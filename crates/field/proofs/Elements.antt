-- Elements of K by their words, at every level.
use mathlib.Core.Path.{◌≡◌, sym, ◌∙◌, ap, ap₂, subst}
use mathlib.Core.List.{List}
use Prim.Native.Nat.{ℕ, zero, suc, ◌+◌, ◌-◌, ◌*◌, ◌/◌, ◌%◌, ◌^◌, ◌<◌, ◌≤◌}
use native.Mathlib.Nat.{zero-mul, one-mul, mod-one}
use native.Mathlib.Omega.{arith}
use lib.Bits.{bit_xor, bit_and}
use lib.ListN.{length, get_or, drop, replicate, get_or-replicate}
use lib.Seq.{get_or-drop}
use Rattle.field.specs.RingLaws.{mul-zero, zero-add, zero-mul as 𝟘-mul, one-mul as 𝟙-mul}
use Rattle.field.specs.Binary.{bit}
use Rattle.field.specs.QuotientLaws.{constant-times, generator-times}
use Rattle.field.specs.declared.Level.{Level}
use Rattle.field.specs.Level.{F, K, embed, Y}
use Rattle.field.specs.Word.{odd, digits, small, word, element, words}
use Rattle.field.specs.Packed.{lane, coordinate, Holds, room, Tabulates, TimesZ}
use Rattle.field.proofs.Number.{multiple, multiple-none, multiple-one, multiple-next, number_digits, number_lt}
use Rattle.field.proofs.Coordinate.{at, upper, upper_start, upper_step, upper_end, word_at, list_length, word_lt, word_sum, word-scale, digits-word, read-written, written_read}
use Rattle.field.proofs.Lanes.{lane-zero, lane_xor, lane_mask}
use Rattle.field.proofs.Packing.{coordinate-is, coordinate-word, coordinates, coordinates-at, by_lanes, lane_more}

module _ (l : Level) where
  abbrev w : ℕ
  w = l.width

  abbrev t : ℕ
  t = l.tap

  abbrev n : ℕ
  n = l.coordinates

  -- an element has as many words as K has coordinates, and none is above the limit
  pub words-length : (x : (K l).Carrier) → length (words l x) ≡ l.coordinates
  unfolding words word F K
  words-length x = list_length w t n n x

  pub words-lt : (x : (K l).Carrier) (i : ℕ) → i < l.coordinates → get_or (words l x) i 0 < 2 ^ l.width
  unfolding words word F K
  words-lt x i h = word_lt w t n x i h

  -- reading and writing words are inverse within the limit
  pub element-words : (x : (K l).Carrier) → element l (words l x) ≡ x
  unfolding element words small word F K
  element-words x = read-written w t n x

  pub words-element-lt : (s : List ℕ) → length s ≡ l.coordinates → ((i : ℕ) → i < l.coordinates → get_or s i 0 < 2 ^ l.width) → words l (element l s) ≡ s
  unfolding element words small word F K
  words-element-lt s e h = written_read w t n s e h

  -- the words of f times x: a product with an embedded element scales each coordinate
  pub words-scaled : (f : ℕ) (x : (K l).Carrier) (i : ℕ) → i < l.coordinates
      → get_or (words l ((K l).mul ((embed l).map (small l f)) x)) i 0 ≡ multiple l.width l.tap (digits l.width (get_or (words l x) i 0)) f
  unfolding embed words small word F K
  words-scaled f x i h = ap (λ y. word_at w t n y i) (constant-times (F l) n l.power (digits w f) x) ∙ word-scale w t n (digits w f) x i h ∙ ap (λ c. multiple w t c f) (sym (digits-word w t n x i h))

  -- the product of x with the coordinates of y from i up
  pub rest : (K l).Carrier → (K l).Carrier → ℕ → (K l).Carrier
  unfolding K
  rest y x i = upper (F l) n l.power y x i

  pub rest-start : (y x : (K l).Carrier) → rest y x l.coordinates ≡ (K l).zero
  unfolding rest K
  rest-start y x = upper_start (F l) n l.power y x

  pub rest_step : (y x : (K l).Carrier) (i : ℕ) → i < l.coordinates
      → rest y x i ≡ (K l).add ((K l).mul ((embed l).map (small l (get_or (words l y) i 0))) x) ((K l).mul (Y l) (rest y x (suc i)))
  unfolding rest embed Y words small word F K
  rest_step y x i h = upper_step (F l) n l.power y x i h
      ∙ ap₂ (K l).add (sym (constant-times (F l) n l.power (at (F l) n y i) x) ∙ ap (λ c. (K l).mul ((embed l).map c) x) (sym (digits-word w t n y i h))) (sym (generator-times (F l) n l.power (upper (F l) n l.power y x (suc i))))

  pub rest_end : (y x : (K l).Carrier) → rest y x 0 ≡ (K l).mul y x
  unfolding rest K
  rest_end y x = upper_end (F l) n l.power y x

  -- the lanes of word q of an element have the multiples of the coordinates of x by g
  abbrev pub Lane : (K l).Carrier → ℕ → ℕ → ℕ → Type 0
  Lane x g q v = (j : ℕ) → j < 4 → 4 * q + j < l.coordinates → lane v j ≡ multiple l.width l.tap (digits l.width (get_or (words l x) (4 * q + j) 0)) g

  -- word q of packed words, and of each element of a table
  pub holds-lane : (ws : List ℕ) (x : (K l).Carrier) → Holds l ws x → (q : ℕ) → Lane x 1 q (get_or ws q 0)
  unfolding Holds
  holds-lane ws x h q j hj hc = sym (coordinate-word ws q j hj) ∙ h (4 * q + j) hc ∙ sym (multiple-one w t (digits w (get_or (words l x) (4 * q + j) 0)) ∙ number_digits w (get_or (words l x) (4 * q + j) 0) (words-lt x (4 * q + j) hc))

  pub lane-holds : (W : ℕ) (ws : List ℕ) (x : (K l).Carrier) (g : ℕ) → l.coordinates ≤ 4 * W → ((q : ℕ) → q < W → Lane x g q (get_or ws q 0)) → Holds l ws ((K l).mul ((embed l).map (small l g)) x)
  unfolding Holds
  lane-holds W ws x g enough f i hi = by_lanes ws (λ k v. v ≡ multiple w t (digits w (get_or (words l x) k 0)) g) W n enough (λ q j hq hj hc. f q hq j hj hc) i hi ∙ sym (words-scaled g x i hi)

  pub table-lane : (ts : List ℕ) (x : (K l).Carrier) → Tabulates l ts x → (k q : ℕ) → k < l.width → Lane x (2 ^ k) q (get_or ts (room l * k + q) 0)
  unfolding Tabulates Holds
  table-lane ts x h k q hk j hj hc = ap (λ y. lane y j) (sym (get_or-drop (room l * k) ts q 0)) ∙ sym (coordinate-word (drop (room l * k) ts) q j hj) ∙ h k hk (4 * q + j) hc ∙ words-scaled (2 ^ k) x (4 * q + j) hc

  pub lane-table : (ts : List ℕ) (x : (K l).Carrier) → ((k q : ℕ) → k < l.width → q < room l → Lane x (2 ^ k) q (get_or ts (room l * k + q) 0)) → Tabulates l ts x
  unfolding Tabulates
  lane-table ts x f k hk = lane-holds (room l) (drop (room l * k) ts) x (2 ^ k) (omega arith) (λ q hq. subst (Lane x (2 ^ k) q) (sym (get_or-drop (room l * k) ts q 0)) (f k q hk hq))

  -- z times the multiples by z^k
  pub lane-next : (x : (K l).Carrier) (k q u v : ℕ) → suc k < l.width → Lane x (2 ^ k) q u → TimesZ l.width l.tap u v → Lane x (2 ^ suc k) q v
  lane-next x k q u v hk e z j hj hc = multiple-next w t (digits w (get_or (words l x) (4 * q + j) 0)) k (lane u j) (lane v j) hk (e j hj hc) (z j hj below).0 (z j hj below).1
    where
      below : (i : ℕ) → i ≤ j → lane u i < 2 ^ w
      below i h = subst (λ y. y < 2 ^ w) (sym (e i (omega arith) (omega arith))) (number_lt w _)

  -- the multiples by the lowest k digits of f, with one digit more
  pub lane-start : (x : (K l).Carrier) (f q : ℕ) → Lane x (f % 2 ^ 0) q 0
  lane-start x f q j hj hc = lane-zero j ∙ sym (ap (multiple w t (digits w (get_or (words l x) (4 * q + j) 0))) (mod-one f) ∙ multiple-none w t (digits w (get_or (words l x) (4 * q + j) 0)))

  pub lane-digits : (x : (K l).Carrier) (f k q u y : ℕ) → Lane x (f % 2 ^ k) q u → Lane x (2 ^ k) q y → Lane x (f % 2 ^ (k + 1)) q (bit_xor u (bit_and y (f / 2 ^ k % 2 * (2 ^ 64 - 1))))
  lane-digits x f k q u y hu hy j hj hc = lane_more w t f k u y (digits w (get_or (words l x) (4 * q + j) 0)) j hj (hy j hj hc) (hu j hj hc)

  -- entry i of a table of W words to an element is a word of z^(i / W) times x
  abbrev pub Entry : (W : ℕ) → (K l).Carrier → ℕ → ℕ → Type 0
  Entry W x i v = Lane x (2 ^ (i / W)) (i % W) v

  pub entry_first : (W : ℕ) (x : (K l).Carrier) (i v : ℕ) → 0 ≡ i / W → i ≡ i % W → Lane x 1 i v → Entry W x i v
  entry_first W x i v none same e = subst (λ g. Lane x (2 ^ g) (i % W) v) none (subst (λ q. Lane x 1 q v) same e)

  pub entry_next : (W : ℕ) (x : (K l).Carrier) (i u v : ℕ) → suc ((i - W) / W) ≡ i / W → (i - W) % W ≡ i % W → i / W < l.width → Entry W x (i - W) u → TimesZ l.width l.tap u v → Entry W x i v
  entry_next W x i u v more same h e z = subst (λ g. Lane x (2 ^ g) (i % W) v) more (subst (λ q. Lane x (2 ^ suc ((i - W) / W)) q v) same (lane-next x ((i - W) / W) ((i - W) % W) u v (subst (λ g. g < l.width) (sym more) h) e z))

  pub entry_at : (W : ℕ) (x : (K l).Carrier) (k q i v : ℕ) → i / W ≡ k → i % W ≡ q → Entry W x i v → Lane x (2 ^ k) q v
  entry_at W x k q i v a b e = subst (λ g. Lane x (2 ^ g) q v) a (subst (λ p. Lane x (2 ^ (i / W)) p v) b e)

  -- coordinate i of y, f, in the place of Horner's rule
  pub turn : (i f : ℕ) (other z : List ℕ) (x y : (K l).Carrier) → i < l.coordinates → f ≡ coordinate other i → Holds l other y
      → Holds l z ((K l).add ((K l).mul ((embed l).map (small l f)) x) ((K l).mul (Y l) (rest y x (suc i)))) → Holds l z (rest y x i)
  unfolding Holds
  turn i f other z x y h e hy = subst (Holds l z) (ap (λ g. (K l).add ((K l).mul ((embed l).map (small l g)) x) ((K l).mul (Y l) (rest y x (suc i)))) (e ∙ hy i h) ∙ sym (rest_step y x i h))

  pub holds-lt : (ws : List ℕ) (x : (K l).Carrier) → Holds l ws x → (i : ℕ) → i < l.coordinates → coordinate ws i < 2 ^ l.width
  unfolding Holds
  holds-lt ws x h i hi = subst (λ y. y < 2 ^ w) (sym (h i hi)) (words-lt x i hi)

  pub turn_lt : (i f : ℕ) (other : List ℕ) (y : (K l).Carrier) → i < l.coordinates → f ≡ coordinate other i → Holds l other y → f < 2 ^ l.width
  turn_lt i f other y h e hy = subst (λ g. g < 2 ^ l.width) (sym e) (holds-lt other y hy i h)

  -- packed words whose coordinates, as a list, are the words of x
  pub holds-list : (ws : List ℕ) (x : (K l).Carrier) → coordinates 0 l.coordinates ws ≡ words l x → Holds l ws x
  unfolding Holds
  holds-list ws x e i h = sym (coordinates-at n ws i h) ∙ ap (λ s. get_or s i 0) e

  -- the words of zero
  pub zero_word : (i : ℕ) → i < l.coordinates → get_or (words l (K l).zero) i 0 ≡ 0
  zero_word i h = ap (λ y. get_or (words l y) i 0) (sym (mul-zero (K l) ((embed l).map (small l 0)))) ∙ words-scaled 0 (K l).zero i h ∙ multiple-none w t (digits w (get_or (words l (K l).zero) i 0))

  -- the words of a sum, and of a product with a digit
  pub words-sum : (x y : (K l).Carrier) (i : ℕ) → i < l.coordinates → get_or (words l ((K l).add x y)) i 0 ≡ bit_xor (get_or (words l x) i 0) (get_or (words l y) i 0)
  unfolding words word F K
  words-sum x y i h = word_sum w t n x y i h

  words-digit : (b : ℕ) → b < 2 → (x : (K l).Carrier) (i : ℕ) → i < l.coordinates → get_or (words l ((K l).mul (bit (K l) (odd b)) x)) i 0 ≡ b * get_or (words l x) i 0
  words-digit zero h x i k = ap (λ y. get_or (words l y) i 0) (𝟘-mul (K l) x) ∙ zero_word i k ∙ sym (zero-mul (get_or (words l x) i 0))
  words-digit (suc zero) h x i k = ap (λ y. get_or (words l y) i 0) (𝟙-mul (K l) x) ∙ sym (one-mul (get_or (words l x) i 0))
  words-digit (suc (suc b)) h x i k = absurd (omega arith)

  -- W words of zeros, or more
  pub holds-zero : (W N : ℕ) → l.coordinates ≤ 4 * W → W ≤ N → Holds l (replicate N 0) (K l).zero
  unfolding Holds
  holds-zero W N enough long i h = coordinate-is (replicate N 0) i ∙ ap (λ y. lane y (i % 4)) (get_or-replicate N (i / 4) 0 0 (omega arith)) ∙ lane-zero (i % 4) ∙ sym (zero_word i h)

  -- the words of y are added to those of a, lane by lane
  pub holds-sum : (W : ℕ) (a r : List ℕ) (p y : (K l).Carrier) → l.coordinates ≤ 4 * W
      → ((q j : ℕ) → q < W → j < 4 → 4 * q + j < l.coordinates → lane (get_or r q 0) j ≡ bit_xor (lane (get_or a q 0) j) (get_or (words l y) (4 * q + j) 0)) → Holds l a p → Holds l r ((K l).add p y)
  unfolding Holds
  holds-sum W a r p y enough e h i hi = by_lanes r (λ k v. v ≡ bit_xor (get_or (words l p) k 0) (get_or (words l y) k 0)) W n enough
      (λ q j hq hj hc. e q j hq hj hc ∙ ap (λ v. bit_xor v (get_or (words l y) (4 * q + j) 0)) (sym (coordinate-word a q j hj) ∙ h (4 * q + j) hc)) i hi ∙ sym (words-sum p y i hi)

  -- all words of c are added to those of a, or none
  pub holds_added : (W : ℕ) (a c r : List ℕ) (b : ℕ) (p y : (K l).Carrier) → l.coordinates ≤ 4 * W → b < 2
      → ((q : ℕ) → q < W → get_or r q 0 ≡ bit_xor (get_or a q 0) (bit_and (get_or c q 0) (b * (2 ^ 64 - 1)))) → Holds l a p → Holds l c y → Holds l r ((K l).add p ((K l).mul (bit (K l) (odd b)) y))
  unfolding Holds
  holds_added W a c r b p y enough h e ha hc = holds-sum W a r p ((K l).mul (bit (K l) (odd b)) y) enough (λ q j hq hj hi. ap (λ v. lane v j) (e q hq) ∙ lane_xor (get_or a q 0) (bit_and (get_or c q 0) (b * (2 ^ 64 - 1))) j
      ∙ ap (bit_xor (lane (get_or a q 0) j)) (lane_mask 4 b (get_or c q 0) j h hj ∙ ap (λ v. b * v) (sym (coordinate-word c q j hj) ∙ hc (4 * q + j) hi) ∙ sym (words-digit b h y (4 * q + j) hi))) ha

  -- the same for the digit 1, and from zero on
  pub holds-plus : (W : ℕ) (a c r : List ℕ) (p y : (K l).Carrier) → l.coordinates ≤ 4 * W
      → ((q : ℕ) → q < W → get_or r q 0 ≡ bit_xor (get_or a q 0) (bit_and (get_or c q 0) (1 * (2 ^ 64 - 1)))) → Holds l a p → Holds l c y → Holds l r ((K l).add p y)
  holds-plus W a c r p y enough e ha hc = subst (λ x. Holds l r ((K l).add p x)) (𝟙-mul (K l) y) (holds_added W a c r 1 p y enough (omega arith) e ha hc)

  pub holds_from_zero : (r : List ℕ) (x : (K l).Carrier) → Holds l r ((K l).add (K l).zero x) → Holds l r x
  holds_from_zero r x = subst (Holds l r) (zero-add (K l) x)
