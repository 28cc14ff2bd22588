-- Packed words by their coordinates: what the operations on words do to them, for any number of words, width and tap.
use mathlib.Core.Path.{◌≡◌, refl, sym, ◌∙◌, ap, ap₂, subst}
use mathlib.Core.Bool.{Bool}
use mathlib.Core.List.{List, [], ◌∷◌}
use Prim.Native.Nat.{ℕ, zero, suc, ◌+◌, ◌-◌, ◌*◌, ◌/◌, ◌%◌, ◌^◌, ◌<◌, ◌≤◌}
use native.Mathlib.Decide.{ℕ_discrete}
use native.Mathlib.Nat.{mul_comm, mul-one, mul-le-mul_left, mod-eq_of_lt, lt_of_le_of_lt, le_of_suc-le-suc, add-zero, add-suc, suc-add}
use native.Mathlib.Numerals.{add-one}
use native.Mathlib.Omega.{arith}
use lib.Bits.{bit_xor, bit_and, xor_zero_r, and_mask}
use lib.ListN.{get_or}
use lib.Pow.{shr_lt, shr-shr, pow_mono}
use Rattle.field.specs.Ring.{Ring}
use Rattle.field.specs.Binary.{binary}
use Rattle.field.specs.Vector.{Vector}
use Rattle.field.specs.Quotient.{rule, times_x}
use Rattle.field.specs.Extension.{extend}
use Rattle.field.specs.Word.{digits}
use Rattle.field.specs.Packed.{lane, coordinate, TimesZ}
use Rattle.field.proofs.Number.{multiple, multiple_more, times_x-number}
use Rattle.field.proofs.Coordinate.{word_at, word-Y-zero, word-Y-tap, word-Y-other}
use Rattle.field.proofs.Lanes.{lane_xor, lane_and, lane-mul, lane-digit, lane-cut, lane-put-at, lane-put-other, lane_mask}

-- a lane, by a shift
pub lane_shift : (x j : ℕ) → lane x j ≡ x / 2 ^ (16 * j) % 65536
unfolding lane
lane_shift x zero = ap (λ n. n % 65536) one
  where
    one : x ≡ x / 1
    one = omega arith
lane_shift x (suc j) = lane_shift (x / 65536) j ∙ ap (λ n. n % 65536) (shr-shr x 16 (16 * j) ∙ ap (λ k. x / 2 ^ k) same)
  where
    same : 16 + 16 * j ≡ 16 * suc j
    same = omega arith

-- lane j of word q
pub coordinate-word : (ws : List ℕ) (q j : ℕ) → j < 4 → coordinate ws (4 * q + j) ≡ lane (get_or ws q 0) j
unfolding coordinate
coordinate-word ws q j h = ap₂ (λ (u v : ℕ). lane (get_or ws u 0) v) first second
  where
    first : (4 * q + j) / 4 ≡ q
    first = omega arith

    second : (4 * q + j) % 4 ≡ j
    second = omega arith

pub coordinate-is : (ws : List ℕ) (i : ℕ) → coordinate ws i ≡ lane (get_or ws (i / 4) 0) (i % 4)
unfolding coordinate
coordinate-is ws i = refl

-- n coordinates from place i on, as a list
unfoldable pub coordinates : ℕ → ℕ → List ℕ → List ℕ
coordinates i zero ws = []
coordinates i (suc n) ws = coordinate ws i ∷ coordinates (suc i) n ws

coordinates_from : (i n : ℕ) (ws : List ℕ) (k : ℕ) → k < n → get_or (coordinates i n ws) k 0 ≡ coordinate ws (i + k)
unfolding coordinates
coordinates_from i zero ws k h = absurd (omega arith)
coordinates_from i (suc n) ws zero h = ap (coordinate ws) (sym (add-zero i))
coordinates_from i (suc n) ws (suc k) h = coordinates_from (suc i) n ws k (omega arith) ∙ ap (coordinate ws) (suc-add i k ∙ sym (add-suc i k))

pub coordinates-at : (n : ℕ) (ws : List ℕ) (k : ℕ) → k < n → get_or (coordinates 0 n ws) k 0 ≡ coordinate ws k
coordinates-at n ws k h = coordinates_from 0 n ws k h ∙ ap (coordinate ws) same
  where
    same : 0 + k ≡ k
    same = omega arith

-- what holds of every lane that is one of the first n holds of n coordinates
pub by_lanes : (ws : List ℕ) (P : ℕ → ℕ → Type 0) (W n : ℕ) → n ≤ 4 * W → ((q j : ℕ) → q < W → j < 4 → 4 * q + j < n → P (4 * q + j) (lane (get_or ws q 0) j)) → (i : ℕ) → i < n → P i (coordinate ws i)
by_lanes ws P W n room h i l = subst (λ n. P n (coordinate ws n)) same (subst (P (4 * (i / 4) + i % 4)) (sym (coordinate-word ws (i / 4) (i % 4) (omega arith))) (h (i / 4) (i % 4) (omega arith) (omega arith) (omega arith)))
  where
    same : 4 * (i / 4) + i % 4 ≡ i
    same = omega arith

-- z times each of m lanes of w digits, z^w being the number r: the digits of 2^(w-1) of all lanes come down at once
module _ (n m w r x ones : ℕ) (positive : 0 < w) (room : w < 16) (rule-lt : r < 2 ^ w) (some : m ≤ n) (small : (i : ℕ) → i < m → lane x i < 2 ^ w) (each : (i : ℕ) → i < n → lane ones i ≡ 1) where
  abbrev h : ℕ
  h = bit_and (x / 2 ^ (w - 1)) ones

  top_lt : (i : ℕ) → i < m → lane x i / 2 ^ (w - 1) < 2
  top_lt i l = shr_lt 1 (w - 1) (subst (λ k. lane x i < 2 ^ k) same (small i l))
    where
      same : w ≡ 1 + (w - 1)
      same = omega arith

  h-lane : (i : ℕ) → i < m → lane h i ≡ lane x i / 2 ^ (w - 1)
  h-lane i l = lane_and (x / 2 ^ (w - 1)) ones i ∙ ap (bit_and (lane (x / 2 ^ (w - 1)) i)) (each i (omega arith)) ∙ and_mask (lane (x / 2 ^ (w - 1)) i) 1 ∙ lane-digit (w - 1) x i (omega arith) ∙ mod-eq_of_lt (top_lt i l)

  half : 2 ^ w ≤ 32768
  half = pow_mono {i = w} {j = 15} (omega arith)

  fits : (q : ℕ) → q < 2 → (2 ^ w + r) * q < 65536
  fits q l = lt_of_le_of_lt (mul-le-mul_left (2 ^ w + r) (le_of_suc-le-suc l)) (omega (arith, half, mul-one (2 ^ w + r)))

  lane-Z : (j : ℕ) → j < m → lane (bit_xor (x * 2 % 2 ^ (16 * n)) (h * (2 ^ w + r))) j ≡ bit_xor (2 * lane x j) ((2 ^ w + r) * (lane x j / 2 ^ (w - 1)))
  lane-Z j l = lane_xor (x * 2 % 2 ^ (16 * n)) (h * (2 ^ w + r)) j ∙ ap₂ bit_xor
      (lane-cut n (x * 2) j (omega arith) ∙ ap (λ y. lane y j) (mul_comm x 2) ∙ lane-mul 2 x j (λ i k. omega (arith, half, small i (omega arith))))
      (ap (λ y. lane y j) (mul_comm h (2 ^ w + r)) ∙ lane-mul (2 ^ w + r) h j (λ i k. subst (λ y. (2 ^ w + r) * y < 65536) (sym (h-lane i (omega arith))) (fits (lane x i / 2 ^ (w - 1)) (top_lt i (omega arith)))) ∙ ap (λ y. (2 ^ w + r) * y) (h-lane j l))

-- a one in each of four lanes
ones_lane : (i : ℕ) → i < 4 → lane 281479271743489 i ≡ 1
unfolding lane
ones_lane zero h = refl
ones_lane (suc zero) h = refl
ones_lane (suc (suc zero)) h = refl
ones_lane (suc (suc (suc zero))) h = refl
ones_lane (suc (suc (suc (suc i)))) h = absurd (omega arith)

pub times-Z : (w t r x : ℕ) → 0 < w → w < 16 → r < 2 ^ w → digits w r ≡ rule binary w t → TimesZ w t x (bit_xor (x * 2 % 2 ^ 64) (bit_and (x / 2 ^ (w - 1)) 281479271743489 * (2 ^ w + r)))
times-Z w t r x positive room rule-lt e j l small =
    subst (λ y. (y < 2 ^ w) × (digits w y ≡ times_x binary w t (digits w (lane x j)))) (sym (lane-Z 4 (suc j) w r x 281479271743489 positive room rule-lt (omega arith) (λ i h. small i (omega arith)) ones_lane j (omega arith)))
    (times_x-number w t r (lane x j) positive e rule-lt (small j (omega arith)))

-- all words moved up by one lane
coordinate-up : (W : ℕ) (a r : List ℕ) → ((q j : ℕ) → q < W → j < 3 → lane (get_or r q 0) (suc j) ≡ lane (get_or a q 0) j) → ((q : ℕ) → suc q < W → lane (get_or r (suc q) 0) 0 ≡ lane (get_or a q 0) 3) → (i : ℕ) → suc i < 4 * W → coordinate r (suc i) ≡ coordinate a i
unfolding coordinate
coordinate-up W a r within across i h = pick (ℕ_discrete (i % 4) 3)
  where
    pick : Dec (i % 4 ≡ 3) → lane (get_or r (suc i / 4) 0) (suc i % 4) ≡ lane (get_or a (i / 4) 0) (i % 4)
    pick (yes e) = ap₂ (λ (u v : ℕ). lane (get_or r u 0) v) word none ∙ across (i / 4) (omega arith) ∙ ap (lane (get_or a (i / 4) 0)) (sym e)
      where
        word : suc i / 4 ≡ suc (i / 4)
        word = omega arith

        none : suc i % 4 ≡ 0
        none = omega arith
    pick (no d) = ap₂ (λ (u v : ℕ). lane (get_or r u 0) v) word next ∙ within (i / 4) (i % 4) (omega arith) (omega arith)
      where
        word : suc i / 4 ≡ i / 4
        word = omega arith

        next : suc i % 4 ≡ suc (i % 4)
        next = omega arith

-- packed words that hold x: n coordinates of w digits
module _ (w t n : ℕ) where
  abbrev F : Ring
  F = extend binary w t

  abbrev Element : Type 0
  Element = Vector (Vector Bool w) n

  abbrev pub Packs : List ℕ → Element → Type 0
  Packs ws x = (i : ℕ) → i < n → coordinate ws i ≡ word_at w t n x i

-- a lane of u, which has the multiple of c by the lowest k digits of f, with one digit more; that lane of y has the multiple by z^k
pub lane_more : (w t f k u y : ℕ) (c : Vector Bool w) (j : ℕ) → j < 4 → lane y j ≡ multiple w t c (2 ^ k) → lane u j ≡ multiple w t c (f % 2 ^ k)
    → lane (bit_xor u (bit_and y (f / 2 ^ k % 2 * (2 ^ 64 - 1)))) j ≡ multiple w t c (f % 2 ^ (k + 1))
lane_more w t f k u y c j l hy hu = lane_xor u (bit_and y (f / 2 ^ k % 2 * (2 ^ 64 - 1))) j
    ∙ ap₂ bit_xor hu (lane_mask 4 (f / 2 ^ k % 2) y j (omega arith) l ∙ ap (λ m. f / 2 ^ k % 2 * m) hy)
    ∙ sym (multiple_more w t c f k) ∙ ap (λ m. multiple w t c (f % 2 ^ m)) (sym (add-one k))

-- Y times x, Y^(m+1) being Y^(s+1) + 1: the words a moved up by one lane, with the highest coordinate y put in at 0 and added at s + 1, which is lane e of word Q
module _ (w t m s W Q e y : ℕ) (a moved r : List ℕ) (place : 4 * Q + e ≡ suc s) (inside : e < 4) (word : Q < W) (room : suc m ≤ 4 * W) (below : suc s < suc m) (small : y < 65536) (highest : y ≡ coordinate a m)
    (within : (q j : ℕ) → q < W → j < 3 → lane (get_or moved q 0) (suc j) ≡ lane (get_or a q 0) j) (across : (q : ℕ) → suc q < W → lane (get_or moved (suc q) 0) 0 ≡ lane (get_or a q 0) 3) (first : lane (get_or moved 0 0) 0 ≡ y)
    (others : (q : ℕ) → q < W → (q ≡ Q → ⊥) → get_or r q 0 ≡ get_or moved q 0) (tapped : get_or r Q 0 ≡ bit_xor (get_or moved Q 0) (y * 2 ^ (16 * e) % 2 ^ 64)) where
  untapped : (i : ℕ) → i < 4 * W → (i ≡ suc s → ⊥) → coordinate r i ≡ coordinate moved i
  untapped i h d = pick (ℕ_discrete (i / 4) Q)
    where
      pick : Dec (i / 4 ≡ Q) → coordinate r i ≡ coordinate moved i
      pick (yes q) = coordinate-is r i ∙ ap (λ x. lane (get_or r x 0) (i % 4)) q ∙ ap (λ x. lane x (i % 4)) tapped ∙ lane_xor (get_or moved Q 0) (y * 2 ^ (16 * e) % 2 ^ 64) (i % 4)
          ∙ ap (bit_xor (lane (get_or moved Q 0) (i % 4))) (lane-cut 4 (y * 2 ^ (16 * e)) (i % 4) (omega arith) ∙ lane-put-other e y (i % 4) small (omega arith)) ∙ xor_zero_r (lane (get_or moved Q 0) (i % 4)) ∙ sym (coordinate-is moved i ∙ ap (λ x. lane (get_or moved x 0) (i % 4)) q)
      pick (no q) = coordinate-is r i ∙ ap (λ x. lane x (i % 4)) (others (i / 4) (omega arith) q) ∙ sym (coordinate-is moved i)

  Y-zero : coordinate r 0 ≡ coordinate a m
  Y-zero = untapped 0 (omega arith) (omega arith) ∙ coordinate-is moved 0 ∙ first ∙ highest

  Y-tap : coordinate r (suc s) ≡ bit_xor (coordinate a s) (coordinate a m)
  Y-tap = ap (coordinate r) (sym place) ∙ coordinate-word r Q e inside ∙ ap (λ x. lane x e) tapped ∙ lane_xor (get_or moved Q 0) (y * 2 ^ (16 * e) % 2 ^ 64) e
      ∙ ap₂ bit_xor (sym (coordinate-word moved Q e inside) ∙ ap (coordinate moved) place ∙ coordinate-up W a moved within across s (omega arith)) (lane-cut 4 (y * 2 ^ (16 * e)) e inside ∙ lane-put-at e y small ∙ highest)

  Y-other : (j : ℕ) → suc j < suc m → (j ≡ s → ⊥) → coordinate r (suc j) ≡ coordinate a j
  Y-other j h d = untapped (suc j) (omega arith) (omega arith) ∙ coordinate-up W a moved within across j (omega arith)

  pub packs_Y : (x : Vector (Vector Bool w) (suc m)) → Packs w t (suc m) a x → Packs w t (suc m) r (times_x (F w t (suc m)) (suc m) (suc s) x)
  packs_Y x ha zero h = Y-zero ∙ ha m (omega arith) ∙ sym (word-Y-zero w t m s below x)
  packs_Y x ha (suc j) h = pick (ℕ_discrete j s)
    where
      Goal : ℕ → Type 0
      Goal k = coordinate r (suc k) ≡ word_at w t (suc m) (times_x (F w t (suc m)) (suc m) (suc s) x) (suc k)

      pick : Dec (j ≡ s) → Goal j
      pick (yes q) = subst Goal (sym q) (Y-tap ∙ ap₂ bit_xor (ha s (omega arith)) (ha m (omega arith)) ∙ sym (word-Y-tap w t m s below x))
      pick (no d) = Y-other j h d ∙ ha j (omega arith) ∙ sym (word-Y-other w t m s below x j h d)
