-- Packed words: four coordinates of an element of K to a 64-bit word, sixteen bits each, the lowest first.
use Rattle.std.specs.Prelude.{◌≡◌, cond, List, ℕ, zero, suc, ◌+◌, ◌*◌, ◌/◌, ◌%◌, ◌^◌, ◌<◌, ◌≤◌, leb, length, get_or, drop}
use Rattle.field.specs.Ring.{Ring}
use Rattle.field.specs.Binary.{binary}
use Rattle.field.specs.Quotient.{times_x}
use Rattle.field.specs.Level.{K, embed}
use Rattle.field.specs.declared.Level.{Level}
use Rattle.field.specs.declared.Multiples.{Multiples}
use Rattle.field.specs.Word.{digits, small, words}

-- bits 16 j to 16 j + 15 of a number
unfoldable pub lane : ℕ → ℕ → ℕ
lane x zero = x % 65536
lane x (suc j) = lane (x / 65536) j

-- coordinate i of packed words
unfoldable pub coordinate : List ℕ → ℕ → ℕ
coordinate ws i = lane (get_or ws (i / 4) 0) (i % 4)

-- packed words hold x: their coordinates are the words of x
unfoldable pub Holds : (l : Level) → List ℕ → (K l).Carrier → Type 0
Holds l ws x = (i : ℕ) → i < l.coordinates → coordinate ws i ≡ get_or (words l x) i 0

-- how many packed words an element has at a level: four coordinates to a word
abbrev pub room : Level → ℕ
room l = (l.coordinates + 3) / 4

-- a table, with room for each element, holds the multiples of x by 1, z, z^2 and so on
unfoldable pub Tabulates : (l : Level) → List ℕ → (K l).Carrier → Type 0
Tabulates l ts x = (k : ℕ) → k < l.width → Holds l (drop (room l * k) ts) ((K l).mul ((embed l).map (small l (2 ^ k))) x)

-- a factor x of products: its multiples, or, where an element has more than three words, x itself
abbrev pub Multiplies : (l : Level) → Multiples → (K l).Carrier → Type 0
Multiplies l m x = cond (leb (room l) 3) (Tabulates l m.words x) (Holds l m.words x)

-- each lane of r is z times that lane of x, where it and those below have w digits; z^w = z^t + 1
abbrev pub TimesZ : (w t x r : ℕ) → Type 0
TimesZ w t x r = (j : ℕ) → j < 4 → ((i : ℕ) → i ≤ j → lane x i < 2 ^ w) → (lane r j < 2 ^ w) × (digits w (lane r j) ≡ times_x binary w t (digits w (lane x j)))

-- a 0 + z (a 1 + z (a 2 + ..)), of n elements of a ring
unfoldable pub combined : (R : Ring) → R.Carrier → ℕ → (ℕ → R.Carrier) → R.Carrier
combined R z zero a = R.zero
combined R z (suc n) a = R.add (a 0) (R.mul z (combined R z n (λ k. a (suc k))))

-- as many parts as F has digits, each with room for an element: the first plus z times the second, z^2 times the third and so on is y;
-- z is the number 2
pub record Combines (l : Level) (ws : List ℕ) (y : (K l).Carrier) : Type 0 where
  pub size : room l * l.width ≤ length ws
  pub part : ℕ → (K l).Carrier
  pub held : (k : ℕ) → k < l.width → Holds l (drop (room l * k) ws) (part k)
  pub total : combined (K l) ((embed l).map (small l 2)) l.width part ≡ y
