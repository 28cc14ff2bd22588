-- What the steps of the elimination do to words: inner data, no part of an entry's promise.
use Rattle.std.specs.Prelude.{◌≡◌, Bool, cond, ◌&&◌, List, ℕ, ◌+◌, ◌*◌, ◌<◌, eqb, leb, length, get_or}
use Rattle.std.specs.Int.Bits.{bit_xor}
use Rattle.field.specs.declared.Level.{Level}
use Rattle.field.specs.Level.{F}
use Rattle.field.specs.Word.{small, word}

-- the words f 0, f 1, .., f (n - 1)
pub record Row (n : ℕ) (s : List ℕ) (f : ℕ → ℕ) : Type 0 where
  pub size : length s ≡ n
  pub at : (j : ℕ) → j < n → get_or s j 0 ≡ f j

-- word j of row i, with n in a row
abbrev pub entry_at : ℕ → List ℕ → ℕ → ℕ → ℕ
entry_at n h i j = get_or h (i * n + j) 0

-- m rows of n words
pub record Grid (m n : ℕ) (h : List ℕ) (f : ℕ → ℕ → ℕ) : Type 0 where
  pub size : length h ≡ m * n
  pub at : (i j : ℕ) → i < m → j < n → entry_at n h i j ≡ f i j

-- the word of the product of two words' elements
unfoldable pub times_word : Level → ℕ → ℕ → ℕ
times_word l a b = word l ((F l).mul (small l a) (small l b))

-- word j of row i of h, where it clears and from column c on with a multiple of the row added: its entry in column c times v
abbrev pub cleared_word : (l : Level) (n c v : ℕ) (row : ℕ → ℕ) (h : List ℕ) (clears : Bool) (i j : ℕ) → ℕ
cleared_word l n c v row h clears i j = cond (clears && leb c j) (bit_xor (entry_at n h i j) (times_word l (times_word l (entry_at n h i c) v) (row j))) (entry_at n h i j)

-- whether a row is unused
abbrev pub unused : List ℕ → ℕ → Bool
unused used i = eqb (get_or used i 0) 0
