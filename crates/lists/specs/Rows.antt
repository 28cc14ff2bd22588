-- Rows of words in a list, word by word: inner data, no part of an entry's promise.
use Rattle.std.specs.Prelude.{◌≡◌, List, ℕ, ◌+◌, ◌*◌, ◌<◌, length, get_or}

-- the words f 0, f 1, .., f (n - 1)
pub record Row (n : ℕ) (s : List ℕ) (f : ℕ → ℕ) : Type 0 where
  pub size : length s ≡ n
  pub at : (j : ℕ) → j < n → get_or s j 0 ≡ f j

-- word j of row i, with n in a row
abbrev pub entry_at : ℕ → List ℕ → ℕ → ℕ → ℕ
entry_at n h i j = get_or h (i * n + j) 0

-- m rows of n words
pub record Grid (m n : ℕ) (h : List ℕ) (f : ℕ → ℕ → ℕ) : Type 0 where
  pub size : length h ≡ m * n
  pub at : (i j : ℕ) → i < m → j < n → entry_at n h i j ≡ f i j
