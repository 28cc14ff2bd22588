-- What the lent slices mean.
use Rattle.std.specs.Prelude.{◌≡◌, Bool, List, ℕ, ◌+◌, ◌*◌, length, get_or}
use Rattle.field.specs.declared.Level.{Level}
use Rattle.field.specs.Level.{K, embed}
use Rattle.field.specs.Word.{odd, small}
use Rattle.row.specs.Elements.{el, Within}
use Rattle.row.specs.Polynomial.{digit}

-- the lent matrix and vector of a key: H, m rows of n words, and x, all within the limit
pub record LentKey (l : Level) (n m : ℕ) (h x : List ℕ) : Type 0 where
  pub h-length : length h ≡ n * m
  pub x-length : length x ≡ n
  pub h-within : Within l h
  pub x-within : Within l x

-- the lent target: y, m words within the limit
pub record LentTarget (l : Level) (m : ℕ) (y : List ℕ) : Type 0 where
  pub y-length : length y ≡ m
  pub y-within : Within l y

-- word j of x as an element of K
abbrev pub small_of : (l : Level) → List ℕ → ℕ → (K l).Carrier
small_of l x j = (embed l).map (small l (get_or x j 0))

-- H(e,i): "row after row"
abbrev pub entry_of : (l : Level) → ℕ → List ℕ → ℕ → ℕ → (K l).Carrier
entry_of l n h e i = small_of l h (n * e + i)

-- w(i,k): "digit k of position i, .. highest digit first"
abbrev pub digit_of : ℕ → List ℕ → ℕ → ℕ → Bool
digit_of d positions i = digit d (get_or positions i 0)

-- u(i,k) and t(i,k), v(i,k) and q(i,k): "row after row, k = 0 first"
abbrev pub bit_of : ℕ → List ℕ → ℕ → ℕ → Bool
bit_of d bits i k = odd (get_or bits (d * i + k) 0)

abbrev pub element_of : (l : Level) → ℕ → List ℕ → ℕ → ℕ → (K l).Carrier
element_of l d s i k = el l s (d * i + k)
