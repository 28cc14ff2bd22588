-- Bytes, and numbers of two and four bytes: read from bytes and written as bytes.
use Rattle.std.specs.Prelude.{List, [], ◌∷◌, ◌++◌, ℕ, ◌+◌, ◌*◌, ◌/◌, ◌%◌, ◌<◌, get_or}

-- every number of a list is a byte
abbrev pub Bytes : List ℕ → Type 0
Bytes s = (i : ℕ) → get_or s i 0 < 256

-- "All numbers of two bytes are highest byte first": the number at a position
abbrev pub word : List ℕ → ℕ → ℕ
word s at = get_or s at 0 * 256 + get_or s (at + 1) 0

-- a content as such numbers
unfoldable pub words : List ℕ → List ℕ
words [] = []
words (a ∷ []) = []
words (a ∷ b ∷ s) = (a * 256 + b) ∷ words s

-- a number as its two bytes: "All numbers of two bytes are highest byte first"
abbrev pub two_bytes : ℕ → List ℕ
two_bytes x = x / 256 ∷ x % 256 ∷ []

-- a number as its four bytes, those of its higher half first
abbrev pub four_bytes : ℕ → List ℕ
four_bytes x = two_bytes (x / 65536) ++ two_bytes (x % 65536)

-- the number that bytes make after a number v
unfoldable pub from_bytes_after : ℕ → List ℕ → ℕ
from_bytes_after v [] = v
from_bytes_after v (b ∷ s) = from_bytes_after (v * 256 + b) s

-- "highest byte first": the number that bytes make
abbrev pub from_bytes : List ℕ → ℕ
from_bytes s = from_bytes_after 0 s

-- numbers as their two bytes, one after the other
unfoldable pub word_bytes : List ℕ → List ℕ
word_bytes [] = []
word_bytes (x ∷ s) = two_bytes x ++ word_bytes s
