-- Elements of K in lent words and in packed words.
use Rattle.std.specs.Prelude.{List, ℕ, ◌*◌, ◌<◌, ◌≤◌, get_or}
use Rattle.lists.specs.Words.{part}
use Rattle.field.specs.declared.Level.{Level}
use Rattle.field.specs.declared.Multiples.{Multiples}
use Rattle.field.specs.Level.{K}
use Rattle.field.specs.Word.{element}
use Rattle.field.specs.Packed.{coordinate, Holds, Multiplies}
use Rattle.row.specs.Lists.{tab}

-- element number i of a list of words
unfoldable pub el : (l : Level) → List ℕ → ℕ → (K l).Carrier
el l s i = element l (part (l.coordinates * i) l.coordinates s)

-- a list of this length has the words of n elements, and at least n words
abbrev pub Fits : Level → ℕ → ℕ → Type 0
Fits l n size = (l.coordinates * n ≤ size) × (n ≤ size)

-- every word is within the limit
abbrev pub Within : Level → List ℕ → Type 0
Within l s = (k : ℕ) → get_or s k 0 ≤ l.limit

-- every byte is 0 or 1
abbrev pub Bits : List ℕ → Type 0
Bits s = (k : ℕ) → get_or s k 0 < 2

-- the element whose words are the coordinates of packed words
unfoldable pub value_of : (l : Level) → List ℕ → (K l).Carrier
value_of l ws = element l (tab l.coordinates (coordinate ws))

-- packed words hold an element: that one
abbrev pub Held : Level → List ℕ → Type 0
Held l ws = Holds l ws (value_of l ws)

-- a table of multiples, of some element
pub record Tabled (l : Level) (m : Multiples) : Type 0 where
  pub factor : (K l).Carrier
  pub table : Multiplies l m factor
