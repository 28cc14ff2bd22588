-- What the entry write_package answers and writes.
use Rattle.std.specs.Prelude.{Bool, List, [], ◌∷◌, ◌++◌, ℕ, length, drop, Result, Ok, Err}
use Rattle.lists.specs.Lent.{long}
use Rattle.refusal.specs.declared.Refusal.{Refusal}
use Rattle.refusal.specs.Answer.{Answer, first_of, room_row, written as kept, number_of as number}
use Rattle.field.specs.declared.Level.{Level}
use Rattle.key.specs.declared.Key.{Key}
use Rattle.key.specs.declared.Lengths.{Lengths}
use Rattle.key.specs.declared.Code.TheVariants.{Column}
use Rattle.key.specs.Key.{KeySlices, lengths, sizes, key_lent, below, withins, checks, Leans}
use Rattle.package.specs.Written.{KeyData, Group, package_form, written}

-- the paper's number of each answer: 0 is no refusal, and comes with the length
abbrev pub number_of : Result ℕ Refusal → ℕ
number_of answer = number answer

-- "It answers the length", or the refusal
abbrev pub length_as : Answer → ℕ → Result ℕ Refusal
length_as (Ok _) n = Ok n
length_as (Err r) n = Err r

-- "key, serial, masked witness and proof in"
abbrev pub data_of : Key → KeySlices → (serial : ℕ) (t a : List ℕ) → KeyData × Group
data_of key lent serial t a = (record { sizes = key; slices = lent }, record { serial = serial; t = t; a = a })

-- with their lengths; the output has none that is stated
abbrev pub write_lent : Lengths → KeySlices → (t a : List ℕ) → List (List ℕ × ℕ)
write_lent len lent t a = key_lent len lent ++ ((t, len.bits) ∷ (a, len.proof) ∷ [])

module _ (l : Level) (key : Key) where
  -- "package out": its bytes
  abbrev pub package_bytes : KeySlices → (serial : ℕ) (t a : List ℕ) → List ℕ
  package_bytes lent serial t a = written (package_form l) (data_of key lent serial t a)

  -- the checks of what is lent, in order
  abbrev pub write_checks : KeySlices → (t a : List ℕ) → List (Bool × Refusal)
  write_checks lent t a = sizes l key ++ checks l key (long (write_lent (lengths l key) lent t a)) lent (below 1 t) (withins l (a ∷ [])) Column

  -- and 13 "when the output slice is shorter than the package .. after all checks of values"
  abbrev pub write_rows : KeySlices → (serial : ℕ) (t a : List ℕ) (room : ℕ) → List (Bool × Refusal)
  write_rows lent serial t a room = write_checks lent t a ++ room_row (length (package_bytes lent serial t a)) room

  -- past 1 to 4, 15 is the answer exactly when the rows of H lean on each other
  abbrev pub write_leans : KeySlices → (t a : List ℕ) → (IsFifteen : Type 0) → Type 0
  write_leans lent t a = Leans l key (long (write_lent (lengths l key) lent t a)) lent

  -- "It answers the length; output bytes beyond that length keep their content."
  unfoldable pub write_outcome : KeySlices → (serial : ℕ) (t a out : List ℕ) → Result ℕ Refusal × List ℕ
  write_outcome lent serial t a out =
      let bytes = package_bytes lent serial t a in
      let refused = first_of (write_rows lent serial t a (length out)) in
      (length_as refused (length bytes), kept refused (bytes ++ drop (length bytes) out) out)
