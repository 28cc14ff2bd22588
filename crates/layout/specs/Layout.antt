-- The fields of packages and check files, in order: the specification, 'Packages and check files'. A segment is the rows of fields
-- that stand together; which they are may depend on the key, on the bytes and on the position where the segment starts.
use Rattle.refusal.specs.declared.Refusal.{Refusal}
use Rattle.refusal.specs.declared.Refusal.TheVariants.{DependentRows}
use Rattle.std.specs.Prelude.{Bool, cond, List, [], ◌∷◌, ◌++◌, ℕ, ◌+◌, ◌*◌, eqb, get_or}
use Rattle.lists.specs.Words.{part}
use Rattle.copying.specs.Words.{word, words}
use Rattle.field.specs.declared.Level.{Level}
use Rattle.elimination.specs.Rank.{short}
use Rattle.key.specs.declared.Key.{Key}
use Rattle.key.specs.Key.{lengths}
use Rattle.layout.specs.declared.Row.{Row}
use Rattle.layout.specs.declared.Kind.TheVariants.{Sizes, Elements, Target, Serial, Bits, Coordinates}
use Rattle.layout.specs.Tests.{key_of, tests, after, end_tests}

-- "Field 05 may have length 2 or 4": a stated length is judged against 4 where it is 4, and any other against 2
abbrev pub serial_length : ℕ → ℕ
serial_length stated = cond (eqb stated 4) 4 2

-- a field that may be absent: it is the next one exactly where the byte at the position is its tag, and past the end that byte is 0
abbrev pub optional : List ℕ → ℕ → Row → List Row
optional s at row = cond (eqb (get_or s at 0) row.tag) (row ∷ []) []

-- "05 serial (.. unsigned, any value)" at a position, whose length its own bytes tell
abbrev pub serial_row : List ℕ → ℕ → Row
serial_row s at = record { tag = 0x05; len = serial_length (word s (at + 1)); kind = Serial }

module _ (l : Level) (key : Key) where
  -- "01 sizes (n, m, one byte each); 02 H (2mn bytes); 03 x (2n)"
  abbrev pub first_rows : List Row
  first_rows =
      record { tag = 0x01; len = 2; kind = Sizes }
      ∷ record { tag = 0x02; len = 2 * (lengths l key).matrix; kind = Elements }
      ∷ record { tag = 0x03; len = 2 * (lengths l key).vector; kind = Elements }
      ∷ []

  -- "field 04, y, of 2m bytes, between 03 and 05"
  abbrev pub target_row : Row
  target_row = record { tag = 0x04; len = 2 * (lengths l key).target; kind = Target }

  -- "06 t (nd bytes); 07 a (24d)", 12 coordinates of two bytes each being the level's
  abbrev pub proof_rows : List Row
  proof_rows =
      record { tag = 0x06; len = (lengths l key).bits; kind = Bits }
      ∷ record { tag = 0x07; len = 2 * (lengths l key).proof; kind = Coordinates }
      ∷ []

module _ (l : Level) (key : Key) (s : List ℕ) (at : ℕ) where
  -- "The package may have field 04 .. After field 03 the tags 04 and 05 may both come next"
  abbrev pub key_rows : List Row
  key_rows = first_rows l key ++ optional s (after at (first_rows l key)) (target_row l key)

  -- "05 serial (.. unsigned, any value); 06 t; 07 a": a group
  abbrev pub group_rows : List Row
  group_rows = serial_row s at ∷ proof_rows l key

  -- "11 q (24nd), 12 mask numbers (24(d - 1), the only field that may be empty), 13 Δ (24), 14 α (24(n + m))"
  abbrev pub check_rows : List Row
  check_rows =
      record { tag = 0x11; len = 2 * (lengths l key).elements; kind = Coordinates }
      ∷ record { tag = 0x12; len = 2 * (lengths l key).masks; kind = Coordinates }
      ∷ record { tag = 0x13; len = 2 * (lengths l key).one; kind = Coordinates }
      ∷ record { tag = 0x14; len = 2 * (lengths l key).values; kind = Coordinates }
      ∷ []

-- the segments of bytes whose key is told by field 01, where each ends, and its tests
module _ (l : Level) (s : List ℕ) where
  abbrev pub key_segment : List Row
  key_segment = key_rows l (key_of s) s 0

  abbrev pub key_end : ℕ
  key_end = after 0 key_segment

  -- the elements of H: the content of field 02, which comes second
  abbrev pub matrix_of : List ℕ
  matrix_of = words (part 8 (2 * (lengths l (key_of s)).matrix) s)

  -- the test of 15: "some coefficients from F, not all zero, combine the rows of H to zero", told by the rank
  abbrev pub leans : Bool
  leans = short l (key_of s).n (key_of s).m matrix_of

  -- 15 "in a reader, after all checks of field 03 or, where the next byte is 04, of field 04"
  abbrev pub key_tests : List (Bool × Refusal)
  key_tests = tests l s 0 key_segment ++ (leans, DependentRows) ∷ []

  abbrev pub group_segment : List Row
  group_segment = group_rows l (key_of s) s key_end

  abbrev pub group_end : ℕ
  group_end = after key_end group_segment

  abbrev pub group_tests : List (Bool × Refusal)
  group_tests = tests l s key_end group_segment

  abbrev pub check_segment : List Row
  check_segment = check_rows l (key_of s) s group_end

  abbrev pub check_end : ℕ
  check_end = after group_end check_segment

  abbrev pub check_tests : List (Bool × Refusal)
  check_tests = tests l s group_end check_segment

  -- "A package has exactly these fields in this order", those of the key and of one group, "then P6"
  unfoldable pub package_rows : List Row
  package_rows = key_segment ++ group_segment

  abbrev pub package_tests : List (Bool × Refusal)
  package_tests = key_tests ++ group_tests ++ end_tests s group_end

  -- "A check file is a package followed by" those of the check
  unfoldable pub check_file_rows : List Row
  check_file_rows = package_rows ++ check_segment

  abbrev pub check_file_tests : List (Bool × Refusal)
  check_file_tests = key_tests ++ group_tests ++ check_tests ++ end_tests s check_end
