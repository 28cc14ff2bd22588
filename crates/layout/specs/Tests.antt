-- The tests that the readers run on any bytes, and where a field's content stands.
use Rattle.refusal.specs.declared.Refusal.{Refusal}
use Rattle.refusal.specs.declared.Refusal.TheVariants.{KeyElement, Bit, Coordinate, BytesMissing, Tag, FieldLength, BytesFollow, ZeroTarget, LongSerial}
use Rattle.std.specs.Prelude.{Bool, not, cond, ◌&&◌, List, [], ◌∷◌, ◌++◌, ℕ, ◌+◌, ◌-◌, ltb, eqb, length, get_or}
use Rattle.lists.specs.Words.{part, all}
use Rattle.copying.specs.Words.{word, words, from_bytes}
use Rattle.field.specs.declared.Level.{Level}
use Rattle.field.specs.Word.{within}
use Rattle.key.specs.declared.Key.{Key}
use Rattle.key.specs.Key.{sizes, below}
use Rattle.layout.specs.declared.Row.{Row}
use Rattle.layout.specs.declared.Part.{Part}
use Rattle.layout.specs.declared.Kind.{Kind}
use Rattle.layout.specs.declared.Kind.TheVariants.{Sizes, Elements, Target, Serial, Bits, Coordinates}

-- "n, m, one byte each", at a position
abbrev pub key_at : List ℕ → ℕ → Key
key_at s at = record { n = get_or s at 0; m = get_or s (at + 1) 0 }

-- the key of a file: the content of field 01, which comes first, so that no test before its values depends on n or m
abbrev pub key_of : List ℕ → Key
key_of s = key_at s 3

-- "a four-byte serial is below 65,536"
abbrev pub long_serial : List ℕ → Bool
long_serial c = eqb (length c) 4 && ltb (from_bytes c) 65536

-- "all its elements are zero"
abbrev pub zeros : List ℕ → Bool
zeros s = all (λ x. eqb x 0) s

-- P5: "1, 2, 4, 5, 6 .. as above, for the field's content", 14 "at the place of values after 4", and 19
abbrev pub value_tests : Level → Kind → List ℕ → List (Bool × Refusal)
value_tests l Sizes c = sizes l (key_at c 0)
value_tests l Elements c = (not (within l (words c)), KeyElement) ∷ []
value_tests l Target c = (not (within l (words c)), KeyElement) ∷ (zeros (words c), ZeroTarget) ∷ []
value_tests l Serial c = (long_serial c, LongSerial) ∷ []
value_tests l Bits c = (not (below 1 c), Bit) ∷ []
value_tests l Coordinates c = (not (within l (words c)), Coordinate) ∷ []

-- one field at a position: P1 head, P2 tag, P3 length, P4 content, P5 values
unfoldable pub row_tests : Level → List ℕ → ℕ → Row → List (Bool × Refusal)
row_tests l s at row =
    (ltb (length s - at) 3, BytesMissing)
    ∷ (not (eqb (get_or s at 0) row.tag), Tag)
    ∷ (not (eqb (word s (at + 1)) row.len), FieldLength)
    ∷ (ltb (length s - (at + 3)) row.len, BytesMissing)
    ∷ value_tests l row.kind (part (at + 3) row.len s)

-- "the readers instead run places P1 to P5 for each field in turn"
unfoldable pub tests : Level → List ℕ → ℕ → List Row → List (Bool × Refusal)
tests l s at [] = []
tests l s at (row ∷ rows) = row_tests l s at row ++ tests l s (at + 3 + row.len) rows

-- the position after these fields
unfoldable pub after : ℕ → List Row → ℕ
after at [] = at
after at (row ∷ rows) = after (at + 3 + row.len) rows

-- P6: bytes follow the last field, which ends at a position
abbrev pub end_tests : List ℕ → ℕ → List (Bool × Refusal)
end_tests s at = (ltb at (length s), BytesFollow) ∷ []

-- the part of the lent bytes that stands for nothing: length 0, at their start
abbrev pub empty : Part
empty = record { start = 0; len = 0 }

-- where the content of the field with a tag stands, among fields from a position on
unfoldable pub part_of : ℕ → ℕ → List Row → Part
part_of tag at [] = empty
part_of tag at (row ∷ rows) = cond (eqb row.tag tag) (record { start = at + 3; len = row.len }) (part_of tag (at + 3 + row.len) rows)
