-- Edges of the specification on bundles of key A, of the definitions, as one statement over a list.
use mathlib.Core.Path.{◌≡◌, refl}
use mathlib.Core.List.{List, [], ◌∷◌, ◌++◌, map}
use Prim.Native.Nat.{ℕ}
use lib.Count.{count_leading_zeros}
use lib.ListN.{replicate, set}
use Rattle.lists.specs.Words.{all}
use Rattle.lists.specs.Count.{count}
use Rattle.copying.specs.Words.{words, from_bytes_after}
use Rattle.field.specs.Vector.{zeros as 𝟘s, unit, sum, scale, push, top}
use Rattle.field.specs.Quotient.{rule, times_x, horner, times}
use Rattle.field.specs.Level.{FIRST, level_at, F}
use Rattle.field.specs.Word.{digits, number, small, word, small_at, within}
use Rattle.elimination.specs.Elimination.{lowest, pivot, column, after as cleared, rank}
use Rattle.elimination.specs.Rank.{is_zero, rank_of}
use Rattle.key.specs.Key.{degree, below}
use Rattle.layout.specs.Tests.{row_tests, tests, after, part_of}
use Rattle.std.specs.Prelude.{Result, Ok, Err}
use Rattle.refusal.specs.declared.Refusal.{Refusal}
use Rattle.refusal.specs.declared.Refusal.TheVariants.{Bit, Coordinate, BytesMissing, Tag, FieldLength, LongSerial, SerialOrder}
use Rattle.bundle.specs.declared.Contents.{Contents}
use Rattle.bundle.specs.Bundle.{starts_from, groups_tests}
use Rattle.bundle.specs.Reading.{reading}

-- the key fields of key A
abbrev pub key : List ℕ
key = 0x01 ∷ 0 ∷ 2 ∷ 2 ∷ 1 ∷ 0x02 ∷ 0 ∷ 4 ∷ 0 ∷ 2 ∷ 0 ∷ 1 ∷ 0x03 ∷ 0 ∷ 4 ∷ 0 ∷ 1 ∷ 0 ∷ 2 ∷ []

-- its group with these bytes for length and content of the serial, and with this number for the second bit of t and coordinate 0 of a
abbrev pub group : List ℕ → (bit low : ℕ) → List ℕ
group serial bit low = (0x05 ∷ serial) ++ (0x06 ∷ 0 ∷ 2 ∷ 1 ∷ bit ∷ 0x07 ∷ 0 ∷ 0x18 ∷ 0 ∷ low ∷ replicate 22 0)

abbrev pub short : ℕ → List ℕ
short x = group (0 ∷ 2 ∷ 0 ∷ x ∷ []) 1 5

-- a serial of four bytes, 65,536 and x
abbrev pub long : ℕ → List ℕ
long x = group (0 ∷ 4 ∷ 0 ∷ 1 ∷ 0 ∷ x ∷ []) 1 5

-- the answer of read_bundle
abbrev Read : Type 0
Read = Result Contents Refusal

abbrev read : ℕ → Read
read k = Ok (record { n = 2; m = 1; groups = k })

-- what follows the key fields, and what reading the bundle answers
pub bundles : List (List ℕ × Read)
bundles =
    (short 7, read 1)
    ∷ (short 7 ++ short 9, read 2)
    ∷ (short 7 ++ short 255 ++ long 0, read 3)
    ∷ ([], Err BytesMissing)
    ∷ (short 7 ++ 0x05 ∷ [], Err BytesMissing)
    ∷ (short 7 ++ 0x05 ∷ 0 ∷ [], Err BytesMissing)
    ∷ (short 7 ++ 0x06 ∷ 0 ∷ [], Err BytesMissing)
    ∷ (short 7 ++ 0x06 ∷ 0 ∷ 2 ∷ [], Err Tag)
    ∷ (short 7 ++ 0x05 ∷ 0 ∷ 3 ∷ [], Err FieldLength)
    ∷ (short 7 ++ short 7, Err SerialOrder)
    ∷ (short 9 ++ short 7, Err SerialOrder)
    ∷ (long 0 ++ short 255, Err SerialOrder)
    ∷ (short 7 ++ group (0 ∷ 4 ∷ 0 ∷ 0 ∷ 0 ∷ 1 ∷ []) 1 5, Err LongSerial)
    ∷ (short 7 ++ group (0 ∷ 2 ∷ 0 ∷ 7 ∷ []) 2 5, Err SerialOrder)
    ∷ (short 7 ++ group (0 ∷ 2 ∷ 0 ∷ 8 ∷ []) 2 5, Err Bit)
    ∷ (set (short 7) 13 8 ++ short 7, Err Coordinate)
    ∷ []

pub examples : map (λ b. reading (level_at FIRST) (key ++ b.0)) bundles ≡ map (λ b. b.1) bundles
unfolding bundles level_at degree count_leading_zeros starts_from groups_tests tests row_tests after part_of words from_bytes_after within below all rank_of rank cleared column pivot lowest count is_zero small_at small word digits number F times horner times_x rule 𝟘s unit sum scale push top
examples = refl
