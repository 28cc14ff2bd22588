-- Edges of the specification on the check file of key A, of the definitions, as one statement over a list.
use mathlib.Core.Path.{◌≡◌, refl}
use mathlib.Core.List.{List, [], ◌∷◌, ◌++◌, map}
use Prim.Native.Nat.{ℕ}
use lib.Count.{count_leading_zeros}
use lib.ListN.{replicate, take, drop, set}
use Rattle.lists.specs.Words.{all}
use Rattle.copying.specs.Words.{words, from_bytes_after, word_bytes}
use Rattle.lists.specs.Count.{count}
use Rattle.field.specs.Vector.{zeros as 𝟘s, unit, sum, scale, push, top}
use Rattle.field.specs.Quotient.{rule, times_x, horner, times}
use Rattle.field.specs.Level.{FIRST, level_at, F}
use Rattle.field.specs.Word.{digits, number, small, word, small_at, within}
use Rattle.elimination.specs.Elimination.{lowest, pivot, column, after as cleared, rank}
use Rattle.elimination.specs.Rank.{is_zero, rank_of}
use Rattle.key.specs.Key.{degree, below}
use Rattle.layout.specs.Layout.{package_rows, check_file_rows}
use Rattle.layout.specs.Tests.{row_tests, tests, after, part_of}
use Rattle.std.specs.Prelude.{Result, Ok, Err}
use Rattle.refusal.specs.declared.Refusal.{Refusal}
use Rattle.refusal.specs.declared.Refusal.TheVariants.{SizeN, SizeM, KeyElement, Bit, Coordinate, BytesMissing, Tag, FieldLength, BytesFollow, ZeroTarget, DependentRows, LongSerial}
use Rattle.package.specs.declared.Contents.{Contents}
use Rattle.package.specs.Reading.{package_reader, check_file_reader, reading, field_part}

-- an element of K with only coordinate 0, before other bytes
abbrev element : ℕ → List ℕ → List ℕ
element low rest = 0 ∷ low ∷ (replicate 22 0 ++ rest)

-- "The check file of key A, in hexadecimal", with these bytes for length and content of its serial
abbrev with_serial : List ℕ → List ℕ
with_serial serial =
    (0x01 ∷ 0 ∷ 2 ∷ 2 ∷ 1 ∷ 0x02 ∷ 0 ∷ 4 ∷ 0 ∷ 2 ∷ 0 ∷ 1 ∷ 0x03 ∷ 0 ∷ 4 ∷ 0 ∷ 1 ∷ 0 ∷ 2 ∷ 0x05 ∷ serial)
    ++ (0x06 ∷ 0 ∷ 2 ∷ 1 ∷ 1 ∷ 0x07 ∷ 0 ∷ 0x18 ∷ element 5 (0x11 ∷ 0 ∷ 0x30 ∷ element 3 (element 4
    (0x12 ∷ 0 ∷ 0 ∷ 0x13 ∷ 0 ∷ 0x18 ∷ element 2 (0x14 ∷ 0 ∷ 0x48 ∷ element 1 (element 2 (element 1 [])))))))

abbrev pub key_a : List ℕ
key_a = with_serial (0 ∷ 2 ∷ 0 ∷ 7 ∷ [])

-- the answer of a reader
abbrev Read : Type 0
Read = Result Contents Refusal

abbrev read_check : List ℕ → Read
read_check s = reading (check_file_reader (level_at FIRST)) s

abbrev read_package : List ℕ → Read
read_package s = reading (package_reader (level_at FIRST)) s

-- files, whole and with one byte changed, and what reading each as a check file answers
pub files : List (List ℕ × Read)
files =
    (key_a, Ok (record { n = 2; m = 1; serial = 7 }))
    ∷ ([], Err BytesMissing)
    ∷ (take 211 key_a, Err BytesMissing)
    ∷ (take 56 key_a, Err BytesMissing)
    ∷ (key_a ++ 0 ∷ [], Err BytesFollow)
    ∷ (set key_a 3 1, Err SizeN)
    ∷ (set key_a 3 65, Err SizeN)
    ∷ (set key_a 4 0, Err SizeM)
    ∷ (set key_a 4 2, Err SizeM)
    ∷ (set key_a 8 8, Err KeyElement)
    ∷ (set key_a 15 8, Err KeyElement)
    ∷ (set key_a 27 2, Err Bit)
    ∷ (set key_a 32 8, Err Coordinate)
    ∷ (set key_a 19 4, Err Tag)
    ∷ (set key_a 21 3, Err FieldLength)
    ∷ []

pub examples : map (λ f. read_check f.0) files ≡ map (λ f. f.1) files
unfolding files level_at degree count_leading_zeros check_file_rows package_rows tests row_tests after part_of words from_bytes_after within below all rank_of rank cleared column pivot lowest count is_zero small_at small word digits number F times horner times_x rule 𝟘s unit sum scale push top
examples = refl

-- the length and the content of the serial, and what reading the file as a check file answers
pub serials : List (List ℕ × Read)
serials =
    (0 ∷ 2 ∷ 255 ∷ 255 ∷ [], Ok (record { n = 2; m = 1; serial = 65535 }))
    ∷ (0 ∷ 4 ∷ 0 ∷ 1 ∷ 0 ∷ 0 ∷ [], Ok (record { n = 2; m = 1; serial = 65536 }))
    ∷ (0 ∷ 4 ∷ 255 ∷ 255 ∷ 255 ∷ 255 ∷ [], Ok (record { n = 2; m = 1; serial = 4294967295 }))
    ∷ (0 ∷ 4 ∷ 0 ∷ 0 ∷ 255 ∷ 255 ∷ [], Err LongSerial)
    ∷ (0 ∷ 4 ∷ 0 ∷ 0 ∷ 0 ∷ 7 ∷ [], Err LongSerial)
    ∷ (0 ∷ 0 ∷ [], Err FieldLength)
    ∷ (0 ∷ 1 ∷ 7 ∷ [], Err FieldLength)
    ∷ (0 ∷ 3 ∷ 1 ∷ 0 ∷ 0 ∷ [], Err FieldLength)
    ∷ (0 ∷ 5 ∷ 0 ∷ 0 ∷ 1 ∷ 0 ∷ 0 ∷ [], Err FieldLength)
    ∷ (4 ∷ 0 ∷ 0 ∷ 1 ∷ 0 ∷ 0 ∷ [], Err FieldLength)
    ∷ []

pub serial_examples : map (λ f. read_check (with_serial f.0)) serials ≡ map (λ f. f.1) serials
unfolding serials level_at degree count_leading_zeros check_file_rows package_rows tests row_tests after part_of words from_bytes_after within below all rank_of rank cleared column pivot lowest count is_zero small_at small word digits number F times horner times_x rule 𝟘s unit sum scale push top
serial_examples = refl

-- these bytes in the file of key A after field 03, and after field 05
abbrev after_x : List ℕ → List ℕ
after_x more = take 19 key_a ++ more ++ drop 19 key_a

abbrev after_serial : List ℕ → List ℕ
after_serial more = take 24 key_a ++ more ++ drop 24 key_a

-- field 04 of key A, with these two bytes for its element
abbrev target : ℕ → ℕ → List ℕ
target high low = 0x04 ∷ 0 ∷ 2 ∷ high ∷ low ∷ []

-- files with field 04 and without, and what reading each as a check file answers
pub targets : List (List ℕ × Read)
targets =
    (after_x [], Ok (record { n = 2; m = 1; serial = 7 }))
    ∷ (after_x (target 0 7), Ok (record { n = 2; m = 1; serial = 7 }))
    ∷ (after_x (target 1 0), Ok (record { n = 2; m = 1; serial = 7 }))
    ∷ (after_x (target 7 255), Ok (record { n = 2; m = 1; serial = 7 }))
    ∷ (after_x (target 8 0), Err KeyElement)
    ∷ (after_x (target 0 0), Err ZeroTarget)
    ∷ (after_x (target 0 7 ++ target 0 7), Err Tag)
    ∷ (after_serial (target 0 7), Err Tag)
    ∷ (after_x (0x04 ∷ 0 ∷ 0 ∷ []), Err FieldLength)
    ∷ (after_x (0x04 ∷ 0 ∷ 4 ∷ 0 ∷ 7 ∷ 0 ∷ 7 ∷ []), Err FieldLength)
    ∷ (take 19 key_a, Err BytesMissing)
    ∷ (take 19 key_a ++ 0x04 ∷ [], Err BytesMissing)
    ∷ (take 19 key_a ++ 0x05 ∷ [], Err BytesMissing)
    ∷ (take 19 key_a ++ take 4 (target 0 7), Err BytesMissing)
    ∷ []

pub target_examples : map (λ f. read_check f.0) targets ≡ map (λ f. f.1) targets
unfolding targets level_at degree count_leading_zeros check_file_rows package_rows tests row_tests after part_of words from_bytes_after within below all rank_of rank cleared column pivot lowest count is_zero small_at small word digits number F times horner times_x rule 𝟘s unit sum scale push top
target_examples = refl

-- the first three fields with n = 3 and m = 2, x zero, and these six elements of H
abbrev key_with : List ℕ → List ℕ
key_with h = (0x01 ∷ 0 ∷ 2 ∷ 3 ∷ 2 ∷ 0x02 ∷ 0 ∷ 12 ∷ word_bytes h) ++ (0x03 ∷ 0 ∷ 6 ∷ replicate 6 0)

-- a group for them, all zero but for the serial
abbrev group : List ℕ
group = (0x05 ∷ 0 ∷ 2 ∷ 0 ∷ 7 ∷ 0x06 ∷ 0 ∷ 6 ∷ replicate 6 0) ++ (0x07 ∷ 0 ∷ 48 ∷ replicate 48 0)

-- a package with rows (0, 1, 0) and (1, 0, 0) of H, and with these bytes for y
abbrev with_target : List ℕ → List ℕ
with_target y = key_with (0 ∷ 1 ∷ 0 ∷ 1 ∷ 0 ∷ 0 ∷ []) ++ (0x04 ∷ 0 ∷ 4 ∷ y) ++ group

-- the elements of y in it, and what reading it answers: 14 where all are zero, after 4
pub elements : List (List ℕ × Read)
elements =
    (0 ∷ 0 ∷ 1 ∷ 0 ∷ [], Ok (record { n = 3; m = 2; serial = 7 }))
    ∷ (1 ∷ 0 ∷ 0 ∷ 0 ∷ [], Ok (record { n = 3; m = 2; serial = 7 }))
    ∷ (0 ∷ 0 ∷ 0 ∷ 0 ∷ [], Err ZeroTarget)
    ∷ (0 ∷ 0 ∷ 8 ∷ 0 ∷ [], Err KeyElement)
    ∷ []

pub element_examples : map (λ f. read_package (with_target f.0)) elements ≡ map (λ f. f.1) elements
unfolding elements word_bytes level_at degree count_leading_zeros package_rows tests row_tests after part_of words from_bytes_after within below all rank_of rank cleared column pivot lowest count is_zero small_at small word digits number F times horner times_x rule 𝟘s unit sum scale push top
element_examples = refl

-- what follows field 03 of a key with zeros for H, and what reading the bytes answers: 15 after all checks of field 04 where the next byte is
-- 04, and otherwise before all others
pub leanings : List (List ℕ × Read)
leanings =
    ([], Err DependentRows)
    ∷ (0x05 ∷ [], Err DependentRows)
    ∷ (0x03 ∷ [], Err DependentRows)
    ∷ (group, Err DependentRows)
    ∷ (group ++ 0 ∷ [], Err DependentRows)
    ∷ (0x04 ∷ [], Err BytesMissing)
    ∷ (0x04 ∷ 0 ∷ 2 ∷ 0 ∷ 1 ∷ [], Err FieldLength)
    ∷ (0x04 ∷ 0 ∷ 4 ∷ 0 ∷ 1 ∷ 0 ∷ [], Err BytesMissing)
    ∷ (0x04 ∷ 0 ∷ 4 ∷ 0 ∷ 1 ∷ 8 ∷ 0 ∷ [], Err KeyElement)
    ∷ (0x04 ∷ 0 ∷ 4 ∷ 0 ∷ 0 ∷ 0 ∷ 0 ∷ [], Err ZeroTarget)
    ∷ (0x04 ∷ 0 ∷ 4 ∷ 0 ∷ 1 ∷ 0 ∷ 0 ∷ [], Err DependentRows)
    ∷ (0x04 ∷ 0 ∷ 4 ∷ 0 ∷ 1 ∷ 0 ∷ 0 ∷ group, Err DependentRows)
    ∷ []

pub leaning_examples : map (λ f. read_package (key_with (replicate 6 0) ++ f.0)) leanings ≡ map (λ f. f.1) leanings
unfolding leanings word_bytes level_at degree count_leading_zeros package_rows tests row_tests after part_of words from_bytes_after within below all rank_of rank cleared column pivot lowest count is_zero small_at small word digits number F times horner times_x rule 𝟘s unit sum scale push top
leaning_examples = refl

-- where field 04 stands, in that package and in the one of key A, which has none
pub target_parts : field_part (package_reader (level_at FIRST)) (with_target (0 ∷ 0 ∷ 1 ∷ 0 ∷ [])) 0x04 ∷ field_part (package_reader (level_at FIRST)) (take 56 key_a) 0x04 ∷ []
    ≡ record { start = 32; len = 4 } ∷ record { start = 0; len = 0 } ∷ []
unfolding word_bytes level_at degree count_leading_zeros package_rows tests row_tests after part_of words from_bytes_after within below all rank_of rank cleared column pivot lowest count is_zero small_at small word digits number F times horner times_x rule 𝟘s unit sum scale push top
target_parts = refl

-- its package, and the whole file given to the reader of packages
pub packages : read_package (take 56 key_a) ∷ read_package key_a ∷ [] ≡ Ok (record { n = 2; m = 1; serial = 7 }) ∷ Err BytesFollow ∷ []
unfolding level_at degree count_leading_zeros package_rows tests row_tests after part_of words from_bytes_after within below all rank_of rank cleared column pivot lowest count is_zero small_at small word digits number F times horner times_x rule 𝟘s unit sum scale push top
packages = refl
