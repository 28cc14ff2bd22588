-- Packages of key A as the definitions write them, beside the bytes that the specification states, as one statement over a list.
use mathlib.Core.Path.{◌≡◌, refl}
use mathlib.Core.List.{List, [], ◌∷◌, ◌++◌, map}
use Prim.Native.Nat.{ℕ}
use lib.Count.{count_leading_zeros}
use lib.ListN.{replicate}
use Rattle.lists.specs.Words.{all}
use Rattle.lists.specs.Count.{count}
use Rattle.copying.specs.Words.{word_bytes}
use Rattle.field.specs.Vector.{zeros as 𝟘s, unit, sum, scale, push, top}
use Rattle.field.specs.Quotient.{rule, times_x, horner, times}
use Rattle.field.specs.Level.{FIRST, level_at, F}
use Rattle.field.specs.Word.{digits, number, small, word, small_at, within}
use Rattle.elimination.specs.Elimination.{lowest, pivot, column, after as cleared, rank}
use Rattle.elimination.specs.Rank.{is_zero, rank_of}
use Rattle.key.specs.Key.{key_slices, degree, below}
use Rattle.package.specs.Written.{joined}
use Rattle.std.specs.Prelude.{Result, Ok, Err}
use Rattle.refusal.specs.declared.Refusal.{Refusal}
use Rattle.refusal.specs.declared.Refusal.TheVariants.{KeyElement, Bit, ShortOutput}
use Rattle.writer.specs.Entry.{write_outcome}

-- key A with this y, with this serial and t, and a = 5, into so many bytes 255
abbrev outcome_a : (y serial : ℕ) (t : List ℕ) (room : ℕ) → Result ℕ Refusal × List ℕ
outcome_a y serial t room = write_outcome (level_at FIRST) (record { n = 2; m = 1 }) (key_slices (2 ∷ 1 ∷ []) (1 ∷ 2 ∷ []) (y ∷ [])) serial t (5 ∷ replicate 11 0) (replicate room 255)

-- "01 0002 0201", H and x, then these fields 04 and 05, then t = 1 1 and a = 5
abbrev bytes_a : (between : List ℕ) → List ℕ
bytes_a between =
    (0x01 ∷ 0 ∷ 2 ∷ 2 ∷ 1 ∷ 0x02 ∷ 0 ∷ 4 ∷ 0 ∷ 2 ∷ 0 ∷ 1 ∷ 0x03 ∷ 0 ∷ 4 ∷ 0 ∷ 1 ∷ 0 ∷ 2 ∷ []) ++ between
    ++ (0x06 ∷ 0 ∷ 2 ∷ 1 ∷ 1 ∷ 0x07 ∷ 0 ∷ 0x18 ∷ 0 ∷ 5 ∷ replicate 22 0)

pub cases : List ((Result ℕ Refusal × List ℕ) × (Result ℕ Refusal × List ℕ))
cases =
    -- exactly long enough, longer, one byte short, empty
    (outcome_a 0 7 (1 ∷ 1 ∷ []) 56, (Ok 56, bytes_a (0x05 ∷ 0 ∷ 2 ∷ 0 ∷ 7 ∷ [])))
    ∷ (outcome_a 0 7 (1 ∷ 1 ∷ []) 58, (Ok 56, bytes_a (0x05 ∷ 0 ∷ 2 ∷ 0 ∷ 7 ∷ []) ++ 255 ∷ 255 ∷ []))
    ∷ (outcome_a 0 7 (1 ∷ 1 ∷ []) 55, (Err ShortOutput, replicate 55 255))
    ∷ (outcome_a 0 7 (1 ∷ 1 ∷ []) 0, (Err ShortOutput, []))
    -- the last serial of two bytes, the first of four, and a target
    ∷ (outcome_a 0 65535 (1 ∷ 1 ∷ []) 56, (Ok 56, bytes_a (0x05 ∷ 0 ∷ 2 ∷ 255 ∷ 255 ∷ [])))
    ∷ (outcome_a 0 65536 (1 ∷ 1 ∷ []) 58, (Ok 58, bytes_a (0x05 ∷ 0 ∷ 4 ∷ 0 ∷ 1 ∷ 0 ∷ 0 ∷ [])))
    ∷ (outcome_a 5 7 (1 ∷ 1 ∷ []) 61, (Ok 61, bytes_a (0x04 ∷ 0 ∷ 2 ∷ 0 ∷ 5 ∷ 0x05 ∷ 0 ∷ 2 ∷ 0 ∷ 7 ∷ [])))
    -- 4 and 5 before 13, 4 before 5
    ∷ (outcome_a 2048 7 (1 ∷ 2 ∷ []) 0, (Err KeyElement, []))
    ∷ (outcome_a 0 7 (1 ∷ 2 ∷ []) 0, (Err Bit, []))
    ∷ []

pub examples : map (λ (c : (Result ℕ Refusal × List ℕ) × (Result ℕ Refusal × List ℕ)). c.0) cases ≡ map (λ (c : (Result ℕ Refusal × List ℕ) × (Result ℕ Refusal × List ℕ)). c.1) cases
unfolding cases write_outcome joined word_bytes level_at degree count_leading_zeros within below all rank_of rank cleared column pivot lowest count is_zero small_at small word digits number F times horner times_x rule 𝟘s unit sum scale push top
examples = refl
