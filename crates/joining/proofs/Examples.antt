-- Bundles of key A joined, and looked at before, of the definitions, each as one statement over a list.
use Rattle.refusal.specs.declared.Refusal.{Refusal}
use Rattle.std.specs.Prelude.{Ok, Err, Result}
use Rattle.joining.specs.declared.Size.{Size}
use Rattle.refusal.specs.declared.Refusal.TheVariants.{ShortOutput, GroupsDiffer, SerialOrder, OtherKey}
use mathlib.Core.Path.{◌≡◌, refl}
use mathlib.Core.List.{List, [], ◌∷◌, ◌++◌, map}
use Prim.Native.Nat.{ℕ}
use lib.Count.{count_leading_zeros}
use lib.ListN.{replicate, set}
use Rattle.lists.specs.Words.{all}
use Rattle.lists.specs.Count.{count}
use Rattle.copying.specs.Words.{words, from_bytes_after, word_bytes}
use Rattle.field.specs.Vector.{zeros as 𝟘s, unit, sum, scale, push, top}
use Rattle.field.specs.Quotient.{rule, times_x, horner, times}
use Rattle.field.specs.Level.{FIRST, level_at, F}
use Rattle.field.specs.Word.{digits, number, small, word, small_at, within}
use Rattle.elimination.specs.Elimination.{lowest, pivot, column, after as cleared, rank}
use Rattle.elimination.specs.Rank.{is_zero, rank_of}
use Rattle.key.specs.Key.{degree, below}
use Rattle.layout.specs.Tests.{row_tests, tests, after, part_of}
use Rattle.package.specs.Written.{joined}
use Rattle.bundle.specs.Bundle.{starts_from, groups_tests}
use Rattle.bundle.specs.Written.{groups_fields}
use Rattle.bundle.proofs.Examples.{key, group, short, long}
use Rattle.joining.specs.Union.{insert, union, same, differs_from, differ}
use Rattle.joining.specs.Entry.{join_answer, join_outcome}

-- bundles with these groups joined into an output of so many bytes, all 255
abbrev outcome : (first second : List ℕ) (room : ℕ) → Result Size Refusal × List ℕ
outcome first second room = join_outcome (level_at FIRST) (key ++ first) (key ++ second) (replicate room 255)

abbrev refused : Refusal → ℕ → Result Size Refusal × List ℕ
refused k room = (Err k, replicate room 255)

-- so many groups in these bytes, and so many further bytes of the output
abbrev size : ℕ → ℕ → List ℕ → ℕ → Result Size Refusal × List ℕ
size n groups bytes more = (Ok (record { length = n; groups = groups }), (key ++ bytes) ++ replicate more 255)

-- a group with serial 7 and another bit of t, and with another element of a
abbrev other_t : List ℕ
other_t = group (0 ∷ 2 ∷ 0 ∷ 7 ∷ []) 0 5

abbrev other_a : List ℕ
other_a = group (0 ∷ 2 ∷ 0 ∷ 7 ∷ []) 1 6

pub cases : List ((Result Size Refusal × List ℕ) × (Result Size Refusal × List ℕ))
cases =
    (outcome (short 7) (short 9) 93, size 93 2 (short 7 ++ short 9) 0)
    ∷ (outcome (short 9) (short 7) 96, size 93 2 (short 7 ++ short 9) 3)
    -- equal groups become one
    ∷ (outcome (short 7) (short 7) 56, size 56 1 (short 7) 0)
    ∷ (outcome (short 7 ++ short 9) (short 8 ++ short 9 ++ long 0) 169, size 169 4 (short 7 ++ short 8 ++ short 9 ++ long 0) 0)
    -- by value, whatever the length
    ∷ (outcome (long 0) (short 255) 95, size 95 2 (short 255 ++ long 0) 0)
    -- 13 one byte short; 22 for either field and before 13; the first bundle's refusal before the second's
    ∷ (outcome (short 7) (short 9) 92, refused ShortOutput 92)
    ∷ (outcome (short 7) other_t 0, refused GroupsDiffer 0)
    ∷ (outcome (short 7) (short 3 ++ other_a) 130, refused GroupsDiffer 130)
    ∷ (outcome (short 9 ++ short 7) [] 5, refused SerialOrder 5)
    ∷ (outcome (short 7) (short 7 ++ short 7) 5, refused SerialOrder 5)
    -- 21 before 22
    ∷ (join_outcome (level_at FIRST) (key ++ short 7) (set key 16 3 ++ other_t) (replicate 5 255), refused OtherKey 5)
    ∷ []

pub examples : map (λ (c : (Result Size Refusal × List ℕ) × (Result Size Refusal × List ℕ)). c.0) cases ≡ map (λ (c : (Result Size Refusal × List ℕ) × (Result Size Refusal × List ℕ)). c.1) cases
unfolding cases join_outcome joined groups_fields insert union same differs_from differ word_bytes level_at degree count_leading_zeros starts_from groups_tests tests row_tests after part_of words from_bytes_after within below all rank_of rank cleared column pivot lowest count is_zero small_at small word digits number F times horner times_x rule 𝟘s unit sum scale push top
examples = refl

-- a look before the same bundles are joined, with so much room
abbrev look : (first second : List ℕ) (room : ℕ) → Result Size Refusal
look first second room = join_answer (level_at FIRST) (key ++ first) (key ++ second) room

abbrev told : ℕ → ℕ → Result Size Refusal
told n groups = Ok (record { length = n; groups = groups })

pub looks : List (Result Size Refusal × Result Size Refusal)
looks =
    (look (short 7) (short 9) 93, told 93 2)
    ∷ (look (short 7) (short 9) 0xffffffffffffffff, told 93 2)
    ∷ (look (short 7) (short 9) 92, Err ShortOutput)
    ∷ (look (short 7) (short 9) 0, Err ShortOutput)
    ∷ (look (short 7) (short 7) 0xffffffffffffffff, told 56 1)
    ∷ (look (short 7) other_a 0xffffffffffffffff, Err GroupsDiffer)
    ∷ (look (short 7) other_a 0, Err GroupsDiffer)
    ∷ []

pub look_examples : map (λ (c : Result Size Refusal × Result Size Refusal). c.0) looks ≡ map (λ (c : Result Size Refusal × Result Size Refusal). c.1) looks
unfolding looks joined groups_fields insert union same differs_from differ word_bytes level_at degree count_leading_zeros starts_from groups_tests tests row_tests after part_of words from_bytes_after within below all rank_of rank cleared column pivot lowest count is_zero small_at small word digits number F times horner times_x rule 𝟘s unit sum scale push top
look_examples = refl
