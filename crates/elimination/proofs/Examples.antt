-- Ranks that the checker computes, at the first level.
use mathlib.Core.Path.{◌≡◌, refl}
use mathlib.Core.List.{[], ◌∷◌}
use Rattle.lists.specs.Count.{count}
use Rattle.field.specs.Sums.{pow}
use Rattle.field.specs.Vector.{zeros, unit, sum, scale, push, top}
use Rattle.field.specs.Quotient.{rule, times_x, horner, times}
use Rattle.field.specs.Level.{first, F}
use Rattle.field.specs.Word.{digits, number, small, word, small_at}
use Rattle.galois.specs.Inverse.{inverse}
use Rattle.elimination.specs.Elimination.{lowest, pivot, column, after, rank}
use Rattle.elimination.specs.Rank.{is_zero, rank_of}

-- the only row is zero, or not
zero_row : rank_of first 2 1 (0 ∷ 0 ∷ []) ≡ 0
unfolding rank_of rank count after column pivot lowest is_zero small_at small word digits number F
zero_row = refl

one-row : rank_of first 2 1 (0 ∷ 3 ∷ []) ≡ 1
unfolding rank_of rank count after column pivot lowest is_zero small_at small word digits number F
one-row = refl

-- the second row is twice the first
twice : rank_of first 3 2 (2 ∷ 1 ∷ 0 ∷ 4 ∷ 2 ∷ 0 ∷ []) ≡ 1
unfolding rank_of rank count after column pivot lowest is_zero small_at small word digits number F inverse pow times horner times_x rule zeros unit sum scale push top
twice = refl
