-- The examples with a target hold, all together.
use Rattle.std.specs.Prelude.{Err}
use Rattle.refusal.specs.declared.Refusal.TheVariants.{Top}
use mathlib.Core.Path.{◌≡◌, refl, ap, ◌∙◌}
use mathlib.Core.List.{List, [], ◌∷◌, map}
use Prim.Native.Nat.{ℕ, zero, suc}
use native.Mathlib.Omega.{arith}
use lib.Count.{count_leading_zeros}
use Rattle.lists.specs.Words.{all, concat}
use Rattle.refusal.specs.Answer.{Done}
use Rattle.field.specs.Vector.{zeros as 𝟘s, unit, sum, scale, push, top}
use Rattle.field.specs.Quotient.{rule, times_x, horner, times}
use Rattle.field.specs.Level.{first, F}
use Rattle.field.specs.Word.{digits, number, vector, small, word, within, small_at}
use Rattle.key.specs.Key.{degree, below, code_of, codes_of}
use Rattle.constraints.specs.Graded.{product, power, coefficient, raised, linear_times}
use Rattle.field.specs.Sums.{summed}
use Rattle.constraints.specs.System.{masked, polynomial, value}
use Rattle.constraints.specs.Digits.{digit_in, witness, factor, z, column, x', row, join, constraint}
use Rattle.constraints.specs.Order.{Order, Solves}
use Rattle.lists.specs.Count.{count}
use Rattle.constraints.specs.Slices.{bits, masked_bytes, key_of, position_at}
use Rattle.checkzero.specs.CheckZero.{mask, weighted, f, proof}
use Rattle.examples.specs.Starred.{Example, bares, t_of, prove_of}
use Rattle.examples.specs.Target.{A₅, targets}
use Rattle.examples.proofs.Carried.{numbers_at, polynomials-carried, values-carried, proof-carried}
use Rattle.examples.proofs.Decided.{Passes, PassesAll, Solving, answers_done, answers_8, left}
use Rattle.elimination.specs.Elimination.{lowest, pivot, column as clearing, after, rank}
use Rattle.elimination.specs.Rank.{is_zero, rank_of}

solves : Solves (key_of first 2 1 A₅.lent) (position_at (1 ∷ 0 ∷ []))
unfolding summed small_at small digits F times horner times_x rule 𝟘s unit sum scale push top
solves zero l = refl
solves (suc e) l = absurd (omega arith)

order : Order 2 (position_at (1 ∷ 0 ∷ []))
unfolding count
order zero l = refl
order (suc zero) l = refl
order (suc (suc j)) l = absurd (omega arith)

done : (prove_of A₅ (1 ∷ 0 ∷ [])).0 ≡ Done
done = answers_done A₅ (1 ∷ 0 ∷ []) passes (order, solves)
  where
    passes : Passes A₅ (1 ∷ 0 ∷ [])
    passes = unfold bares degree count_leading_zeros below codes_of code_of within all rank_of rank count after clearing pivot lowest is_zero small_at small word digits number F in refl

proof-left : (prove_of A₅ (1 ∷ 0 ∷ [])).1.1 ≡ bares (5 ∷ [])
proof-left = ap (λ (p : List ℕ × List ℕ). p.1) (left A₅ (1 ∷ 0 ∷ []) done) ∙ proof-carried A₅ (1 ∷ 0 ∷ [])
    ∙ unfold bares concat degree count_leading_zeros proof f weighted mask small_at numbers_at polynomial constraint join column row x' z factor witness digit_in summed product power coefficient raised linear_times
    small word digits number vector F times horner times_x rule 𝟘s unit sum scale push top in refl

-- in the order 0 1 it is 0
other_8 : (prove_of A₅ (0 ∷ 1 ∷ [])).0 ≡ (Err Top)
other_8 = answers_8 A₅ (0 ∷ 1 ∷ []) passes unsolved
  where
    passes : PassesAll A₅ (0 ∷ 1 ∷ [])
    passes = unfold bares degree count_leading_zeros below codes_of code_of within all rank_of rank count after clearing pivot lowest is_zero small_at small word digits number F in refl

    differ : word first (small first 0) ≡ word first (small first 5) → ⊥
    differ e = unfold word small digits number F in omega (arith, e)

    unsolved : Solving A₅ (0 ∷ 1 ∷ []) → ⊥
    unsolved p = differ (unfold summed small_at small digits F times horner times_x rule 𝟘s unit sum scale push top in ap (word first) (p.1 0 (omega arith)))

pub hold : map (λ (e : Example). e.given) targets ≡ map (λ (e : Example). e.stated) targets
hold = simp (polynomials-carried, values-carried, done, proof-left, other_8) (unfold bares t_of concat degree count_leading_zeros bits masked_bytes small_at numbers_at masked polynomial value constraint join column row x' z factor
    witness digit_in summed product power coefficient raised linear_times small word digits number vector F times horner times_x rule 𝟘s unit sum scale push top in refl)
