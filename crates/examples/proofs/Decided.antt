-- What prove answers and leaves for a key in bare numbers; for n = 3 and positions 0 1 3, it answers 16.
use Rattle.std.specs.Prelude.{Err}
use Rattle.refusal.specs.declared.Refusal.TheVariants.{Top, SpareCode}
use mathlib.Core.Path.{◌≡◌, refl}
use mathlib.Core.List.{List, [], ◌∷◌, ◌++◌}
use Prim.Native.Nat.{ℕ}
use native.Mathlib.Omega.{arith}
use lib.Count.{count_leading_zeros}
use lib.ListN.{replicate}
use Rattle.lists.specs.Words.{all}
use Rattle.refusal.specs.Answer.{first_of, Done}
use Rattle.refusal.proofs.Answers.{result_of}
use Rattle.field.specs.Level.{FIRST, first, level_at, F}
use Rattle.field.specs.Word.{within, small_at, small, word, digits, number}
use Rattle.key.specs.Key.{degree, lengths, below, code_of, codes_of}
use Rattle.prover.specs.Entry.{rows_to7, prove_rows, tops_row, prove_result, prove_outcome}
use Rattle.prover.specs.Solved.{SolvesKey, HasSpare}
use Rattle.prover.proofs.Solved.{solved, passes}
use Rattle.examples.specs.Starred.{bares, Numbers, sizes, prove_of, three}
use Rattle.elimination.specs.Elimination.{lowest, pivot, column, after, rank}
use Rattle.elimination.specs.Rank.{is_zero, rank_of}
use Rattle.lists.specs.Count.{count}

module _ (key : Numbers) where
  -- t and a, as they are lent
  abbrev pub t₀ : List ℕ
  t₀ = replicate (lengths first (sizes key)).bits 0

  abbrev pub a₀ : List ℕ
  a₀ = replicate (lengths first (sizes key)).proof 0

module _ (key : Numbers) (positions : List ℕ) where
  open key use {lent, v, u, r, s, α}

  -- none of refusals 1 to 7 and 15 applies
  abbrev pub Passes : Type 0
  Passes = first_of (rows_to7 first (sizes key) lent positions u (bares v) (bares r) (bares s) (bares α) (t₀ key) (a₀ key)) ≡ Done

  -- nor 16
  abbrev pub PassesAll : Type 0
  PassesAll = first_of (prove_rows first (sizes key) lent positions u (bares v) (bares r) (bares s) (bares α) (t₀ key) (a₀ key)) ≡ Done

  abbrev pub Solving : Type 0
  Solving = SolvesKey first (sizes key) lent positions

  pub answers_done : Passes → Solving → (prove_of key positions).0 ≡ Done
  unfolding prove_of prove_outcome level_at
  answers_done e p = (solved FIRST (sizes key) lent positions u (bares v) (bares r) (bares s) (bares α) (t₀ key) (a₀ key) refl).done.1 (passes FIRST (sizes key) lent positions u (bares v) (bares r) (bares s) (bares α) (t₀ key) (a₀ key) e p, p)

  pub answers_8 : PassesAll → (Solving → ⊥) → (prove_of key positions).0 ≡ (Err Top)
  unfolding prove_of prove_outcome level_at
  answers_8 e p = (solved FIRST (sizes key) lent positions u (bares v) (bares r) (bares s) (bares α) (t₀ key) (a₀ key) refl).eight.1 (e, p)

  pub answers_16 : Passes → HasSpare (sizes key).n positions → (prove_of key positions).0 ≡ (Err SpareCode)
  unfolding prove_of prove_outcome level_at
  answers_16 e p = (solved FIRST (sizes key) lent positions u (bares v) (bares r) (bares s) (bares α) (t₀ key) (a₀ key) refl).sixteen.1 (e, p)

  pub left : (prove_of key positions).0 ≡ Done → (prove_of key positions).1 ≡ prove_result first (sizes key) lent positions u (bares v) (bares r) (bares s) (bares α)
  unfolding prove_of prove_outcome
  left e = result_of (prove_rows first (sizes key) lent positions u (bares v) (bares r) (bares s) (bares α) (t₀ key) (a₀ key) ++ tops_row first (sizes key) lent positions (bares v))
      (prove_result first (sizes key) lent positions u (bares v) (bares r) (bares s) (bares α)) (t₀ key, a₀ key) refl e

-- the last of the positions 0 1 3 is a spare code
pub three_16 : (prove_of three (0 ∷ 1 ∷ 3 ∷ [])).0 ≡ (Err SpareCode)
three_16 = answers_16 three (0 ∷ 1 ∷ 3 ∷ []) (unfold bares degree count_leading_zeros below codes_of code_of within all rank_of rank count after column pivot lowest is_zero small_at small word digits number F in refl) (2, omega arith, unfold code_of degree count_leading_zeros in refl)
