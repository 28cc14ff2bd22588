use Rattle.std.proofs.Common.{ℕ, ◌≡◌, List, [], ◌∷◌, sym, ap, ◌∙◌}
use Rattle.std.specs.Prelude.{Bool, Result, Ok}
use Rattle.refusal.specs.declared.Refusal.{Refusal}
use Rattle.refusal.specs.declared.Refusal.TheVariants.{DependentRows}
use Rattle.refusal.specs.Answer.{first_of}
use Rattle.refusal.proofs.Answers.{pass, stop}
use Rattle.field.specs.Level.{FIRST, level_at}
use Rattle.layout.specs.Layout.{key_segment, key_end, leans, key_tests}
use Rattle.layout.specs.Tests.{tests}
use Rattle.layout.specs.Steps.{stepped, outcome}
use Rattle.layout.proofs.Rows.{exits, first_stops, first_ends}
use Rattle.layout.proofs.read_key.Goals as goal

-- the tests of the fields, and the one of the rows of H
abbrev fields : List ℕ → List (Bool × Refusal)
fields s = tests (level_at FIRST) s 0 (key_segment (level_at FIRST) s)

abbrev last : List ℕ → List (Bool × Refusal)
last s = (leans (level_at FIRST) s, DependentRows) ∷ []

-- where no field was refused, the rows of H decide
reached : (s : List ℕ) {r : Result ℕ Refusal} {end : ℕ} → r ≡ outcome (level_at FIRST) s 0 (key_segment (level_at FIRST) s) → r ≡ Ok end →
    (first_of (key_tests (level_at FIRST) s) ≡ first_of (last s)) × (end ≡ key_end (level_at FIRST) s)
reached s e h = first_ends (fields s) (last s) (key_end (level_at FIRST) s) (sym e ∙ h)

pub returns-in_err-end : goal.returns-in_err-end
returns-in_err-end c =
    let s = c.args.s.now in
    exits c.from_residual.ensures.1 ∙ ap (λ a. stepped a (key_end (level_at FIRST) s)) (first_stops (fields s) (last s) (key_end (level_at FIRST) s) (sym c.read_key_fields.ensures ∙ c.in_err-end.was))

pub returns-then-rows_lean : goal.returns-then-rows_lean
returns-then-rows_lean c =
    let s = c.args.s.now in
    let r = reached s c.read_key_fields.ensures c.in_ok-end.was in
    ap (λ a. stepped a (key_end (level_at FIRST) s)) (sym (r.0 ∙ stop DependentRows [] (sym c.rows_lean.ensures ∙ c.if-rows_lean.true)))

pub returns-else-rows_lean : goal.returns-else-rows_lean
returns-else-rows_lean c =
    let s = c.args.s.now in
    let r = reached s c.read_key_fields.ensures c.in_ok-end.was in
    ap Ok r.1 ∙ ap (λ a. stepped a (key_end (level_at FIRST) s)) (sym (r.0 ∙ pass DependentRows [] (sym c.rows_lean.ensures ∙ c.if-rows_lean.false)))
