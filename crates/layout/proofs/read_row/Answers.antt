use Rattle.std.proofs.Common.{ℕ, ◌≡◌, List, sym, ◌∙◌, arith}
use Rattle.std.proofs.lemmas.Result.{err_from_is_err_and}
use Rattle.refusal.specs.Answer.{first_of, Done}
use Rattle.refusal.proofs.Answers.{none}
use Rattle.field.specs.Level.{FIRST, level_at}
use Rattle.layout.specs.declared.Row.{Row}
use Rattle.layout.specs.Tests.{row_tests}
use Rattle.layout.proofs.Rows.{Passed, passed, row_stops, row_ends}
use Rattle.layout.proofs.read_row.Goals as goal

-- a row that is not refused lies within the bytes
whole : (s : List ℕ) (at : ℕ) (row : Row) → first_of (row_tests (level_at FIRST) s at row) ≡ Done → Passed (level_at FIRST) s at row
whole s at row e = passed (level_at FIRST) s at row (none (row_tests (level_at FIRST) s at row) e)

pub returns-in_err-check_row : goal.returns-in_err-check_row
returns-in_err-check_row c =
    let a = c.args in
    let p = err_from_is_err_and c.from_residual.result c.from_residual.ensures.1 in
    rw (p.1, p.2) (row_stops (level_at FIRST) a.s.now a.at a.row (sym c.in_err-check_row.was ∙ c.check_row.ensures))

pub overflow_add-result : goal.overflow_add-result
overflow_add-result c = let a = c.args in omega (arith, (whole a.s.now a.at a.row (sym c.check_row.ensures ∙ c.in_ok-check_row.was)).fits)

pub overflow_add-result-2 : goal.overflow_add-result-2
overflow_add-result-2 c = let a = c.args in omega (arith, (whole a.s.now a.at a.row (sym c.check_row.ensures ∙ c.in_ok-check_row.was)).fits)

pub returns : goal.returns
returns c = let a = c.args in row_ends (level_at FIRST) a.s.now a.at a.row (sym c.check_row.ensures ∙ c.in_ok-check_row.was)
