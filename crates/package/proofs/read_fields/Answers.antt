use Rattle.std.proofs.Common.{ℕ, sym, ap, ◌∙◌}
use mathlib.Core.Path.{ap₂}
use Rattle.refusal.specs.Answer.{first_of}
use Rattle.field.specs.Level.{FIRST, level_at}
use Rattle.key.specs.declared.Key.{Key}
use Rattle.layout.specs.Layout.{group_rows, key_tests, key_end, group_tests, group_end}
use Rattle.layout.specs.Steps.{stepped, outcome}
use Rattle.layout.proofs.Rows.{exits, step_next, first_stops, first_ends}
use Rattle.layout.proofs.Files.{key-sized}
use Rattle.package.proofs.read_fields.Goals as goal

pub returns-in_err-at : goal.returns-in_err-at
returns-in_err-at c =
    let s = c.args.bytes.now in
    exits c.from_residual.ensures.1
    ∙ ap (λ a. stepped a (group_end (level_at FIRST) s)) (first_stops (key_tests (level_at FIRST) s) (group_tests (level_at FIRST) s) (key_end (level_at FIRST) s) (sym c.read_key.ensures ∙ c.in_err-at.was))

pub read_group-requires : goal.read_group-requires
read_group-requires c =
    let s = c.args.bytes.now in
    rw c.key_at.ensures (key-sized (level_at FIRST) s (step_next (first_of (key_tests (level_at FIRST) s)) (key_end (level_at FIRST) s) (sym c.read_key.ensures ∙ c.in_ok-at.was)).0)

pub returns : goal.returns
returns c =
    let s = c.args.bytes.now in
    let h = first_ends (key_tests (level_at FIRST) s) (group_tests (level_at FIRST) s) (key_end (level_at FIRST) s) (sym c.read_key.ensures ∙ c.in_ok-at.was) in
    c.read_group.ensures
    ∙ ap₂ (λ (key : Key) (at : ℕ). outcome (level_at FIRST) s at (group_rows (level_at FIRST) key s at)) c.key_at.ensures h.1
    ∙ ap (λ a. stepped a (group_end (level_at FIRST) s)) (sym h.0)
