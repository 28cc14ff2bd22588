use mathlib.Core.Path.{sym, ◌∙◌}
use lib.ListN.{length}
use Rattle.refusal.specs.Answer.{room_row}
use Rattle.refusal.proofs.Answers.{after-refused}
use Rattle.field.specs.Level.{FIRST, level_at}
use Rattle.key.specs.Key.{slices_of}
use Rattle.layout.proofs.Rows.{exits}
use Rattle.writer.specs.Entry.{package_bytes, write_checks}
use Rattle.writer.proofs.Outcome.{stated}
use Rattle.writer.proofs.refused.Goals as goal

pub returns-in_err-checks : goal.returns-in_err-checks
returns-in_err-checks c =
    let a = c.args in
    let lent = slices_of a.lent.now in
    let needed = length (package_bytes (level_at FIRST) a.lent.now.key lent a.serial a.t.now a.a.now) in
    exits c.from_residual.ensures.1 ∙ sym c.in_err-checks.was ∙ after-refused (write_checks (level_at FIRST) a.lent.now.key lent a.t.now a.a.now) (room_row needed a.room) c.checks.ensures c.in_err-checks.was

pub size-requires : goal.size-requires
size-requires c =
    let a = c.args in
    let s = stated a.lent.now.key (slices_of a.lent.now) a.t.now a.a.now (sym c.checks.ensures ∙ c.in_ok-checks.was) in
    (s.h, s.x, s.y, s.t-bytes, s.a-words)
