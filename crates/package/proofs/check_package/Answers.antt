use Rattle.std.proofs.Common.{◌++◌, sym, ap, ◌∙◌}
use Rattle.refusal.specs.Answer.{first_of}
use Rattle.field.specs.Level.{FIRST, level_at}
use Rattle.layout.specs.Layout.{key_tests, group_tests, group_end}
use Rattle.layout.specs.Tests.{end_tests}
use Rattle.layout.proofs.Rows.{exits, first_stops, first_ends}
use Rattle.package.proofs.check_package.Goals as goal

pub returns-in_err-at : goal.returns-in_err-at
returns-in_err-at c =
    let l = level_at FIRST in
    let s = c.args.bytes.now in
    exits c.from_residual.ensures.1 ∙ first_stops (key_tests l s ++ group_tests l s) (end_tests s (group_end l s)) (group_end l s) (sym c.read_fields.ensures ∙ c.in_err-at.was)

pub returns : goal.returns
returns c =
    let l = level_at FIRST in
    let s = c.args.bytes.now in
    let h = first_ends (key_tests l s ++ group_tests l s) (end_tests s (group_end l s)) (group_end l s) (sym c.read_fields.ensures ∙ c.in_ok-at.was) in
    c.read_end.ensures ∙ ap (λ at. first_of (end_tests s at)) h.1 ∙ sym h.0
