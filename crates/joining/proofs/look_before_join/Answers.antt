use mathlib.Core.Path.{◌≡◌, sym, ◌∙◌}
use borrow.Author.Rules.{rules}
use Rattle.std.specs.Prelude.{Err}
use Rattle.joining.proofs.Ahead.{as_joined, answer-refused, answer-fits}
use Rattle.joining.proofs.look_before_join.Goals as goal

pub returns-in_err-plan : goal.returns-in_err-plan
returns-in_err-plan c =
    let a = c.args in
    let is : c.from_residual.result ≡ Err c.in_err-plan.field-0.0 = search rules in
    let w = as_joined a.first.now a.second.now a.room (is ∙ answer-refused a.first.now a.second.now a.room (sym c.look.ensures ∙ c.in_err-plan.was)) in
    record { outcome = w.0; ahead = w.1 }

pub returns : goal.returns
returns c =
    let a = c.args in
    let w = as_joined a.first.now a.second.now a.room (answer-fits a.first.now a.second.now a.room (sym c.look.ensures ∙ c.in_ok-plan.was)) in
    record { outcome = w.0; ahead = w.1 }
