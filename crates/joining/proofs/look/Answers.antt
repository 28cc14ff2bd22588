use mathlib.Core.Path.{◌≡◌, sym, ◌∙◌}
use borrow.Author.Rules.{rules}
use lib.ListN.{length}
use Rattle.std.specs.Prelude.{Err}
use Rattle.refusal.specs.Answer.{first_of}
use Rattle.field.specs.Level.{FIRST, level_at}
use Rattle.layout.specs.Layout.{key_end}
use Rattle.bundle.specs.Bundle.{starts, bundle_tests}
use Rattle.bundle.proofs.Steps.{found-refused, found-whole}
use Rattle.joining.proofs.Outcome.{by_first, by_second}
use Rattle.joining.proofs.look.Goals as goal

pub returns-in_err-one : goal.returns-in_err-one
returns-in_err-one c =
    let a = c.args in
    let l = level_at FIRST in
    let s = a.first.now in
    let is : c.from_residual.result ≡ Err c.in_err-one.field-0.0 = search rules in
    is ∙ by_first s a.second.now a.room (found-refused (first_of (bundle_tests l s)) (key_end l s) (length (starts l s)) (sym c.walk.ensures ∙ c.in_err-one.was))

pub returns-in_err-two : goal.returns-in_err-two
returns-in_err-two c =
    let a = c.args in
    let l = level_at FIRST in
    let s = a.first.now in
    let t = a.second.now in
    let first = found-whole (first_of (bundle_tests l s)) (key_end l s) (length (starts l s)) (sym c.walk.ensures ∙ c.in_ok-one.was) in
    let is : c.from_residual-in_err-two.result ≡ Err c.in_err-two.field-0.0 = search rules in
    is ∙ by_second s t a.room first.0 (found-refused (first_of (bundle_tests l t)) (key_end l t) (length (starts l t)) (sym c.walk_second.ensures ∙ c.in_err-two.was))
