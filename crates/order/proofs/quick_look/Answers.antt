use mathlib.Core.Path.{sym, ◌∙◌}
use native.Mathlib.Omega.{arith}
use borrow.Author.Rules.{rules}
use Rattle.field.specs.Level.{FIRST, level_at}
use Rattle.field.proofs.Fields.{bounded}
use Rattle.order.specs.Entry.{look_outcome}
use Rattle.order.proofs.Told.{fine, outcome-found, promised}
use Rattle.order.proofs.quick_look.Goals as goal

pub returns-in_err-refused : goal.returns-in_err-refused
unfolding look_outcome
returns-in_err-refused c =
    let t = promised FIRST c.args.n c.args.positions.now (search rules) in
    record { outcome = t.0; tells = t.1 }

pub first_offender-requires : goal.first_offender-requires
first_offender-requires c =
    let a = c.args in
    let z = fine (level_at FIRST) a.n a.positions.now (sym c.refused.ensures ∙ c.in_ok-refused.was) in
    (z.positions-length, omega (arith, z.most, (bounded FIRST).most))

pub returns : goal.returns
returns c =
    let a = c.args in
    let t = promised FIRST a.n a.positions.now (outcome-found FIRST a.n a.positions.now c.refused.ensures c.in_ok-refused.was c.first_offender.ensures) in
    record { outcome = t.0; tells = t.1 }
