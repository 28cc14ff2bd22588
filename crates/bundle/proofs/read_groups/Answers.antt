use mathlib.Core.Path.{◌∙◌}
use native.Mathlib.Omega.{arith}
use Rattle.layout.proofs.Rows.{exits}
use Rattle.bundle.proofs.Places.{end-above}
use Rattle.bundle.proofs.Steps.{going_first, going_stop, going_done, going_next, group_ended, group-fits}
use Rattle.bundle.proofs.read_groups.Goals as goal

pub loop-end-init : goal.loop-end-init
loop-end-init c = let a = c.args in going_first a.key a.s.now a.start

pub returns-in_err-end : goal.returns-in_err-end
returns-in_err-end c =
    let g = c.loop-end in
    let a = c.args in
    exits c.from_residual.ensures.1 ∙ going_stop a.key a.s.now a.start g.at g.low g.number g.invariant c.read_group.ensures c.in_err-end.was

pub overflow_add-number : goal.overflow_add-number
overflow_add-number c = omega (arith, c.loop-end.invariant.less)

pub returns-then-s-end : goal.returns-then-s-end
returns-then-s-end c =
    let g = c.loop-end in
    let a = c.args in
    going_done a.key a.s.now a.start g.at g.low g.number g.invariant c.read_group.ensures c.in_ok-end.was c.if-s-end.true

pub serial_at-requires : goal.serial_at-requires
serial_at-requires c =
    let g = c.loop-end in
    let a = c.args in
    group-fits a.key a.s.now 0 g.low g.at c.read_group.ensures c.in_ok-end.was

pub loop-end-smaller : goal.loop-end-smaller
loop-end-smaller c =
    let g = c.loop-end in
    let a = c.args in
    omega (arith, end-above a.key a.s.now g.at, group_ended a.key a.s.now 0 g.low g.at c.read_group.ensures c.in_ok-end.was, c.if-s-end.false)

pub loop-end-preserved : goal.loop-end-preserved
loop-end-preserved c =
    let g = c.loop-end in
    let a = c.args in
    going_next a.key a.s.now a.start g.at g.low g.number g.invariant c.read_group.ensures c.in_ok-end.was c.if-s-end.false (c.serial_at.ensures a.key)
