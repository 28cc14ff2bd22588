use Rattle.field.specs.Level.{FIRST}
use Rattle.key.specs.Key.{slices_of}
use Rattle.examples.proofs.Accepted.{accepted}
use Rattle.examples.proofs.completeness.Goals as goal

pub returns : goal.returns
returns c =
    let a = c.args in
    let p = c.prove-proved.ensures in
    accepted FIRST a.lent.now.key (slices_of a.lent.now) a.positions.now a.u.now a.v.now a.r.now a.s.now a.alpha.now a.t.now a.a.now a.q.now a.delta.now a.masks.now p.outcome p.solved c.verify-judged.ensures.outcome
