use native.Mathlib.Nat.{mul_comm}
use mathlib.Core.Path.{◌∙◌}
use Rattle.field.specs.Level.{FIRST, level_at}
use Rattle.field.proofs.Fields.{bounded}
use Rattle.rows.specs.Outcome as O
use Rattle.key.specs.Key.{slices_of, degree}
use Rattle.constraints.proofs.Fine.{room, elements-columns}
use Rattle.constraints.proofs.Link.{values-written}
use Rattle.constraints.proofs.write_values.Goals as goal

pub values-requires-clause-words : goal.values-requires-clause-words
values-requires-clause-words c =
    let s = c.requires.sized in
    rw (c.equations.ensures.level) (s.3, s.4, s.2, (bounded FIRST).coordinates)

pub values-requires-clause-bits_len : goal.values-requires-clause-bits_len
values-requires-clause-bits_len c =
    let key = c.args.lent.now.key in
    let e = c.equations.ensures in
    let t = c.requires.t_len in
    rw (e.level, e.d, e.n, e.m) (t.0 ∙ mul_comm key.n (degree key.n), t.1 ∙ elements-columns FIRST key, t.2, t.3, (room key c.requires.sized.0).values)

pub returns : goal.returns
returns c =
    let a = c.args in
    let e = c.equations.ensures in
    c.values.ensures ∙ (λ t. O.values (level_at (e.level t)) (e.n t) (e.m t) (e.d t) (e.h t) (e.x t) (e.y t) a.t.now a.q.now a.delta.now)
    ∙ values-written (level_at FIRST) a.lent.now.key.n a.lent.now.key.m (slices_of a.lent.now) a.t.now a.q.now a.delta.now c.requires.sized.2 c.requires.t_len.2
