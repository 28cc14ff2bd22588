use mathlib.Core.Path.{◌∙◌}
use Rattle.field.specs.Level.{FIRST, level_at}
use Rattle.field.proofs.Fields.{bounded}
use Rattle.rows.specs.Outcome as O
use Rattle.key.specs.Key.{slices_of}
use Rattle.constraints.proofs.Fine.{room, elements-columns, polynomials-columns}
use Rattle.constraints.proofs.Link.{polynomials-written}
use Rattle.constraints.proofs.write_polynomials.Goals as goal

pub polynomials-requires-clause-words : goal.polynomials-requires-clause-words
polynomials-requires-clause-words c =
    let e = c.equations.ensures in
    rw (e.level, e.d) (c.requires.sized.2, (bounded FIRST).coordinates, (room c.args.lent.now.key c.requires.sized.0).d-lt)

pub polynomials-requires-clause-positions_len : goal.polynomials-requires-clause-positions_len
polynomials-requires-clause-positions_len c =
    let key = c.args.lent.now.key in
    let e = c.equations.ensures in
    let p = c.requires.positions_len in
    rw (e.level, e.d, e.n, e.m) (p.0, p.1 ∙ elements-columns FIRST key, p.2 ∙ polynomials-columns FIRST key, (room key c.requires.sized.0).polynomials)

pub returns : goal.returns
returns c =
    let a = c.args in
    let e = c.equations.ensures in
    c.polynomials.ensures ∙ (λ t. O.polynomials (level_at (e.level t)) (e.n t) (e.m t) (e.d t) (e.h t) (e.x t) (e.y t) a.positions.now a.v.now)
    ∙ polynomials-written (level_at FIRST) a.lent.now.key.n a.lent.now.key.m (slices_of a.lent.now) a.positions.now a.v.now
