use Rattle.field.specs.Level.{FIRST, level_at}
use Rattle.row.specs.Elements.{Bits}
use Rattle.rows.specs.Outcome as O
use Rattle.key.specs.Key.{degree}
use Rattle.constraints.proofs.Fine.{room}
use Rattle.constraints.proofs.Link.{masked-written}
use Prim.Native.Nat.{◌*◌, ◌<◌}
use native.Mathlib.Nat.{mul_comm}
use mathlib.Core.Path.{◌≡◌, sym, ap, subst, ◌∙◌}
use lib.ListN.{length}
use Rattle.constraints.proofs.write_masked_witness.Goals as goal

pub degree-requires : goal.degree-requires
degree-requires c = (room c.args.key c.requires.sized.0).some

pub masked_witness-requires : goal.masked_witness-requires
masked_witness-requires c =
    let a = c.args in
    let square = mul_comm a.key.n (degree a.key.n) in
    subst (λ d. Bits a.u.now × (d < 64) × (length a.positions.now ≡ a.key.n) × (length a.u.now ≡ d * a.key.n) × (length a.t.now ≡ d * a.key.n)) (sym c.degree.ensures)
    (c.requires.sized.1, (room a.key c.requires.sized.0).d-lt, c.requires.positions_len.0, c.requires.positions_len.1 ∙ square, c.requires.positions_len.2 ∙ square)

pub returns : goal.returns
returns c lent =
    let a = c.args in
    c.masked_witness.ensures ∙ ap (λ d. O.masked_witness a.key.n d a.positions.now a.u.now) c.degree.ensures
    ∙ masked-written (level_at FIRST) a.key.n a.key.m lent a.positions.now a.u.now c.requires.sized.1
