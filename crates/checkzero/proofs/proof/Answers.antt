use Rattle.std.proofs.Common.{◌-◌, ap, ◌∙◌, arith}
use Rattle.field.specs.Level.{level_at, K}
use Rattle.row.specs.Elements.{el}
use Rattle.row.specs.Lent.{small_of}
use Rattle.checkzero.specs.CheckZero.{mask}
use Rattle.checkzero.proofs.Laws.{written}
use Rattle.checkzero.proofs.proof.Goals as goal

pub returns : goal.returns
returns c y =
    let a = c.args in
    let matrix = a.matrix.now in
    let l = level_at matrix.level in
    let p = c.requires.coordinates_nonzero in
    let w = c.weighted.ensures in
    let m = c.add_masks.ensures in
    let masks = mask (K l) (matrix.d - 1) (el l a.r.now) (el l a.s.now) in
    written l matrix.d c.add_masks.new.dst _ m.words p.0 (m.same ∙ w.same ∙ p.5) (λ k b. m.holds.low k (omega (arith, p.1)) ∙ ap (λ e. (K l).add e (masks k)) (w.holds (small_of l y) k b))
