use Rattle.std.proofs.Common.{subst}
use Rattle.field.specs.Level.{level_at, K}
use Rattle.field.specs.Packed.{Holds}
use Rattle.row.specs.Elements.{el, value_of}
use Rattle.checkzero.proofs.Laws.{pow_more, mask-sum_more}
use Rattle.checkzero.proofs.turn.Goals as goal

pub returns : goal.returns
returns c =
    let a = c.args in
    let l = level_at a.level in
    let Δ = value_of l a.delta.words in
    let held = c.requires.3 in
    let term = c.times-term.ensures _ _ held.power c.get-number.ensures in
    record {
      power = subst (Holds l c.times-next.result.words) (pow_more (K l) Δ a.k) (c.times-next.ensures _ _ held.power c.requires.1);
      total = subst (Holds l c.plus-total.result.words) (mask-sum_more (K l) Δ (el l a.masks.now) a.k) (c.plus-total.ensures _ _ held.total term);
    }
