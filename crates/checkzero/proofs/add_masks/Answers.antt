use Rattle.std.proofs.Common.{◌+◌, refl, ◌∙◌, arith}
use Rattle.field.specs.Level.{level_at, K}
use Rattle.row.specs.Elements.{el}
use Rattle.checkzero.proofs.Laws.{mask-none, mask_more}
use Rattle.checkzero.proofs.add_masks.Goals as goal

pub loop-k-init : goal.loop-k-init
loop-k-init c =
    let a = c.args in
    let l = level_at a.level in
    record { same = refl; words = c.requires.0; holds = mask-none (K l) (el l a.dst.now) (el l a.r.now) (el l a.s.now) (a.count + 1) }

pub loop-k-preserved : goal.loop-k-preserved
loop-k-preserved c =
    let a = c.args in
    let l = level_at a.level in
    let r = c.loop-k in
    let low = c.add_at.ensures _ c.get.ensures in
    let high = c.add_at-in-loop-k.ensures _ c.get-in-loop-k.ensures in
    record { same = high.same ∙ low.same ∙ r.invariant.same; words = high.words; holds = mask_more (K l) (el l a.dst.now) _ _ _ (el l a.r.now) (el l a.s.now) (a.count + 1) r.k (omega arith) r.invariant.holds low.holds high.holds }
