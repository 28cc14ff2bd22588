use Rattle.std.proofs.Common.{subst, sym}
use Rattle.field.specs.Level.{level_at, K}
use Rattle.field.specs.Packed.{Holds}
use Rattle.row.specs.Elements.{el}
use Rattle.row.proofs.SumLaws.{sum-none, sum_more}
use Rattle.folding.proofs.values.total.Goals as goal

pub loop-j-init : goal.loop-j-init
loop-j-init c =
    let l = level_at c.args.level in
    subst (Holds l c.zero-all.result.words) (sym (sum-none (K l) (el l c.args.src.now))) c.zero-all.ensures

pub loop-j-preserved : goal.loop-j-preserved
loop-j-preserved c =
    let l = level_at c.args.level in
    let r = c.loop-j in
    subst (Holds l c.plus-all.result.words) (sum_more (K l) r.j (el l c.args.src.now)) (c.plus-all.ensures _ _ r.invariant c.get.ensures)
