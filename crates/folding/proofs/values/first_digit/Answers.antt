use Rattle.std.proofs.Common.{refl, ◌∙◌}
use Rattle.field.specs.Level.{level_at, K}
use Rattle.row.specs.Elements.{el}
use Rattle.folding.proofs.RowLaws.{folded_more}
use Rattle.folding.proofs.values.first_digit.Goals as goal

pub loop-p-preserved : goal.loop-p-preserved
loop-p-preserved c y t =
    let a = c.args in
    let l = level_at a.level in
    let r = c.loop-p in
    let v = el l a.second.now r.p in
    let d = c.fold.ensures y v t c.get-named.ensures in
    let before = r.invariant y t in
    record { same = d.same ∙ before.same; words = d.words; holds = folded_more (K l) (el l a.work.now) _ _ a.h y (el l a.second.now) r.p v before.holds d.holds refl }
