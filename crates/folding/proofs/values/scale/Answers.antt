use Rattle.std.proofs.Common.{◌∙◌, below_more, arith}
use Rattle.folding.proofs.values.scale.Goals as goal

pub loop-j-preserved : goal.loop-j-preserved
loop-j-preserved c y t =
    let r = c.loop-j in
    let d = c.put.ensures _ (c.times.ensures y _ t c.get-old.ensures) in
    let before = r.invariant y t in
    record { same = d.same ∙ before.same; words = d.words; holds = below_more _ r.j (λ i h. d.holds.other i (omega arith) ∙ before.holds i h) d.holds.here }
