use Rattle.std.proofs.Common.{◌+◌, ◌<◌, ◌∙◌, arith}
use Rattle.std.proofs.Math.Decide.{dec_lt}
use Rattle.field.specs.Level.{level_at, K}
use Rattle.row.specs.Elements.{el, value_of, Held}
use Rattle.row.specs.Lent.{small_of}
use Rattle.row.proofs.ElementLaws.{holds-value, holds-held}
use Rattle.folding.proofs.LeafLaws.{leaves_more}
use Rattle.folding.proofs.leaves.leaves.Goals as goal

pub loop-j-preserved : goal.loop-j-preserved
loop-j-preserved c y t =
    let a = c.args in
    let l = level_at a.level in
    let r = c.loop-j in
    let w = c.weight-weight in
    let v = value_of l w.result.words in
    let d = c.put.ensures v (made (dec_lt (a.first + r.j) a.n)) in
    let before = r.invariant y t in
    record {
      same = d.same ∙ before.same;
      words = d.words;
      holds = leaves_more (K l) a.stride a.first a.n (el l a.alpha.now) (small_of l a.x.now) y _ _ r.j v c.requires.5 before.holds d.holds (λ h. holds-value l w.result.words _ (w.ensures.inside y t h)) (λ h. holds-value l w.result.words _ (w.ensures.outside h));
    }
  where
    made : Dec (c.args.first + c.loop-j.j < c.args.n) → Held (level_at c.args.level) c.weight-weight.result.words
    made (yes h) = holds-held (level_at c.args.level) c.weight-weight.result.words _ (c.weight-weight.ensures.inside y t h)
    made (no h) = holds-held (level_at c.args.level) c.weight-weight.result.words _ (c.weight-weight.ensures.outside (omega arith))
