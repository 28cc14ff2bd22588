use Rattle.std.proofs.Common.{◌≡◌, ◌+◌, ap, ◌∙◌, arith}
use Rattle.field.specs.Level.{level_at, K}
use Rattle.row.specs.Elements.{el, value_of}
use Rattle.row.proofs.ElementLaws.{fits_le, holds-held}
use Rattle.row.proofs.ValueLaws.{twofold_more}
use Rattle.row.proofs.products.twin.Goals as goal

pub put_two-requires : goal.put_two-requires
put_two-requires c =
    let a = c.args in
    let l = level_at a.level in
    let r = c.loop-p in
    let low = c.times.ensures _ _ (c.of-low.ensures _ c.requires.1) c.get-old.ensures in
    (r.invariant.words, holds-held l c.times.result.words _ low, omega arith, fits_le l (r.p + a.h + 1) (a.h + a.h) (omega arith) r.invariant.same c.requires.3)

pub loop-p-preserved : goal.loop-p-preserved
loop-p-preserved c =
    let a = c.args in
    let l = level_at a.level in
    let r = c.loop-p in
    let x = value_of l a.a.words in
    let y = value_of l a.b.words in
    let low = c.times.ensures x (el l r.buf r.p) (c.of-low.ensures x c.requires.1) c.get-old.ensures in
    let high = c.times-in-loop-p.ensures y (el l r.buf r.p) (c.of-high.ensures y c.requires.2) c.get-old.ensures in
    let d = c.put_two.ensures _ _ low high in
    let old : el l r.buf r.p ≡ el l a.buf.now r.p = r.invariant.holds.ahead r.p (omega arith) (omega arith) in
    record { same = d.same ∙ r.invariant.same; words = d.words; holds = twofold_more (K l) (el l a.buf.now) _ _ a.h x y r.p _ _ (omega arith) r.invariant.holds d.holds (ap ((K l).mul x) old) (ap ((K l).mul y) old) }
