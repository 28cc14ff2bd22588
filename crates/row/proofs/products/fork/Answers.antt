use Rattle.std.proofs.Common.{◌+◌, arith}
use Rattle.field.specs.Level.{level_at}
use Rattle.row.proofs.ElementLaws.{fits_le, holds-held}
use Rattle.row.proofs.products.fork.Goals as goal

pub put_two-requires : goal.put_two-requires
put_two-requires c =
    let a = c.args in
    let l = level_at a.level in
    let r = c.loop-p in
    (r.invariant.words, holds-held l c.masked-low.result.words _ (c.masked-low.ensures _ c.get-old.ensures), omega arith, fits_le l (r.p + a.h + 1) (a.h + a.h) (omega arith) r.invariant.same c.requires.2)
