use Rattle.std.proofs.Common.{Bool, subst}
use Rattle.field.specs.Binary.{bit}
use Rattle.field.specs.Level.{level_at, K}
use Rattle.field.specs.Packed.{Holds}
use Rattle.row.proofs.ElementLaws.{holds-held}
use Rattle.row.proofs.NumberLaws.{odd-not}
use Rattle.row.proofs.products.put_both.Goals as goal

pub put_two-requires : goal.put_two-requires
put_two-requires c =
    let low = c.plus-low.ensures _ _ c.requires.1 (c.masked.ensures _ c.requires.2) in
    (c.requires.0, holds-held (level_at c.args.level) c.plus-low.result.words _ low, c.requires.4, c.requires.5)

pub returns : goal.returns
returns c u v p q =
    let k = K (level_at c.args.level) in
    let term = λ (b : Bool). k.add u (k.mul (bit k b) v) in
    let low = subst (λ b. Holds (level_at c.args.level) c.plus-low.result.words (term b)) (odd-not c.args.w c.requires.3) (c.plus-low.ensures _ _ p (c.masked.ensures v q)) in
    c.put_two.ensures _ _ low (c.plus-high.ensures _ _ p (c.masked-2.ensures v q))
