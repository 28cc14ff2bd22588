use Rattle.std.proofs.Common.{◌+◌}
use Rattle.field.specs.Level.{level_at, K}
use Rattle.field.specs.Word.{odd}
use Rattle.field.specs.Packed.{Holds, Multiplies}
use Rattle.row.specs.Elements.{el}
use Rattle.row.specs.Step.{Step}
use Rattle.folding.specs.Steps.{Joined}
use Rattle.folding.proofs.FoldLaws.{carried}
use Rattle.folding.proofs.fold.join.Given as goal

abbrev pub invariant-loop-e : goal.invariant-loop-e
invariant-loop-e l =
    Holds (level_at l.level) l.carry.words (carried (K (level_at l.level)) (odd l.w) (λ i. el (level_at l.level) l.fn.buf (l.a + i)) (λ i. el (level_at l.level) l.fn.buf (l.b + i)) l.e)
    × ((y : (K (level_at l.level)).Carrier) → Multiplies (level_at l.level) l.multiples y → Step (level_at l.level) l.fn.buf l.buf (λ f g. Joined (K (level_at l.level)) f g l.a l.b l.s (odd l.w) y l.e))
