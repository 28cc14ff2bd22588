use Rattle.std.proofs.Common.{◌+◌}
use Rattle.field.specs.Level.{level_at, K}
use Rattle.field.specs.Word.{odd}
use Rattle.field.specs.Packed.{Holds, Multiplies}
use Rattle.row.specs.Elements.{el}
use Rattle.row.specs.Polynomial.{up}
use Rattle.row.specs.Step.{Step, Factored}
use Rattle.row.proofs.products.split.Given as goal

abbrev pub invariant-loop-e : goal.invariant-loop-e
invariant-loop-e l =
    Holds (level_at l.level) l.carry.words (up (K (level_at l.level)) (λ i. el (level_at l.level) l.fn.buf (l.a + i)) l.e)
    × ((y : (K (level_at l.level)).Carrier) → Multiplies (level_at l.level) l.multiples y → Step (level_at l.level) l.fn.buf l.buf (λ f g. Factored (K (level_at l.level)) f g l.a l.b l.s (odd l.w) y l.e))
