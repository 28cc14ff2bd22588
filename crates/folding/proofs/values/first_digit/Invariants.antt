use Rattle.field.specs.Level.{level_at, K}
use Rattle.field.specs.Packed.{Multiplies}
use Rattle.row.specs.Elements.{el}
use Rattle.row.specs.Step.{Step}
use Rattle.folding.specs.Steps.{Folded}
use Rattle.folding.proofs.values.first_digit.Given as goal

abbrev pub invariant-loop-p : goal.invariant-loop-p
invariant-loop-p l =
    (y : (K (level_at l.level)).Carrier) → Multiplies (level_at l.level) l.multiples y → Step (level_at l.level) l.fn.work l.work (λ f g. Folded (K (level_at l.level)) f g l.h y (el (level_at l.level) l.second) l.p)
