use Rattle.std.proofs.Common.{◌+◌}
use Rattle.field.specs.Level.{level_at, K}
use Rattle.field.specs.Packed.{Multiplies}
use Rattle.row.specs.Step.{Step}
use Rattle.folding.specs.Steps.{Folded}
use Rattle.folding.proofs.values.digit.Given as goal

abbrev pub invariant-loop-p : goal.invariant-loop-p
invariant-loop-p l =
    (y Δ : (K (level_at l.level)).Carrier) → Multiplies (level_at l.level) l.multiples y → Multiplies (level_at l.level) l.delta Δ → Step (level_at l.level) l.fn.work l.work (λ f g. Folded (K (level_at l.level)) f g l.h y (λ p. (K (level_at l.level)).mul Δ (f (p + l.place))) l.p)
