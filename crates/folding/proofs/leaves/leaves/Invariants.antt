use Rattle.field.specs.Level.{level_at, K}
use Rattle.field.specs.Packed.{Multiplies}
use Rattle.row.specs.Elements.{el}
use Rattle.row.specs.Lent.{small_of}
use Rattle.row.specs.Step.{Step}
use Rattle.folding.specs.Steps.{Leaves}
use Rattle.folding.proofs.leaves.leaves.Given as goal

abbrev pub invariant-loop-j : goal.invariant-loop-j
invariant-loop-j l =
    (y : (K (level_at l.level)).Carrier) → Multiplies (level_at l.level) l.multiples y → Step (level_at l.level) l.fn.dst l.dst (λ f g. Leaves (K (level_at l.level)) g l.stride l.first l.j l.n (el (level_at l.level) l.alpha) (small_of (level_at l.level) l.x) y)
