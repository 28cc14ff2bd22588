use Rattle.std.proofs.Common.{◌+◌}
use Rattle.field.specs.Level.{level_at, K}
use Rattle.field.specs.Packed.{Multiplies}
use Rattle.row.specs.Lent.{small_of}
use Rattle.row.specs.Step.{Step, Added}
use Rattle.folding.proofs.leaves.add_row.Given as goal

abbrev pub invariant-loop-i : goal.invariant-loop-i
invariant-loop-i l =
    (y : (K (level_at l.level)).Carrier) → Multiplies (level_at l.level) l.multiples y → Step (level_at l.level) l.fn.dst l.dst (λ f g. Added (K (level_at l.level)) f g (λ i. (K (level_at l.level)).mul (small_of (level_at l.level) l.h (l.at + i)) y) l.i)
