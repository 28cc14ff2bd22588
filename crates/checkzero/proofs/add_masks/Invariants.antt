use Rattle.std.proofs.Common.{◌+◌}
use Rattle.field.specs.Level.{level_at, K}
use Rattle.row.specs.Elements.{el}
use Rattle.row.specs.Step.{Step, Added}
use Rattle.checkzero.specs.CheckZero.{mask}
use Rattle.checkzero.proofs.add_masks.Given as goal

abbrev pub invariant-loop-k : goal.invariant-loop-k
invariant-loop-k l =
    Step (level_at l.level) l.fn.dst l.dst (λ f g. Added (K (level_at l.level)) f g (mask (K (level_at l.level)) l.k (el (level_at l.level) l.r) (el (level_at l.level) l.s)) (l.count + 1))
