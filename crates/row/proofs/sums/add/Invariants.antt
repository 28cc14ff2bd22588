use Rattle.field.specs.Level.{level_at, K}
use Rattle.row.specs.Elements.{el}
use Rattle.row.specs.Step.{Step, Added}
use Rattle.row.proofs.sums.add.Given as goal

abbrev pub invariant-loop-k : goal.invariant-loop-k
invariant-loop-k l =
    Step (level_at l.level) l.fn.dst l.dst (λ f g. Added (K (level_at l.level)) f g (el (level_at l.level) l.src) l.k)
