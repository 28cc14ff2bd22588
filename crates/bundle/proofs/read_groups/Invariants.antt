use Rattle.std.proofs.Common.{◌-◌, length}
use Rattle.bundle.proofs.Steps.{Going}
use Rattle.bundle.proofs.read_groups.Given as goal

abbrev pub invariant-loop-end : goal.invariant-loop-end
invariant-loop-end l = Going l.key l.s l.start l.at l.low l.number

abbrev pub decreases-loop-end : goal.decreases-loop-end
decreases-loop-end l = length l.s - l.at
