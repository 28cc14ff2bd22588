use Rattle.std.proofs.Common.{◌-◌, ◌≤◌, List, length}
use Rattle.field.specs.declared.Level.{Level}
use Rattle.layout.specs.declared.Row.{Row}
use Rattle.layout.specs.Tests.{part_of}
use Rattle.layout.specs.Steps.{Whole}
use Rattle.layout.proofs.Rest.{Rest}
use Rattle.layout.proofs.find.Given as goal

abbrev pub invariant-loop-at : goal.invariant-loop-at
invariant-loop-at l = (l.at ≤ length l.s) × ((k : Level) (rows : List Row) → Whole k l.s rows → Rest k l.s l.tag (part_of l.tag 0 rows) l.at)

abbrev pub decreases-loop-at : goal.decreases-loop-at
decreases-loop-at l = length l.s - l.at
