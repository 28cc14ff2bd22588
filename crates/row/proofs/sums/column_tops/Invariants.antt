use Rattle.field.specs.Level.{level_at, K}
use Rattle.row.specs.Elements.{value_of}
use Rattle.row.specs.Step.{Step, AddedDown}
use Rattle.row.proofs.sums.column_tops.Given as goal

abbrev pub invariant-loop-j : goal.invariant-loop-j
invariant-loop-j l =
    Step (level_at l.level) l.fn.dst l.dst (λ f g. AddedDown (K (level_at l.level)) f g 0 l.s l.k (λ e. value_of (level_at l.level) l.y.words) l.j)
