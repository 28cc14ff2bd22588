use Rattle.field.specs.Level.{level_at, K}
use Rattle.row.specs.Elements.{value_of}
use Rattle.row.specs.Lent.{entry_of}
use Rattle.row.specs.Step.{Step, AddedDown}
use Rattle.row.proofs.sums.spread.Given as goal

abbrev pub invariant-loop-e : goal.invariant-loop-e
invariant-loop-e l =
    Step (level_at l.level) l.fn.dst l.dst (λ f g. AddedDown (K (level_at l.level)) f g l.a l.s l.k (λ e. (K (level_at l.level)).mul (entry_of (level_at l.level) l.n l.h e l.i) (value_of (level_at l.level) l.fn.y.words)) l.e)
