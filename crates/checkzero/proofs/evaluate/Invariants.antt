use Rattle.field.specs.Level.{level_at, K}
use Rattle.field.specs.Packed.{Holds}
use Rattle.row.specs.Elements.{el, value_of}
use Rattle.checkzero.proofs.Laws.{above}
use Rattle.checkzero.proofs.evaluate.Given as goal

abbrev pub invariant-loop-k : goal.invariant-loop-k
invariant-loop-k l =
    Holds (level_at l.level) l.total.words (above (K (level_at l.level)) (el (level_at l.level) l.a) (value_of (level_at l.level) l.fn.delta.words) l.count l.k)
