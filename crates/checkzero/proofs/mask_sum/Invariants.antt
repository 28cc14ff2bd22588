use Rattle.field.specs.Level.{level_at}
use Rattle.row.specs.Elements.{el, value_of}
use Rattle.checkzero.specs.Steps.{AtMask}
use Rattle.checkzero.proofs.mask_sum.Given as goal

abbrev pub invariant-loop-k : goal.invariant-loop-k
invariant-loop-k l =
    AtMask (level_at l.level) (value_of (level_at l.level) l.delta.words) (el (level_at l.level) l.masks) l.k l.held.power.words l.held.total.words
