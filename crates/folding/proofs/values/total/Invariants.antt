use Rattle.field.specs.Level.{level_at, K}
use Rattle.field.specs.Packed.{Holds}
use Rattle.row.specs.Elements.{el}
use Rattle.row.specs.Polynomial.{sum}
use Rattle.folding.proofs.values.total.Given as goal

abbrev pub invariant-loop-j : goal.invariant-loop-j
invariant-loop-j l =
    Holds (level_at l.level) l.all.words (sum (K (level_at l.level)) l.j (el (level_at l.level) l.src))
