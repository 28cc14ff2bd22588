use Rattle.field.specs.Level.{level_at, K}
use Rattle.field.specs.Packed.{Holds}
use Rattle.row.specs.Elements.{value_of}
use Rattle.row.specs.Polynomial.{raise}
use Rattle.row.proofs.products.raised.Given as goal

abbrev pub invariant-loop : goal.invariant-loop
invariant-loop l =
    Holds (level_at l.level) l.power.words (raise (K (level_at l.level)) (value_of (level_at l.level) l.fn.delta.words) l.counter)
