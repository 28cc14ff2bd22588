use Rattle.std.proofs.Common.{◌+◌, ◌*◌}
use Rattle.field.specs.Level.{level_at, K}
use Rattle.field.specs.Packed.{Combines}
use Rattle.row.specs.Elements.{el}
use Rattle.row.specs.Lent.{small_of}
use Rattle.row.specs.Polynomial.{sum}
use Rattle.row.proofs.sums.mix.Given as goal

abbrev pub invariant-loop-j : goal.invariant-loop-j
invariant-loop-j l =
    Combines (level_at l.level) l.parts (sum (K (level_at l.level)) l.j (λ j. (K (level_at l.level)).mul (small_of (level_at l.level) l.x j) (el (level_at l.level) l.src (l.a + l.s * j + l.k))))
