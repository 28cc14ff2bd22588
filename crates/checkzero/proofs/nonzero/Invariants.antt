use Rattle.std.proofs.Common.{◌≡◌, eqb}
use Rattle.field.specs.Level.{level_at}
use Rattle.field.specs.Word.{is_zero}
use Rattle.row.specs.Elements.{el}
use Rattle.checkzero.specs.Slices.{every}
use Rattle.checkzero.proofs.nonzero.Given as goal

abbrev pub invariant-loop-j : goal.invariant-loop-j
invariant-loop-j l =
    eqb l.any 0 ≡ every l.j (λ j. is_zero (level_at l.level) (el (level_at l.level) l.p j))
