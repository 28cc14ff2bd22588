use Rattle.std.proofs.Common.{◌≡◌, ℕ, ◌<◌}
use Rattle.field.specs.Level.{level_at, K}
use Rattle.field.specs.Packed.{Multiplies}
use Rattle.row.specs.Elements.{el}
use Rattle.row.specs.Step.{Step}
use Rattle.folding.proofs.values.scale.Given as goal

abbrev pub invariant-loop-j : goal.invariant-loop-j
invariant-loop-j l =
    (y : (K (level_at l.level)).Carrier) → Multiplies (level_at l.level) l.multiples y → Step (level_at l.level) l.fn.dst l.dst (λ f g. (i : ℕ) → i < l.j → g i ≡ (K (level_at l.level)).mul y (el (level_at l.level) l.src i))
