use Rattle.std.proofs.Common.{◌≡◌, ℕ, ◌<◌}
use Rattle.field.specs.Level.{level_at, K}
use Rattle.field.specs.Word.{Words}
use Rattle.row.specs.Elements.{el}
use Rattle.row.specs.Lent.{entry_of}
use Rattle.folding.specs.Weights.{multiplier}
use Rattle.folding.proofs.leaves.multipliers.Given as goal

abbrev pub invariant-loop-e : goal.invariant-loop-e
invariant-loop-e l =
    Words (level_at l.level) l.dst × ((i : ℕ) → i < l.n → el (level_at l.level) l.dst i ≡ multiplier (K (level_at l.level)) l.n l.e (entry_of (level_at l.level) l.n l.h) (el (level_at l.level) l.alpha) i)
