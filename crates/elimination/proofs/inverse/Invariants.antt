use Prim.Native.Nat.{◌+◌, ◌-◌, ◌^◌, ◌≤◌}
use mathlib.Core.Path.{◌≡◌}
use Rattle.field.specs.Sums.{pow}
use Rattle.field.specs.Level.{F, level_at}
use Rattle.field.specs.Word.{small, word}
use Rattle.elimination.proofs.inverse.Given as goal

abbrev pub invariant-loop-k : goal.invariant-loop-k
invariant-loop-k l = (l.k ≤ l.last) × (l.last + 1 ≡ (level_at l.level).width) × (l.p ≡ word (level_at l.level) (pow (F (level_at l.level)) (small (level_at l.level) l.a) (2 ^ l.k - 1)))
