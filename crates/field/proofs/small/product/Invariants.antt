use mathlib.Core.Path.{◌≡◌}
use Prim.Native.Nat.{◌%◌, ◌^◌, ◌≤◌, ◌<◌}
use Rattle.field.proofs.Number.{multiple}
use Rattle.field.specs.Word.{digits}
use Rattle.field.specs.Level.{level_at}
use Rattle.field.proofs.small.product.Given as goal

abbrev pub invariant-loop-k : goal.invariant-loop-k
invariant-loop-k l = (l.k ≤ l.width) × (l.width ≡ (level_at l.level).width)
    × (l.b < 2 ^ (level_at l.level).width → (l.z ≡ multiple (level_at l.level).width (level_at l.level).tap (digits (level_at l.level).width l.b) (l.a % 2 ^ l.k)) × (l.k < (level_at l.level).width → l.y ≡ multiple (level_at l.level).width (level_at l.level).tap (digits (level_at l.level).width l.b) (2 ^ l.k)))
