use mathlib.Core.Path.{◌≡◌}
use Prim.Native.Nat.{◌%◌, ◌^◌, ◌≤◌}
use Rattle.field.proofs.Elements.{Lane}
use Rattle.field.specs.Packed.{room, Tabulates}
use Rattle.field.specs.Level.{level_at, K}
use Rattle.field.proofs.packed.word.Given as goal

abbrev pub invariant-loop-k : goal.invariant-loop-k
invariant-loop-k l = (l.k ≤ l.width) × (l.width ≡ (level_at l.level).width) × (l.w ≡ room (level_at l.level)) × ((y : (K (level_at l.level)).Carrier) → Tabulates (level_at l.level) l.table y → Lane (level_at l.level) y (l.f % 2 ^ l.k) l.at l.x)
