use mathlib.Core.Path.{◌≡◌}
use Prim.Native.Nat.{ℕ, ◌*◌, ◌≤◌, ◌<◌}
use lib.ListN.{length, get_or}
use Rattle.field.proofs.Elements.{Entry}
use Rattle.field.specs.Packed.{Holds, room}
use Rattle.field.specs.Level.{level_at, K}
use Rattle.field.proofs.packed.fill.Given as goal

abbrev pub invariant-loop-i : goal.invariant-loop-i
invariant-loop-i l = (room (level_at l.level) ≤ l.i) × (l.end ≡ room (level_at l.level) * (level_at l.level).width) × (length l.table ≡ length l.initial.table) × (l.w ≡ room (level_at l.level)) × ((x : (K (level_at l.level)).Carrier) → Holds (level_at l.level) l.initial.table x → (k : ℕ) → k < l.i → Entry (level_at l.level) (room (level_at l.level)) x k (get_or l.table k 0))
