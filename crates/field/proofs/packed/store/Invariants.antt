use mathlib.Core.Path.{◌≡◌}
use Prim.Native.Nat.{◌≤◌}
use lib.Seq.{paste}
use lib.ListN.{length}
use Rattle.field.specs.Packed.{Holds}
use Rattle.field.specs.Word.{words}
use Rattle.field.specs.Level.{level_at, K}
use Rattle.field.proofs.packed.store.Given as goal

abbrev pub invariant-loop-i : goal.invariant-loop-i
invariant-loop-i l = (l.i ≤ l.coordinates) × (l.coordinates ≡ (level_at l.level).coordinates) × (length l.s ≡ length l.initial.s) × ((x : (K (level_at l.level)).Carrier) → Holds (level_at l.level) l.ws x → l.s ≡ paste l.initial.s l.at (words (level_at l.level) x) l.i)
