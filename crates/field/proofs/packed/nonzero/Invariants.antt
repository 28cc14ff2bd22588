use mathlib.Core.Path.{◌≡◌}
use Prim.Native.Nat.{◌≤◌}
use lib.Dec.{eqb}
use lib.ListN.{take}
use Rattle.field.specs.Packed.{Holds}
use Rattle.field.specs.Word.{words}
use Rattle.field.specs.Level.{level_at, K}
use Rattle.lists.specs.Words.{all}
use Rattle.field.proofs.packed.nonzero.Given as goal

abbrev pub invariant-loop-i : goal.invariant-loop-i
invariant-loop-i l = (l.i ≤ l.coordinates) × (l.coordinates ≡ (level_at l.level).coordinates) × ((x : (K (level_at l.level)).Carrier) → Holds (level_at l.level) l.ws x → eqb l.any 0 ≡ all (λ y. eqb y 0) (take l.i (words (level_at l.level) x)))
