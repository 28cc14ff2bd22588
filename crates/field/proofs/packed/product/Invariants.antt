use Rattle.field.specs.Level.{level_at, K}
use Rattle.field.specs.Packed.{Holds, Tabulates}
use Rattle.field.proofs.Elements.{rest}
use Rattle.field.proofs.packed.product.Given as goal

abbrev pub invariant-loop-i : goal.invariant-loop-i
invariant-loop-i l = (x y : (K (level_at l.level)).Carrier) → Tabulates (level_at l.level) l.table x → Holds (level_at l.level) l.other y → Holds (level_at l.level) l.z (rest (level_at l.level) y x l.i)
