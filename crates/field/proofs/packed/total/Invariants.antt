use Rattle.std.proofs.Common.{ℕ, ◌*◌, ◌<◌, drop}
use Rattle.field.specs.Level.{level_at, K}
use Rattle.field.specs.Packed.{Holds, room}
use Rattle.field.proofs.PartLaws.{later}
use Rattle.field.proofs.packed.total.Given as goal

abbrev pub invariant-loop-k : goal.invariant-loop-k
invariant-loop-k l = (a : ℕ → (K (level_at l.level)).Carrier) → Holds (level_at l.level) l.fn.sum (K (level_at l.level)).zero
    → ((q : ℕ) → q < (level_at l.level).width → Holds (level_at l.level) (drop (room (level_at l.level) * q) l.parts) (a q)) → Holds (level_at l.level) l.sum (later (level_at l.level) a l.k)
