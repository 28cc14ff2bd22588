use mathlib.Core.Path.{◌≡◌}
use Prim.Native.Nat.{ℕ, ◌≤◌, ◌<◌}
use lib.ListN.{length, get_or}
use lib.Bits.{bit_xor, bit_and}
use Rattle.field.specs.Packed.{room}
use Rattle.field.specs.Level.{level_at}
use Rattle.field.proofs.packed.add.Given as goal

abbrev pub invariant-loop-q : goal.invariant-loop-q
invariant-loop-q l = (l.q ≤ l.w) × (l.w ≡ room (level_at l.level)) × (length l.z ≡ length l.initial.z) × ((i : ℕ) → i < l.q → get_or l.z i 0 ≡ bit_xor (get_or l.initial.z i 0) (bit_and (get_or l.x i 0) l.mask)) × ((i : ℕ) → l.q ≤ i → get_or l.z i 0 ≡ get_or l.initial.z i 0)
