use mathlib.Core.Path.{◌≡◌}
use Prim.Native.Nat.{ℕ, ◌+◌, ◌-◌, ◌*◌, ◌/◌, ◌%◌, ◌^◌, ◌≤◌, ◌<◌}
use lib.Bits.{bit_xor, bit_and}
use lib.ListN.{length, get_or}
use Rattle.field.specs.Packed.{room}
use Rattle.field.specs.Level.{level_at}
use Rattle.field.proofs.packed.add_parts.Given as goal

abbrev pub invariant-loop-q : goal.invariant-loop-q
invariant-loop-q l = (l.q ≤ l.w) × (l.w ≡ room (level_at l.level)) × (length l.parts ≡ length l.initial.parts)
    × ((k p : ℕ) → k < (level_at l.level).width → p < l.q → get_or l.parts (room (level_at l.level) * k + p) 0 ≡ bit_xor (get_or l.initial.parts (room (level_at l.level) * k + p) 0) (bit_and (get_or l.x p 0) (l.digits / 2 ^ k % 2 * (2 ^ 64 - 1))))
    × ((k p : ℕ) → l.q ≤ p → p < room (level_at l.level) → get_or l.parts (room (level_at l.level) * k + p) 0 ≡ get_or l.initial.parts (room (level_at l.level) * k + p) 0)
