use mathlib.Core.Path.{◌≡◌}
use Prim.Native.Nat.{ℕ, ◌+◌, ◌-◌, ◌*◌, ◌/◌, ◌%◌, ◌^◌, ◌≤◌, ◌<◌}
use lib.ListN.{length, get_or}
use lib.Bits.{bit_xor, bit_and}
use Rattle.field.specs.Packed.{room}
use Rattle.field.specs.Level.{level_at}
use Rattle.field.proofs.packed.add_word.Given as goal

abbrev pub invariant-loop-k : goal.invariant-loop-k
invariant-loop-k l = (l.k ≤ l.width) × (l.width ≡ (level_at l.level).width) × (l.w ≡ room (level_at l.level)) × (length l.parts ≡ length l.initial.parts)
    × ((i : ℕ) → i < l.k → get_or l.parts (room (level_at l.level) * i + l.q) 0 ≡ bit_xor (get_or l.initial.parts (room (level_at l.level) * i + l.q) 0) (bit_and l.x (l.f / 2 ^ i % 2 * (2 ^ 64 - 1))))
    × ((i : ℕ) → l.k ≤ i → get_or l.parts (room (level_at l.level) * i + l.q) 0 ≡ get_or l.initial.parts (room (level_at l.level) * i + l.q) 0)
    × ((i p : ℕ) → p < room (level_at l.level) → (p ≡ l.q → ⊥) → get_or l.parts (room (level_at l.level) * i + p) 0 ≡ get_or l.initial.parts (room (level_at l.level) * i + p) 0)
