use mathlib.Core.List.{List}
use mathlib.Core.Path.{◌≡◌}
use Prim.Native.Nat.{ℕ, suc, ◌≤◌, ◌<◌}
use lib.ListN.{length, get_or}
use Rattle.field.specs.Packed.{lane, room}
use Rattle.field.specs.Level.{level_at}
use Rattle.field.proofs.packed.raise.Given as goal

-- v is word i of z moved up by one lane, with b put in below
abbrev pub Moved : List ℕ → ℕ → ℕ → ℕ → Type 0
Moved z b i v = ((j : ℕ) → j < 3 → lane v (suc j) ≡ lane (get_or z i 0) j) × (i ≡ 0 → lane v 0 ≡ b) × ((p : ℕ) → i ≡ suc p → lane v 0 ≡ lane (get_or z p 0) 3)

abbrev pub invariant-loop-q : goal.invariant-loop-q
invariant-loop-q l = (l.q ≤ l.w) × (l.w ≡ room (level_at l.level)) × (length l.z ≡ length l.initial.z) × (l.carry < 65536)
    × ((l.q ≡ 0 → l.carry ≡ l.b) × ((p : ℕ) → l.q ≡ suc p → l.carry ≡ lane (get_or l.initial.z p 0) 3))
    × ((i : ℕ) → i < l.q → Moved l.initial.z l.b i (get_or l.z i 0))
    × ((i : ℕ) → l.q ≤ i → get_or l.z i 0 ≡ get_or l.initial.z i 0)
