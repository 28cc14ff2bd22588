use mathlib.Core.Path.{◌≡◌}
use mathlib.Core.List.{List}
use Prim.Native.Nat.{ℕ, ◌+◌, ◌*◌, ◌≤◌, ◌<◌}
use lib.ListN.{length, get_or, drop}
use lib.Bits.{bit_xor}
use Rattle.field.specs.Packed.{lane, Holds, room}
use Rattle.field.specs.Word.{small, words}
use Rattle.field.specs.Level.{embed, level_at, K}
use Rattle.field.specs.declared.Level.{Level}
use Rattle.field.proofs.packed.next.Given as goal

-- v is word i of z times the element of sum, plus that of a part
abbrev pub Next : Level → List ℕ → List ℕ → ℕ → ℕ → Type 0
Next l sum part i v = (x : (K l).Carrier) → Holds l sum x → (j : ℕ) → j < 4 → 4 * i + j < l.coordinates → lane v j ≡ bit_xor (lane (get_or part i 0) j) (get_or (words l ((K l).mul ((embed l).map (small l 2)) x)) (4 * i + j) 0)

abbrev pub invariant-loop-q : goal.invariant-loop-q
invariant-loop-q l = (l.q ≤ l.w) × (l.w ≡ room (level_at l.level)) × (length l.sum ≡ length l.initial.sum)
    × ((i : ℕ) → i < l.q → Next (level_at l.level) l.initial.sum (drop l.at l.parts) i (get_or l.sum i 0)) × ((i : ℕ) → l.q ≤ i → get_or l.sum i 0 ≡ get_or l.initial.sum i 0)
