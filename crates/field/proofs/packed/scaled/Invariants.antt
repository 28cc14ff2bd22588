use mathlib.Core.List.{List}
use mathlib.Core.Path.{◌≡◌}
use Prim.Native.Nat.{ℕ, ◌+◌, ◌*◌, ◌^◌, ◌≤◌, ◌<◌}
use lib.ListN.{length, get_or}
use Rattle.field.specs.Packed.{lane, Tabulates, room}
use Rattle.field.specs.Word.{small, words}
use Rattle.field.specs.Level.{embed, level_at, K}
use Rattle.field.specs.declared.Level.{Level}
use Rattle.field.proofs.packed.scaled.Given as goal

-- v is word i of f times the factor of the table
abbrev pub Scaled : Level → List ℕ → ℕ → ℕ → ℕ → Type 0
Scaled l table f i v = (x : (K l).Carrier) → f < 2 ^ l.width → Tabulates l table x → (j : ℕ) → j < 4 → 4 * i + j < l.coordinates → lane v j ≡ get_or (words l ((K l).mul ((embed l).map (small l f)) x)) (4 * i + j) 0

abbrev pub invariant-loop-q : goal.invariant-loop-q
invariant-loop-q l = (l.q ≤ l.w) × (l.w ≡ room (level_at l.level)) × (length l.z ≡ length l.initial.z) × ((i : ℕ) → i < l.q → Scaled (level_at l.level) l.table l.f i (get_or l.z i 0))
