-- What prove's answer says of the positions.
use Rattle.std.specs.Prelude.{◌≡◌, ◌↔◌, List, ℕ, ◌<◌}
use Rattle.refusal.specs.Answer.{first_of, Done}
use Rattle.field.specs.declared.Level.{Level}
use Rattle.key.specs.declared.Key.{Key}
use Rattle.key.specs.declared.Code.TheVariants.{Spare}
use Rattle.key.specs.Key.{KeySlices, code_of}
use Rattle.constraints.specs.Order.{Order, Solves}
use Rattle.constraints.specs.Slices.{key_of, position_at}
use Rattle.prover.specs.Entry.{rows_to7, prove_rows}

-- the positions solve the key: they "are the numbers 0 to n - 1, each once, and H times the vector x in that order is" y
abbrev pub SolvesKey : (l : Level) (key : Key) (lent : KeySlices) (positions : List ℕ) → Type 0
SolvesKey l key lent positions = Order key.n (position_at positions) × Solves (key_of l key.n key.m lent) (position_at positions)

-- one of the n positions is a spare code
abbrev pub HasSpare : (n : ℕ) (positions : List ℕ) → Type 0
HasSpare n positions = (i : ℕ) × (i < n) × (code_of n (position_at positions i) ≡ Spare)

-- past refusals 1 to 7, 15 and 16 prove is done exactly when they do, and answers 8 exactly when they do not; past 1 to 7 and 15 it answers 16
-- exactly when a position is a spare code. Each function says how its answer tells the three.
pub record Solved (l : Level) (key : Key) (lent : KeySlices) (positions u v r s α t a : List ℕ) (IsDone IsEight IsSixteen : Type 0) : Type 0 where
  pub done : IsDone ↔ ((first_of (prove_rows l key lent positions u v r s α t a) ≡ Done) × SolvesKey l key lent positions)
  pub eight : IsEight ↔ ((first_of (prove_rows l key lent positions u v r s α t a) ≡ Done) × (SolvesKey l key lent positions → ⊥))
  pub sixteen : IsSixteen ↔ ((first_of (rows_to7 l key lent positions u v r s α t a) ≡ Done) × HasSpare key.n positions)

-- spare codes never solve: so 16 turns down no positions that do
abbrev pub SpareNeverSolves : Level → Type 0
SpareNeverSolves l = (key : Key) (lent : KeySlices) (positions : List ℕ) → HasSpare key.n positions → SolvesKey l key lent positions → ⊥
