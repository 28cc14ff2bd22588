-- What a caller is told that looks at the positions before it proves.
use Rattle.refusal.specs.declared.Refusal.TheVariants.{Position, SpareCode}
use Rattle.std.specs.Prelude.{◌≡◌, List, ℕ, Err}
use Rattle.refusal.specs.Answer.{Done}
use Rattle.field.specs.declared.Level.{Level}
use Rattle.key.specs.declared.Key.{Key}
use Rattle.key.specs.Key.{KeySlices}
use Rattle.order.specs.Tells.{IsFirst}
use Rattle.prover.specs.Entry.{prove_outcome}
use Rattle.examples.specs.declared.Driven.{Driven}
use Rattle.examples.specs.declared.Driven.TheVariants.{Proved, Offender, Refused}

-- what prove answers and leaves, which is never 7 or 16; or the first offender, or a refusal, with t and a as they were, and then prove would not be done
abbrev pub LooksFirst : (l : Level) (key : Key) (lent : KeySlices) (positions u v r s α t a : List ℕ) (left : List ℕ × List ℕ) → Driven → Type 0
LooksFirst l key lent positions u v r s α t a left (Proved answer) = ((answer, left) ≡ prove_outcome l key lent positions u v r s α t a) × (answer ≡ Err Position → ⊥) × (answer ≡ Err SpareCode → ⊥)
LooksFirst l key lent positions u v r s α t a left (Offender i) = IsFirst key.n positions i × (left ≡ (t, a)) × ((prove_outcome l key lent positions u v r s α t a).0 ≡ Done → ⊥)
LooksFirst l key lent positions u v r s α t a left (Refused q) = (left ≡ (t, a)) × ((prove_outcome l key lent positions u v r s α t a).0 ≡ Done → ⊥)
