-- What the functions that read a segment answer, and what finding a field relies on: inner data, no part of an entry's promise.
use Rattle.std.specs.Prelude.{◌≡◌, List, ℕ, length, Result, Ok, Err}
use Rattle.refusal.specs.declared.Refusal.{Refusal}
use Rattle.refusal.specs.Answer.{first_of, Answer, Done}
use Rattle.field.specs.declared.Level.{Level}
use Rattle.layout.specs.declared.Row.{Row}
use Rattle.layout.specs.Tests.{tests, after}

-- where fields end, or their refusal
abbrev pub stepped : Answer → ℕ → Result ℕ Refusal
stepped (Ok _) end = Ok end
stepped (Err r) end = Err r

-- the same for fields from a position on
abbrev pub outcome : Level → List ℕ → ℕ → List Row → Result ℕ Refusal
outcome l s at rows = stepped (first_of (tests l s at rows)) (after at rows)

-- what follows a step: its refusal, or what is answered from its place on
abbrev pub further : Result ℕ Refusal → (ℕ → Result ℕ Refusal) → Result ℕ Refusal
further (Ok at) next = next at
further (Err r) next = Err r

-- rows that refuse nothing of the bytes and end with them
pub record Whole (l : Level) (s : List ℕ) (rows : List Row) : Type 0 where
  pub accepted : first_of (tests l s 0 rows) ≡ Done
  pub ends : after 0 rows ≡ length s
