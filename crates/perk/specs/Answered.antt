-- Answers that come with a number, as the C interface gives them.
use Rattle.std.specs.Prelude.{List, ℕ, Option, Some, None, Result, Ok, Err}
use Rattle.refusal.specs.declared.Refusal.{Refusal}
use Rattle.refusal.specs.Answer.{number}
use Rattle.joining.specs.declared.Size.{Size}

-- the number of an answer, and the rank or the length; on a refusal what was there before
abbrev pub found_or : Result ℕ Refusal → ℕ → ℕ × ℕ
found_or (Ok r) old = (0, r)
found_or (Err q) old = (number q, old)

-- the same with the index of an offender; what was there before stays where all is well, too
abbrev pub index_or : Result (Option ℕ) Refusal → ℕ → ℕ × ℕ
index_or (Ok None) old = (0, old)
index_or (Ok (Some i)) old = (255, i)
index_or (Err q) old = (number q, old)

-- the same with the length and the number of groups
abbrev pub size_or : Result Size Refusal → ℕ × ℕ → ℕ × (ℕ × ℕ)
size_or (Ok s) old = (0, (s.length, s.groups))
size_or (Err q) old = (number q, old)

-- of an outcome: the number, and what is left in the output and where the rank, the length or the size goes
abbrev pub answered : {A B : Type 0} → (A → B → ℕ × B) → A × List ℕ → B → ℕ × (List ℕ × B)
answered or o old = ((or o.0 old).0, (o.1, (or o.0 old).1))
