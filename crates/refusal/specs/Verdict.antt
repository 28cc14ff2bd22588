-- What verify answers: a refusal by the rows of the table, or whether its equation holds.
use Rattle.std.specs.Prelude.{Bool, true, false, ℕ, Result, Ok, Err}
use Rattle.refusal.specs.declared.Refusal.{Refusal}
use Rattle.refusal.specs.declared.Verdict.{Verdict}
use Rattle.refusal.specs.declared.Verdict.TheVariants.{Accepted, Rejected}
use Rattle.refusal.specs.Answer.{number, Answer}

-- the number of each answer: "Rejected is no refusal", and its number is none of theirs
abbrev pub verdict_number : Result Verdict Refusal → ℕ
verdict_number (Ok Accepted) = 0
verdict_number (Ok Rejected) = 255
verdict_number (Err r) = number r

-- "answers Accepted or Rejected" by the equation
abbrev pub verdict : Bool → Verdict
verdict true = Accepted
verdict false = Rejected

-- where no row applies, by the equation
abbrev pub judged : Answer → Bool → Result Verdict Refusal
judged (Ok _) holds = Ok (verdict holds)
judged (Err r) holds = Err r
