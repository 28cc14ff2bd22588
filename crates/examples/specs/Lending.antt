-- What a caller is told that looks before it joins, and lends no more than is needed.
use Rattle.std.specs.Prelude.{◌≡◌, List, ℕ, Ok, Err}
use Rattle.field.specs.declared.Level.{Level}
use Rattle.refusal.specs.declared.Refusal.TheVariants.{ShortOutput}
use Rattle.refusal.specs.Answer.{number_of}
use Rattle.joining.specs.declared.Size.{Size}
use Rattle.joining.specs.Entry.{join_answer, join_outcome}
use Rattle.examples.specs.declared.Lent.{Lent}
use Rattle.examples.specs.declared.Lent.TheVariants.{Joined, Short}

-- what a join with all of out answers and leaves there: an answer is never 13, and that is told apart, with the length of the joined bundle, which an
-- output of exactly so many bytes holds
abbrev pub LentExactly : (l : Level) (first second out left : List ℕ) → Lent → Type 0
LentExactly l first second out left (Joined answer) = (number_of answer ≡ 13 → ⊥) × ((answer, left) ≡ join_outcome l first second out)
LentExactly l first second out left (Short needed) =
    ((Err ShortOutput, left) ≡ join_outcome l first second out) × ((size : Size) × (size.length ≡ needed) × (join_answer l first second needed ≡ Ok size))
