-- What an entry answers, by the rows of the specification's table of refusals.
use Rattle.std.specs.Prelude.{Bool, true, false, List, [], ◌∷◌, ℕ, ltb, Result, Ok, Err}
use Rattle.refusal.specs.declared.Refusal.{Refusal}
use Rattle.refusal.specs.declared.Refusal.TheVariants.{SizeN, SizeM, SliceLength, KeyElement, Bit, Coordinate, Position, Top, BytesMissing, Tag, FieldLength, BytesFollow, ShortOutput, ZeroTarget, DependentRows, SpareCode, LongSerial, SerialOrder, OtherKey, GroupsDiffer}

-- the paper's number of each refusal
abbrev pub number : Refusal → ℕ
number SizeN = 1
number SizeM = 2
number SliceLength = 3
number KeyElement = 4
number Bit = 5
number Coordinate = 6
number Position = 7
number Top = 8
number BytesMissing = 9
number Tag = 10
number FieldLength = 11
number BytesFollow = 12
number ShortOutput = 13
number ZeroTarget = 14
number DependentRows = 15
number SpareCode = 16
number LongSerial = 19
number SerialOrder = 20
number OtherKey = 21
number GroupsDiffer = 22

-- what an entry that writes its results answers
abbrev pub Answer : Type 0
Answer = Result (Unit {0}) Refusal

-- done, which is no refusal
abbrev pub Done : Answer
Done = Ok tt

-- the paper's number of each answer: 0 is no refusal
abbrev pub number_of : {A : Type 0} → Result A Refusal → ℕ
number_of (Ok _) = 0
number_of (Err r) = number r

-- "Places run from the top down, and within a place the lower number comes first": the rows that concern an entry in
-- this order, whether each applies, with its refusal. The first that applies refuses.
abbrev pub first_of : List (Bool × Refusal) → Answer
first_of [] = Done
first_of ((false, r) ∷ rows) = first_of rows
first_of ((true, r) ∷ rows) = Err r

-- 13, an "output slice is shorter than" what is to be written: it has fewer bytes than are needed
abbrev pub room_row : (needed room : ℕ) → List (Bool × Refusal)
room_row needed room = (ltb room needed, ShortOutput) ∷ []

-- "every output slice then holds what it held before": old, or the result where no row applies
abbrev pub written : {A : Type 0} → Answer → A → A → A
written (Ok _) result old = result
written (Err r) result old = old

abbrev pub decided : {A : Type 0} → List (Bool × Refusal) → A → A → Answer × A
decided rows result old = (first_of rows, written (first_of rows) result old)

-- an outcome with the answer's number for the answer
abbrev pub numbered : {A : Type 0} → Answer × A → ℕ × A
numbered o = (number_of o.0, o.1)
