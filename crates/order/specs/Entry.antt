-- What the entry quick_look answers.
use Rattle.refusal.specs.declared.Refusal.{Refusal}
use Rattle.refusal.specs.declared.Refusal.TheVariants.{SliceLength}
use Rattle.std.specs.Prelude.{Result, Ok, Err, Option, Some, None, Bool, true, false, not, cond, ◌||◌, List, [], ◌∷◌, ◌++◌, ℕ, zero, suc, ltb, eqb}
use Rattle.lists.specs.Lent.{long}
use Rattle.lists.specs.Count.{count}
use Rattle.refusal.specs.Answer.{number, first_of, Answer}
use Rattle.field.specs.declared.Level.{Level}
use Rattle.key.specs.declared.Code.{Code}
use Rattle.key.specs.declared.Code.TheVariants.{Column, Spare, TooLarge}
use Rattle.key.specs.Key.{size_n, code_of}
use Rattle.constraints.specs.Slices.{position_at}

-- the number of each answer: 0 "that all is well", 255, which no refusal has, with "its index", else the paper's number of the refusal
abbrev pub number_of : Result (Option ℕ) Refusal → ℕ
number_of (Ok None) = 0
number_of (Ok (Some i)) = 255
number_of (Err q) = number q

-- "no column": a spare code, or too large
abbrev pub no_column : Code → Bool
no_column Column = false
no_column Spare = true
no_column TooLarge = true

-- "came before": a position j is among the first i
abbrev pub among : (positions : List ℕ) (i j : ℕ) → Bool
among positions i j = ltb 0 (count i (λ h. eqb (position_at positions h) j))

-- position i is "one that is no column or came before"
unfoldable pub offends : (n : ℕ) (positions : List ℕ) → ℕ → Bool
offends n positions i = no_column (code_of n (position_at positions i)) || among positions i (position_at positions i)

-- of the k indices from i on the first that passes the test, i + k where none does
unfoldable pub first_from : (ℕ → Bool) → (i k : ℕ) → ℕ
first_from test i zero = i
first_from test i (suc k) = cond (test i) i (first_from test (suc i) k)

-- "the first offender over the whole list": its index, n where there is none
abbrev pub first_offender : (n : ℕ) (positions : List ℕ) → ℕ
first_offender n positions = first_from (offends n positions) 0 n

-- "its index, or that all is well"
abbrev pub looked_at : (n index : ℕ) → Option ℕ
looked_at n index = cond (ltb index n) (Some index) None

-- or the refusal
abbrev pub looked_as : Answer → Option ℕ → Result (Option ℕ) Refusal
looked_as (Ok _) looked = Ok looked
looked_as (Err q) looked = Err q

-- "Refusals 1 and 3 apply here, in that order"
abbrev pub look_rows : Level → (n : ℕ) (positions : List ℕ) → List (Bool × Refusal)
look_rows l n positions = size_n l n ++ ((not (long ((positions, n) ∷ [])), SliceLength) ∷ [])

unfoldable pub look_outcome : Level → (n : ℕ) (positions : List ℕ) → Result (Option ℕ) Refusal
look_outcome l n positions = looked_as (first_of (look_rows l n positions)) (looked_at n (first_offender n positions))
