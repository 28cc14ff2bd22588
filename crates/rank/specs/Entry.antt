-- What the entry rank answers and writes.
use Rattle.refusal.specs.declared.Refusal.{Refusal}
use Rattle.refusal.specs.declared.Refusal.TheVariants.{SliceLength, KeyElement}
use Rattle.std.specs.Prelude.{◌↔◌, Result, Ok, Err, Bool, not, List, [], ◌∷◌, ◌++◌, ℕ, ◌≤◌, ◌<◌}
use Rattle.lists.specs.Lent.{long}
use Rattle.refusal.specs.Answer.{number, first_of, written, Answer}
use Rattle.field.specs.declared.Level.{Level}
use Rattle.field.specs.Word.{within}
use Rattle.elimination.specs.Rank.{rank_of, cleared_words, Leaning}
use Rattle.key.specs.declared.Key.{Key}
use Rattle.key.specs.declared.Lengths.{Lengths}
use Rattle.key.specs.Key.{lengths, sizes}

-- the paper's number of each answer: 0 is no refusal, and comes with the rank
abbrev pub number_of : Result ℕ Refusal → ℕ
number_of (Ok r) = 0
number_of (Err q) = number q

-- the rank, or the refusal
abbrev pub ranked_as : Answer → ℕ → Result ℕ Refusal
ranked_as (Ok _) r = Ok r
ranked_as (Err q) r = Err q

-- "it takes n, m and H alone", and "a lent matrix of the same length"
abbrev pub rank_lent : Lengths → (h matrix : List ℕ) → List (List ℕ × ℕ)
rank_lent len h matrix = (h, len.matrix) ∷ (matrix, len.matrix) ∷ []

module _ (l : Level) (key : Key) where
  -- its refusals, in order: "a short rank is no refusal here"
  abbrev pub rank_rows : (h matrix : List ℕ) → List (Bool × Refusal)
  rank_rows h matrix = sizes l key ++ ((not (long (rank_lent (lengths l key) h matrix)), SliceLength) ∷ (not (within l h), KeyElement) ∷ [])

  -- "This entry answers the rank, and the matrix then holds the cleared form; .. refusals 1 to 4 leave the matrix unchanged"
  unfoldable pub rank_outcome : (h matrix : List ℕ) → Result ℕ Refusal × List ℕ
  rank_outcome h matrix = (ranked_as (first_of (rank_rows h matrix)) (rank_of l key.n key.m h), written (first_of (rank_rows h matrix)) (cleared_words l key.n key.m h) matrix)

  -- a rank r that is answered: at most m, and below it exactly when the rows of H lean on each other
  pub record Tells (h : List ℕ) (r : ℕ) : Type 0 where
    pub most : r ≤ key.m
    pub below : (r < key.m) ↔ Leaning l key.n key.m h
