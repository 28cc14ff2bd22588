-- What the entries sum and product answer and write.
use Rattle.refusal.specs.declared.Refusal.{Refusal}
use Rattle.refusal.specs.declared.Refusal.TheVariants.{SliceLength, Coordinate}
use Rattle.std.specs.Prelude.{Bool, not, List, [], ◌∷◌, ℕ, eqb, length}
use Rattle.refusal.specs.Answer.{decided, Answer}
use Rattle.field.specs.Level.{first, K}
use Rattle.field.specs.Word.{element, words, within}

-- one element: "twelve 16-bit words"
abbrev pub long : List ℕ → Bool
long s = eqb (length s) first.coordinates

-- their refusals, in order
abbrev pub rows : (a b out : List ℕ) → List (Bool × Refusal)
rows a b out =
    (not (long a), SliceLength)
    ∷ (not (long b), SliceLength)
    ∷ (not (long out), SliceLength)
    ∷ (not (within first a), Coordinate)
    ∷ (not (within first b), Coordinate)
    ∷ []

-- "sum and product in K (two elements lent, the result written)"
unfoldable pub sum_outcome : (a b out : List ℕ) → Answer × List ℕ
sum_outcome a b out = decided (rows a b out) (words first ((K first).add (element first a) (element first b))) out

unfoldable pub product_outcome : (a b out : List ℕ) → Answer × List ℕ
product_outcome a b out = decided (rows a b out) (words first ((K first).mul (element first a) (element first b))) out
