-- Looks as the definitions answer them, beside what the specification states, as one statement over a list.
use mathlib.Core.Path.{◌≡◌, refl}
use mathlib.Core.List.{List, [], ◌∷◌, map}
use Prim.Native.Nat.{ℕ}
use lib.Count.{count_leading_zeros}
use Rattle.lists.specs.Count.{count}
use Rattle.field.specs.Level.{FIRST, level_at}
use Rattle.key.specs.Key.{degree, code_of}
use Rattle.std.specs.Prelude.{Result, Ok, Err, Option, Some, None}
use Rattle.refusal.specs.declared.Refusal.{Refusal}
use Rattle.refusal.specs.declared.Refusal.TheVariants.{SizeN, SliceLength}
use Rattle.order.specs.Entry.{offends, first_from, look_outcome}

abbrev Looked : Type 0
Looked = Result (Option ℕ) Refusal

abbrev look : (n : ℕ) (positions : List ℕ) → Looked
look n positions = look_outcome (level_at FIRST) n positions

pub cases : List (Looked × Looked)
cases =
    -- orders
    (look 3 (2 ∷ 0 ∷ 1 ∷ []), Ok None)
    ∷ (look 2 (0 ∷ 1 ∷ []), Ok None)
    ∷ (look 5 (4 ∷ 0 ∷ 2 ∷ 1 ∷ 3 ∷ []), Ok None)
    -- came before; a spare code; too large
    ∷ (look 3 (2 ∷ 0 ∷ 2 ∷ []), Ok (Some 2))
    ∷ (look 3 (2 ∷ 3 ∷ 0 ∷ []), Ok (Some 1))
    ∷ (look 3 (2 ∷ 0 ∷ 5 ∷ []), Ok (Some 2))
    ∷ (look 2 (1 ∷ 1 ∷ []), Ok (Some 1))
    ∷ (look 2 (2 ∷ 0 ∷ []), Ok (Some 0))
    -- the first of two
    ∷ (look 5 (4 ∷ 0 ∷ 6 ∷ 0 ∷ 3 ∷ []), Ok (Some 2))
    ∷ (look 5 (4 ∷ 0 ∷ 4 ∷ 8 ∷ 3 ∷ []), Ok (Some 2))
    -- n, then the length
    ∷ (look 1 (0 ∷ []), Err SizeN)
    ∷ (look 65 [], Err SizeN)
    ∷ (look 3 (2 ∷ 0 ∷ []), Err SliceLength)
    ∷ (look 3 (2 ∷ 2 ∷ 5 ∷ 5 ∷ []), Err SliceLength)
    ∷ []

pub examples : map (λ (c : Looked × Looked). c.0) cases ≡ map (λ (c : Looked × Looked). c.1) cases
unfolding cases look_outcome offends first_from count code_of degree count_leading_zeros level_at
examples = refl
