-- What the entries join_bundles and look_before_join answer, and what the first writes.
use Rattle.refusal.specs.declared.Refusal.{Refusal}
use Rattle.refusal.specs.declared.Refusal.TheVariants.{OtherKey, GroupsDiffer}
use Rattle.std.specs.Prelude.{Bool, not, List, [], ◌∷◌, ◌++◌, ℕ, length, take, drop, Result, Ok, Err}
use Rattle.refusal.specs.Answer.{first_of, room_row, written as kept, Answer}
use Rattle.field.specs.declared.Level.{Level}
use Rattle.layout.specs.Layout.{key_end}
use Rattle.bundle.specs.Bundle.{bundle_tests, key_data_of, groups_of}
use Rattle.bundle.specs.Written.{Bundle, written}
use Rattle.joining.specs.declared.Size.{Size}
use Rattle.joining.specs.Union.{union, same, differ}

-- "The join answers the length and the number of groups", or the refusal
abbrev pub size_as : Answer → (length groups : ℕ) → Result Size Refusal
size_as (Ok _) length groups = Ok (record { length = length; groups = groups })
size_as (Err r) length groups = Err r

module _ (l : Level) where
  -- the bytes of "the key fields"
  abbrev pub key_bytes : List ℕ → List ℕ
  key_bytes s = take (key_end l s) s

  module _ (first second : List ℕ) where
    -- "a join of two bundles of the same key: every group of either, once, in rising serial"
    abbrev pub joined_bundle : Bundle
    joined_bundle = record { key = key_data_of l first; groups = union (groups_of l first) (groups_of l second) }

    -- "The first bundle's refusal comes before the second's"; 21 "when the key fields differ, after both bundles are read", 22 "when groups with
    -- one serial differ in field 06 or 07, after 21"
    abbrev pub join_checks : List (Bool × Refusal)
    join_checks =
        bundle_tests l first ++ bundle_tests l second
        ++ ((not (same (key_bytes first) (key_bytes second)), OtherKey) ∷ (differ (groups_of l first) (groups_of l second), GroupsDiffer) ∷ [])

    -- "13 applies last, to the joined length", for an output of so many bytes
    abbrev pub join_rows : (room : ℕ) → List (Bool × Refusal)
    join_rows room = join_checks ++ room_row (length (written joined_bundle)) room

    -- what both entries answer, for an output of so many bytes: of a look before the join "the answer is the one that the join itself would give"
    abbrev pub join_answer : (room : ℕ) → Result Size Refusal
    join_answer room = size_as (first_of (join_rows room)) (length (written joined_bundle)) (length joined_bundle.groups)

    -- "output bytes beyond that length stay"
    unfoldable pub join_outcome : (out : List ℕ) → Result Size Refusal × List ℕ
    join_outcome out =
        let bytes = written joined_bundle in
        (join_answer (length out), kept (first_of (join_rows (length out))) (bytes ++ drop (length bytes) out) out)
