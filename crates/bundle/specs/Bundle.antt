-- Bundles of any bytes: where their groups start, the tests of each, and what they say. "A bundle has the key fields once, then one or more
-- groups of 05, 06, 07 with serials strictly rising."
use Rattle.refusal.specs.declared.Refusal.{Refusal}
use Rattle.refusal.specs.declared.Refusal.TheVariants.{SerialOrder}
use Rattle.std.specs.Prelude.{Bool, cond, List, [], ◌∷◌, ◌++◌, map, ℕ, zero, suc, ◌+◌, ltb, length}
use Rattle.lists.specs.Words.{part}
use Rattle.field.specs.declared.Level.{Level}
use Rattle.key.specs.declared.Key.{Key}
use Rattle.layout.specs.declared.Row.{Row}
use Rattle.layout.specs.Layout.{serial_row, proof_rows, group_rows, key_segment, key_end, key_tests}
use Rattle.layout.specs.Tests.{key_of, tests, after, part_of}
use Rattle.package.specs.Written.{KeyData, Group}
use Rattle.package.specs.Said.{key_said, group_said}

-- the content of the field with a tag, among fields from a position on
abbrev pub content_at : List ℕ → ℕ → List Row → (tag : ℕ) → List ℕ
content_at s at rows tag = let p = part_of tag at rows in part p.start p.len s

module _ (l : Level) (key : Key) (s : List ℕ) where
  -- what the group at a position says, and where it ends
  abbrev pub group_at : ℕ → Group
  group_at at = group_said (content_at s at (group_rows l key s at))

  abbrev pub group_end : ℕ → ℕ
  group_end at = after at (group_rows l key s at)

  -- "After a group the bundle ends or the next tag is 05": where groups start, k of them at most, the first at a position
  unfoldable pub starts_from : (k at : ℕ) → List ℕ
  starts_from zero at = []
  starts_from (suc k) at = at ∷ cond (ltb (group_end at) (length s)) (starts_from k (group_end at)) []

  -- field 05: P1 to P5, and 20 "when a group's serial isn't above the one before, at the place of values of that field": when it is below low,
  -- which is one more than the serial before, and 0 in the first group
  abbrev pub serial_tests : (low at : ℕ) → List (Bool × Refusal)
  serial_tests low at = tests l s at (serial_row s at ∷ []) ++ (ltb (group_at at).serial low, SerialOrder) ∷ []

  -- then those of fields 06 and 07
  abbrev pub group_tests : (low at : ℕ) → List (Bool × Refusal)
  group_tests low at = serial_tests low at ++ tests l s (after at (serial_row s at ∷ [])) (proof_rows l key)

  -- for each group in turn
  unfoldable pub groups_tests : (low : ℕ) (starts : List ℕ) → List (Bool × Refusal)
  groups_tests low [] = []
  groups_tests low (at ∷ starts) = group_tests low at ++ groups_tests ((group_at at).serial + 1) starts

module _ (l : Level) (s : List ℕ) where
  -- where the groups of a bundle start, the first after the key fields: one more than there are bytes at most, since each has bytes
  abbrev pub starts : List ℕ
  starts = starts_from l (key_of s) s (suc (length s)) (key_end l s)

  -- the key fields as in a package, then each group
  abbrev pub bundle_tests : List (Bool × Refusal)
  bundle_tests = key_tests l s ++ groups_tests l (key_of s) s 0 starts

  -- what its key fields and its groups say
  abbrev pub key_data_of : KeyData
  key_data_of = key_said (content_at s 0 (key_segment l s)) (key_of s)

  abbrev pub groups_of : List Group
  groups_of = map (group_at l (key_of s) s) starts
