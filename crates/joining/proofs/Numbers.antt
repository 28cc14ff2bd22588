-- The numbers of the rows before the room: each is that of a refusal, and none is 13.
use Rattle.refusal.specs.declared.Refusal.{Refusal}
use Rattle.std.specs.Prelude.{Err}
use Rattle.refusal.specs.declared.Refusal.TheVariants.{ShortOutput, DependentRows}
use mathlib.Core.Path.{◌≡◌, refl, ap}
use mathlib.Core.Bool.{Bool, true, false}
use mathlib.Core.List.{List, [], ◌∷◌, ◌++◌}
use Prim.Native.Nat.{ℕ, ◌+◌, ◌<◌}
use native.Mathlib.Omega.{arith}
use Rattle.refusal.specs.Answer.{number, first_of, number_of, Done}
use Rattle.field.specs.declared.Level.{Level}
use Rattle.key.specs.declared.Key.{Key}
use Rattle.layout.specs.declared.Row.{Row}
use Rattle.layout.specs.declared.Kind.{Kind}
use Rattle.layout.specs.declared.Kind.TheVariants.{Sizes, Elements, Target, Serial, Bits, Coordinates}
use Rattle.layout.specs.Layout.{serial_row, proof_rows, key_segment, leans, key_tests}
use Rattle.layout.specs.Tests.{key_of, value_tests, row_tests, tests, after}
use Rattle.bundle.specs.Bundle.{group_at, serial_tests, group_tests, groups_tests, starts, bundle_tests}
use Rattle.joining.specs.Entry.{join_checks}

-- a number of a refusal that is not 13
pub record Other (k : ℕ) : Type 0 where
  pub some : 0 < k
  pub most : k < 255
  pub not-room : k ≡ 13 → ⊥

abbrev pub Others : List (Bool × Refusal) → Type 0
Others [] = Unit {0}
Others ((b, k) ∷ rows) = Other (number k) × Others rows

below : (k : ℕ) → 0 < k → k < 13 → Other k
below k h m = record { some = h; most = omega (arith, m); not-room = λ e. omega (arith, m, e) }

above : (k : ℕ) → 13 < k → k < 255 → Other k
above k h m = record { some = omega (arith, h); most = m; not-room = λ e. omega (arith, h, e) }

append_others : (rows others : List (Bool × Refusal)) → Others rows → Others others → Others (rows ++ others)
append_others [] others f g = g
append_others ((b, k) ∷ rows) others f g = (f.0, append_others rows others f.1 g)

-- the rows of readers
value_others : (l : Level) (kind : Kind) (c : List ℕ) → Others (value_tests l kind c)
value_others l Sizes c = (below _ (omega arith) (omega arith), (below _ (omega arith) (omega arith), (below _ (omega arith) (omega arith), (below _ (omega arith) (omega arith), tt))))
value_others l Elements c = (below _ (omega arith) (omega arith), tt)
value_others l Target c = (below _ (omega arith) (omega arith), (above _ (omega arith) (omega arith), tt))
value_others l Serial c = (above _ (omega arith) (omega arith), tt)
value_others l Bits c = (below _ (omega arith) (omega arith), tt)
value_others l Coordinates c = (below _ (omega arith) (omega arith), tt)

tests_others : (l : Level) (s : List ℕ) (at : ℕ) (rows : List Row) → Others (tests l s at rows)
unfolding tests row_tests
tests_others l s at [] = tt
tests_others l s at (row ∷ rows) =
    append_others (row_tests l s at row) (tests l s (at + 3 + row.len) rows)
    (below _ (omega arith) (omega arith), (below _ (omega arith) (omega arith), (below _ (omega arith) (omega arith), (below _ (omega arith) (omega arith), value_others l row.kind _))))
    (tests_others l s (at + 3 + row.len) rows)

groups_others : (l : Level) (key : Key) (s : List ℕ) (low : ℕ) (starts : List ℕ) → Others (groups_tests l key s low starts)
unfolding groups_tests
groups_others l key s low [] = tt
groups_others l key s low (at ∷ starts) =
    append_others (group_tests l key s low at) (groups_tests l key s ((group_at l key s at).serial + 1) starts)
    (append_others (serial_tests l key s low at) _ (append_others (tests l s at (serial_row s at ∷ [])) _ (tests_others l s at (serial_row s at ∷ [])) (above _ (omega arith) (omega arith), tt)) (tests_others l s (after at (serial_row s at ∷ [])) (proof_rows l key)))
    (groups_others l key s ((group_at l key s at).serial + 1) starts)

bundle_others : (l : Level) (s : List ℕ) → Others (bundle_tests l s)
bundle_others l s =
    append_others (key_tests l s) _
    (append_others (tests l s 0 (key_segment l s)) ((leans l s, DependentRows) ∷ []) (tests_others l s 0 (key_segment l s)) (above _ (omega arith) (omega arith), tt))
    (groups_others l (key_of s) s 0 (starts l s))

-- all rows of a join but the room's
pub checks_others : (l : Level) (s t : List ℕ) → Others (join_checks l s t)
checks_others l s t =
    append_others (bundle_tests l s ++ bundle_tests l t) _
    (append_others (bundle_tests l s) (bundle_tests l t) (bundle_others l s) (bundle_others l t))
    (above _ (omega arith) (omega arith), (above _ (omega arith) (omega arith), tt))

-- where 13 is the answer none of them applies
pub room-left : (rows others : List (Bool × Refusal)) → Others rows → first_of (rows ++ others) ≡ (Err ShortOutput) → first_of rows ≡ Done
room-left [] others f e = refl
room-left ((false, k) ∷ rows) others f e = room-left rows others f.1 e
room-left ((true, k) ∷ rows) others f e = absurd (f.0.not-room (ap number_of e))
