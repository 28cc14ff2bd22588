-- What a look before the join tells, of the definitions.
use Rattle.std.specs.Prelude.{Err, Ok, Result}
use Rattle.refusal.specs.declared.Refusal.TheVariants.{SizeN, SizeM, SliceLength, KeyElement, Bit, Coordinate, Position, Top, BytesMissing, Tag, FieldLength, BytesFollow, ShortOutput, ZeroTarget, DependentRows, SpareCode, LongSerial, SerialOrder, OtherKey, GroupsDiffer}
use mathlib.Core.Path.{◌≡◌, refl, sym, ap, ◌∙◌}
use mathlib.Core.Bool.{Bool, true, false, cond}
use mathlib.Core.List.{List, [], ◌∷◌, ◌++◌}
use Prim.Native.Nat.{ℕ, ◌+◌, ◌≤◌, ◌<◌}
use native.Mathlib.Omega.{arith}
use borrow.Author.Tests.{ltb-true}
use lib.Dec.{ltb}
use lib.ListN.{length, drop}
use Rattle.copying.specs.Words.{Bytes}
use Rattle.refusal.specs.Answer.{Done, number, number_of, first_of, room_row, Answer}
use Rattle.refusal.specs.declared.Refusal.{Refusal}
use Rattle.refusal.proofs.Answers.{after-done, after-refused, both_done}
use Rattle.field.specs.Level.{FIRST, level_at}
use Rattle.package.specs.Written.{Group}
use Rattle.bundle.specs.Bundle.{bundle_tests, groups_of}
use Rattle.bundle.specs.Written.{written}
use Rattle.joining.specs.declared.Size.{Size}
use Rattle.joining.specs.declared.Plan.{Plan}
use Rattle.joining.specs.Union.{insert, union}
use Rattle.joining.specs.Entry.{size_as, joined_bundle, join_checks, join_rows, join_answer, join_outcome}
use Rattle.joining.specs.Laws.{LookLaws}
use Rattle.joining.specs.Steps.{planned}
use Rattle.joining.proofs.Count.{weight, size, weight-size}
use Rattle.joining.proofs.Outcome.{size_of, joined-size, size_same, plan_refused, plan_fits, outcome-refused, outcome-done}
use Rattle.joining.proofs.Numbers.{checks_others, room-left}

-- which answer a size or a refusal comes from
size_from : (a : Answer) (n g : ℕ) {z : Size} → size_as a n g ≡ Ok z → (a ≡ Done) × (z ≡ record { length = n; groups = g })
size_from (Ok _) n g e = (refl, sym (size_same e))
size_from (Err r) n g e = let z : ◌≡◌ {A = ℕ} 0 1 = cc in absurd (omega arith)

refused_from : (a : Answer) (n g : ℕ) {k : Refusal} → size_as a n g ≡ Err k → a ≡ Err k
refused_from (Ok _) n g e = let z : ◌≡◌ {A = ℕ} 0 1 = cc in absurd (omega arith)
refused_from (Err r) n g e = cc

-- the refusal with 13
room_number : (r : Refusal) → number r ≡ 13 → r ≡ ShortOutput
room_number SizeN e = absurd (omega (arith, e))
room_number SizeM e = absurd (omega (arith, e))
room_number SliceLength e = absurd (omega (arith, e))
room_number KeyElement e = absurd (omega (arith, e))
room_number Bit e = absurd (omega (arith, e))
room_number Coordinate e = absurd (omega (arith, e))
room_number Position e = absurd (omega (arith, e))
room_number Top e = absurd (omega (arith, e))
room_number BytesMissing e = absurd (omega (arith, e))
room_number Tag e = absurd (omega (arith, e))
room_number FieldLength e = absurd (omega (arith, e))
room_number BytesFollow e = absurd (omega (arith, e))
room_number ShortOutput e = refl
room_number ZeroTarget e = absurd (omega (arith, e))
room_number DependentRows e = absurd (omega (arith, e))
room_number SpareCode e = absurd (omega (arith, e))
room_number LongSerial e = absurd (omega (arith, e))
room_number SerialOrder e = absurd (omega (arith, e))
room_number OtherKey e = absurd (omega (arith, e))
room_number GroupsDiffer e = absurd (omega (arith, e))

number_from : (a : Answer) (n g : ℕ) → number_of (size_as a n g) ≡ 13 → a ≡ (Err ShortOutput)
number_from (Ok _) n g e = absurd (omega (arith, e))
number_from (Err r) n g e = ap Err (room_number r e)

-- the last row alone
by_room : (b : Bool) (n g : ℕ) → size_as (first_of ((b, ShortOutput) ∷ [])) n g ≡ cond b (Err ShortOutput) (Ok (record { length = n; groups = g }))
by_room true n g = refl
by_room false n g = refl

row_number : (b : Bool) {k : Refusal} → first_of ((b, ShortOutput) ∷ []) ≡ Err k → number k ≡ 13
row_number true e = ap number_of (sym e)
row_number false e = let z : ◌≡◌ {A = ℕ} 0 1 = cc in absurd (omega arith)

row-true : (b : Bool) → first_of ((b, ShortOutput) ∷ []) ≡ (Err ShortOutput) → b ≡ true
row-true true e = refl
row-true false e = let z : ◌≡◌ {A = ℕ} 0 1 = cc in absurd (omega arith)

module _ (s t : List ℕ) where
  -- the length and the number of groups of the joined bundle
  abbrev N : ℕ
  N = length (written (joined_bundle (level_at FIRST) s t))

  abbrev G : ℕ
  G = length (joined_bundle (level_at FIRST) s t).groups

  abbrev C : List (Bool × Refusal)
  C = join_checks (level_at FIRST) s t

  told : (room : ℕ) (size : Size) → join_answer (level_at FIRST) s t room ≡ Ok size → (other : ℕ) → join_answer (level_at FIRST) s t other ≡ cond (ltb other size.length) (Err ShortOutput) (Ok size)
  told room size e other =
      let d = size_from (first_of (join_rows (level_at FIRST) s t room)) N G e in
      let done = (both_done C (room_row N room) d.0).0 in
      ap (λ a. size_as a N G) (after-done C (room_row N other) done) ∙ by_room (ltb other N) N G
      ∙ ap (λ (z : Size). cond (ltb other z.length) (Err ShortOutput) (Ok z)) (sym d.1)

  refused : (room : ℕ) (k : Refusal) → join_answer (level_at FIRST) s t room ≡ Err k → (number k ≡ 13 → ⊥) → (other : ℕ) → join_answer (level_at FIRST) s t other ≡ Err k
  refused room k e f other = go (first_of C) refl
    where
      given : first_of (C ++ room_row N room) ≡ Err k
      given = refused_from (first_of (join_rows (level_at FIRST) s t room)) N G e

      go : (x : Answer) → first_of C ≡ x → join_answer (level_at FIRST) s t other ≡ Err k
      go (Ok _) d = absurd (f (row_number (ltb room N) (sym (after-done C (room_row N room) d) ∙ given)))
      go (Err j) d = ap (λ a. size_as a N G) (sym (after-refused C (room_row N other) refl d) ∙ after-refused C (room_row N room) refl d ∙ given)

-- joined groups weigh no more than both
insert-weight : (w : Group → ℕ) (g : Group) (gs : List Group) → weight w (insert g gs) ≤ w g + weight w gs
unfolding insert weight
insert-weight w g [] = omega arith
insert-weight w g (h ∷ gs) = pick (ltb g.serial h.serial) (ltb h.serial g.serial) (insert-weight w g gs)
  where
    pick : (p q : Bool) → weight w (insert g gs) ≤ w g + weight w gs → weight w (cond p (g ∷ h ∷ gs) (cond q (h ∷ insert g gs) (h ∷ gs))) ≤ w g + weight w (h ∷ gs)
    pick true q later = omega arith
    pick false true later = omega (arith, later)
    pick false false later = omega arith

union-weight : (w : Group → ℕ) (xs ys : List Group) → weight w (union xs ys) ≤ weight w xs + weight w ys
unfolding union weight
union-weight w [] ys = omega arith
union-weight w (x ∷ xs) ys = omega (arith, insert-weight w x (union xs ys), union-weight w xs ys)

enough : (s t : List ℕ) → Bytes s → Bytes t → (room : ℕ) → number_of (join_answer (level_at FIRST) s t room) ≡ 13 → room < length s + length t
enough s t b c room e =
    let l = level_at FIRST in
    let X = groups_of l s in
    let Y = groups_of l t in
    let is = number_from (first_of (join_rows l s t room)) (N s t) (G s t) e in
    let done = room-left (C s t) (room_row (N s t) room) (checks_others l s t) is in
    let short : room < N s t = ltb-true room (N s t) (row-true (ltb room (N s t)) (sym (after-done (C s t) (room_row (N s t) room) done) ∙ is)) in
    let two = both_done (bundle_tests l s) (bundle_tests l t) (both_done (bundle_tests l s ++ bundle_tests l t) _ done).0 in
    omega (arith, short, joined-size s t b c two.0 two.1, size_of s b two.0, size_of t c two.1, union-weight size X Y, weight-size X, weight-size Y, weight-size (union X Y))

ahead : (first second out : List ℕ) → join_answer (level_at FIRST) first second (length out) ≡ (join_outcome (level_at FIRST) first second out).0
unfolding join_outcome
ahead first second out = refl

-- what a plan says of the answer
pub answer-refused : (s t : List ℕ) (room : ℕ) {k : Refusal} → planned (level_at FIRST) s t (first_of (join_rows (level_at FIRST) s t room)) ≡ Err k → Err k ≡ join_answer (level_at FIRST) s t room
answer-refused s t room e = ap (λ a. size_as a (N s t) (G s t)) (sym (plan_refused s t (first_of (join_rows (level_at FIRST) s t room)) e))

pub answer-fits : (s t : List ℕ) (room : ℕ) {p : Plan} → planned (level_at FIRST) s t (first_of (join_rows (level_at FIRST) s t room)) ≡ Ok p → Ok p.size ≡ join_answer (level_at FIRST) s t room
answer-fits s t room e =
    let f = plan_fits s t (first_of (join_rows (level_at FIRST) s t room)) e in
    ap (λ (p : Plan). Ok p.size) f.1 ∙ ap (λ a. size_as a (N s t) (G s t)) (sym f.0)

-- it is that of the join with every output of so many bytes
pub as_joined : (s t : List ℕ) (room : ℕ) {r : Result Size Refusal} → r ≡ join_answer (level_at FIRST) s t room → (r ≡ join_answer (level_at FIRST) s t room) × ((out : List ℕ) → length out ≡ room → r ≡ (join_outcome (level_at FIRST) s t out).0)
as_joined s t room e = (e, λ out f. e ∙ ap (join_answer (level_at FIRST) s t) (sym f) ∙ ahead s t out)

-- what is left in the output
pub left-refused : (s t out : List ℕ) {k : Refusal} → join_answer (level_at FIRST) s t (length out) ≡ Err k → (Err k, out) ≡ join_outcome (level_at FIRST) s t out
left-refused s t out e = outcome-refused s t out (refused_from (first_of (join_rows (level_at FIRST) s t (length out))) (N s t) (G s t) e)

pub left-size : (s t out : List ℕ) {size : Size} → join_answer (level_at FIRST) s t (length out) ≡ Ok size → let bytes = written (joined_bundle (level_at FIRST) s t) in
    (size.length ≡ length bytes) × ((Ok size, bytes ++ drop (length bytes) out) ≡ join_outcome (level_at FIRST) s t out)
left-size s t out e =
    let d = size_from (first_of (join_rows (level_at FIRST) s t (length out))) (N s t) (G s t) e in
    (ap (λ (z : Size). z.length) d.1, outcome-done s t out d.0 d.1 refl)

pub look-laws : LookLaws (level_at FIRST)
look-laws = record { ahead = ahead; told = told; refused = refused; enough = enough }
