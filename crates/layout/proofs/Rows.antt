-- Laws of the tests that the readers run, for any rows.
use Rattle.std.specs.Prelude.{Result, Ok, Err}
use Rattle.std.specs.Result.{IsErrAnd}
use mathlib.Core.Path.{◌≡◌, refl, sym, ap, ap₂, ◌∙◌}
use mathlib.Core.Bool.{Bool, false, cond}
use mathlib.Core.List.{List, [], ◌∷◌, ◌++◌, append_assoc}
use Prim.Native.Nat.{ℕ, ◌+◌, ◌-◌, ◌≤◌}
use native.Mathlib.Omega.{arith}
use borrow.Author.Tests.{eq-eqb, le-ltb, ltb-false, eqb-true, not-false}
use lib.Dec.{eqb}
use lib.ListN.{length, get_or}
use Rattle.lists.specs.Words.{part}
use Rattle.refusal.specs.Answer.{first_of, Answer, Done}
use Rattle.refusal.proofs.Answers.{None, after-done, after-refused}
use Rattle.refusal.specs.declared.Refusal.{Refusal}
use Rattle.copying.specs.Words.{word}
use Rattle.field.specs.declared.Level.{Level}
use Rattle.layout.specs.declared.Row.{Row}
use Rattle.layout.specs.Layout.{optional}
use Rattle.layout.specs.Tests.{value_tests, row_tests, tests, after}
use Rattle.layout.specs.Steps.{stepped, outcome, further}

-- none of some tests, and none of others
pub none-append : (xs ys : List (Bool × Refusal)) → None (xs ++ ys) → None xs × None ys
none-append [] ys e = (tt, e)
none-append ((b, k) ∷ xs) ys e = let r = none-append xs ys e.1 in ((e.0, r.0), r.1)

pub none-join : (xs ys : List (Bool × Refusal)) → None xs → None ys → None (xs ++ ys)
none-join [] ys e f = f
none-join ((b, k) ∷ xs) ys e f = (e.0, none-join xs ys e.1 f)

pub none_done : (xs : List (Bool × Refusal)) → None xs → first_of xs ≡ Done
none_done [] e = refl
none_done ((b, k) ∷ xs) e = ap (λ t. first_of ((t, k) ∷ xs)) e.0 ∙ none_done xs e.1

-- what a field that is not refused has
pub record Passed (l : Level) (s : List ℕ) (at : ℕ) (row : Row) : Type 0 where
  pub tag : get_or s at 0 ≡ row.tag
  pub len : word s (at + 1) ≡ row.len
  pub fits : at + 3 + row.len ≤ length s
  pub values : None (value_tests l row.kind (part (at + 3) row.len s))

pub passed : (l : Level) (s : List ℕ) (at : ℕ) (row : Row) → None (row_tests l s at row) → Passed l s at row
unfolding row_tests
passed l s at row e = record {
  tag = eqb-true (get_or s at 0) row.tag (not-false (eqb (get_or s at 0) row.tag) e.1.0);
  len = eqb-true (word s (at + 1)) row.len (not-false (eqb (word s (at + 1)) row.len) e.1.1.0);
  fits = omega (arith, ltb-false (length s - at) 3 e.0, ltb-false (length s - (at + 3)) row.len e.1.1.1.0);
  values = e.1.1.1.1;
}

-- a field that is there is judged by its values
pub row-whole : (l : Level) (s : List ℕ) (at : ℕ) (row : Row) → 3 ≤ length s - at → get_or s at 0 ≡ row.tag → word s (at + 1) ≡ row.len → row.len ≤ length s - (at + 3)
    → first_of (value_tests l row.kind (part (at + 3) row.len s)) ≡ first_of (row_tests l s at row)
unfolding row_tests
row-whole l s at row h t n f = simp (le-ltb _ _ h, eq-eqb _ _ t, eq-eqb _ _ n, le-ltb _ _ f)

-- rows after rows; a test of a whole segment may stand between them
pub tests-append : (l : Level) (s : List ℕ) (at : ℕ) (rows others : List Row) → tests l s at (rows ++ others) ≡ tests l s at rows ++ tests l s (after at rows) others
unfolding tests after
tests-append l s at [] others = refl
tests-append l s at (row ∷ rows) others =
    ap (λ t. row_tests l s at row ++ t) (tests-append l s (at + 3 + row.len) rows others)
    ∙ sym (append_assoc (row_tests l s at row) (tests l s (at + 3 + row.len) rows) (tests l s (after (at + 3 + row.len) rows) others))

pub after-append : (at : ℕ) (rows others : List Row) → after at (rows ++ others) ≡ after (after at rows) others
unfolding after
after-append at [] others = refl
after-append at (row ∷ rows) others = after-append (at + 3 + row.len) rows others

-- a row that is not refused lies within the bytes
pub head_passed : (l : Level) (s : List ℕ) (at : ℕ) (row : Row) (rows : List Row) → None (tests l s at (row ∷ rows)) → Passed l s at row × None (tests l s (at + 3 + row.len) rows)
unfolding tests
head_passed l s at row rows e = let r = none-append (row_tests l s at row) (tests l s (at + 3 + row.len) rows) e in (passed l s at row r.0, r.1)

-- what a step says of the answer behind it
pub step_refused : (a : Answer) (p : ℕ) {r : Refusal} → stepped a p ≡ Err r → a ≡ Err r
step_refused (Ok _) p e = let z : ◌≡◌ {A = ℕ} 0 1 = cc in absurd (omega arith)
step_refused (Err r) p e = cc

pub step_next : (a : Answer) (p : ℕ) {q : ℕ} → stepped a p ≡ Ok q → (a ≡ Done) × (q ≡ p)
step_next (Ok _) p e = (refl, cc)
step_next (Err r) p e = let z : ◌≡◌ {A = ℕ} 0 1 = cc in absurd (omega arith)

-- tests after tests: the first refuse, or the others decide
module _ (xs ys : List (Bool × Refusal)) (p : ℕ) where
  pub first_stops : {r : Refusal} → stepped (first_of xs) p ≡ Err r → Err r ≡ first_of (xs ++ ys)
  first_stops e = let h = step_refused (first_of xs) p e in sym h ∙ after-refused xs ys refl h

  pub first_ends : {at : ℕ} → stepped (first_of xs) p ≡ Ok at → (first_of (xs ++ ys) ≡ first_of ys) × (at ≡ p)
  first_ends e = let h = step_next (first_of xs) p e in (after-done xs ys h.0, h.1)

-- rows after rows, by the step of the first; which they are may depend on the position where they start
module _ (l : Level) (s : List ℕ) (at : ℕ) where
  by_step : (rows : List Row) (others : ℕ → List Row) (r : Result ℕ Refusal) → outcome l s at rows ≡ r → further r (λ p. outcome l s p (others p)) ≡ outcome l s at (rows ++ others (after at rows))
  by_step rows others (Ok p) e =
      let more = others (after at rows) in
      let h = first_ends (tests l s at rows) (tests l s (after at rows) more) (after at rows) e in
      ap (λ q. outcome l s q (others q)) h.1
      ∙ ap₂ (λ (a : Answer) (q : ℕ). stepped a q) (sym h.0 ∙ ap first_of (sym (tests-append l s at rows more))) (sym (after-append at rows more))
  by_step rows others (Err r) e =
      let more = others (after at rows) in
      ap (λ a. stepped a (after at (rows ++ more))) (first_stops (tests l s at rows) (tests l s (after at rows) more) (after at rows) e ∙ ap first_of (sym (tests-append l s at rows more)))

  pub outcome_then : (rows : List Row) (others : ℕ → List Row) {r q : Result ℕ Refusal} → r ≡ outcome l s at rows → q ≡ further r (λ p. outcome l s p (others p)) → q ≡ outcome l s at (rows ++ others (after at rows))
  outcome_then rows others {r} e f = f ∙ by_step rows others r (sym e)

  pub outcome_more : (rows others : List Row) {r q : Result ℕ Refusal} → r ≡ outcome l s at rows → q ≡ further r (λ p. outcome l s p others) → q ≡ outcome l s at (rows ++ others)
  outcome_more rows others e f = outcome_then rows (λ p. others) e f

-- the same where the fields before them end
pub further_more : (l : Level) (s : List ℕ) (rows others : List Row) (p : Result ℕ Refusal) {r q : Result ℕ Refusal} → r ≡ further p (λ at. outcome l s at rows) → q ≡ further r (λ at. outcome l s at others) → q ≡ further p (λ at. outcome l s at (rows ++ others))
further_more l s rows others (Ok at) e f = outcome_more l s at rows others e f
further_more l s rows others (Err k) e f = f ∙ ap (λ r. further r (λ at. outcome l s at others)) e

-- what the exit of a `?` answers
pub exits : {T : Type 0} {q : Result T Refusal} {k : Refusal} → IsErrAnd q (λ x. x ≡ k) → q ≡ Err k
exits {q = Ok x} d = absurd d
exits {q = Err r} d = ap Err d

-- a row and then others, which may depend on the position where they start; r is what reading the row answers
module _ (l : Level) (s : List ℕ) (at : ℕ) (row : Row) (others : ℕ → List Row) {r : Result ℕ Refusal} (e : r ≡ outcome l s at (row ∷ [])) where
  abbrev more : List Row
  more = others (at + 3 + row.len)

  -- the row refuses
  pub row_then_stop : {k : Refusal} {q : Result ℕ Refusal} → r ≡ Err k → IsErrAnd q (λ x. x ≡ k) → q ≡ outcome l s at (row ∷ more)
  unfolding after
  row_then_stop h d =
      let stop = first_stops (tests l s at (row ∷ [])) (tests l s (at + 3 + row.len) more) (at + 3 + row.len) (sym e ∙ h) in
      exits d ∙ ap (λ a. stepped a (after at (row ∷ more))) (stop ∙ ap first_of (sym (tests-append l s at (row ∷ []) more)))

  -- or the others decide
  pub row_then_go : {p : ℕ} → r ≡ Ok p → outcome l s p (others p) ≡ outcome l s at (row ∷ more)
  unfolding after
  row_then_go h =
      let go = first_ends (tests l s at (row ∷ [])) (tests l s (at + 3 + row.len) more) (at + 3 + row.len) (sym e ∙ h) in
      ap (λ q. outcome l s q (others q)) go.1
      ∙ ap (λ a. stepped a (after at (row ∷ more))) (sym go.0 ∙ ap first_of (sym (tests-append l s at (row ∷ []) more)))

-- one row, by its answer
module _ (l : Level) (s : List ℕ) (at : ℕ) (row : Row) where
  pub row_stops : {r : Refusal} → Err r ≡ first_of (row_tests l s at row) → Err r ≡ outcome l s at (row ∷ [])
  unfolding tests after
  row_stops e = ap (λ a. stepped a (at + 3 + row.len)) (after-refused (row_tests l s at row) [] e refl)

  pub row_ends : first_of (row_tests l s at row) ≡ Done → Ok (at + 3 + row.len) ≡ outcome l s at (row ∷ [])
  unfolding tests after
  row_ends e = ap (λ a. stepped a (at + 3 + row.len)) (sym (after-done (row_tests l s at row) [] e))

  -- a row that may be absent, where the byte there is not its tag
  pub row_absent : {b : Bool} → b ≡ eqb (get_or s at 0) row.tag → b ≡ false → Ok at ≡ outcome l s at (optional s at row)
  unfolding tests after
  row_absent e h = ap (λ t. outcome l s at (cond t (row ∷ []) [])) (sym h ∙ e)
