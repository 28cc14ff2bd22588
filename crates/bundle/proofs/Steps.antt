-- What the functions that read groups answer, step by step.
use Rattle.std.specs.Prelude.{Result, Ok, Err}
use Rattle.refusal.specs.declared.Refusal.TheVariants.{SerialOrder}
use mathlib.Core.Path.{◌≡◌, refl, sym, ap, ap₂, ◌∙◌}
use mathlib.Core.Bool.{Bool}
use mathlib.Core.List.{List, [], ◌∷◌, ◌++◌}
use Prim.Native.Nat.{ℕ, suc, ◌+◌, ◌-◌, ◌≤◌, ◌<◌}
use native.Mathlib.Nat.{sub-zero}
use native.Mathlib.Omega.{arith}
use borrow.Author.Tests.{lt-ltb, le-ltb}
use lib.Dec.{ltb}
use lib.ListN.{length}
use Rattle.refusal.specs.Answer.{first_of, Answer, Done}
use Rattle.refusal.specs.declared.Refusal.{Refusal}
use Rattle.refusal.proofs.Answers.{none, pass, stop}
use Rattle.field.specs.Level.{FIRST, level_at}
use Rattle.key.specs.declared.Key.{Key}
use Rattle.layout.specs.Layout.{serial_row, proof_rows}
use Rattle.layout.specs.Tests.{key_of, tests, after}
use Rattle.layout.specs.Steps.{stepped, outcome, further}
use Rattle.layout.proofs.Rows.{step_next, first_stops, first_ends, head_passed, after-append}
use Rattle.bundle.specs.declared.Contents.{Contents}
use Rattle.bundle.specs.declared.Groups.{Groups}
use Rattle.bundle.specs.Bundle.{group_at, group_end, starts_from, serial_tests, group_tests, groups_tests, starts, bundle_tests}
use Rattle.bundle.specs.Reading.{found, read_as, reading}
use Rattle.bundle.proofs.Places.{end-above, group-none}

module _ (key : Key) (s : List ℕ) (low at : ℕ) where
  abbrev serial : List (Bool × Refusal)
  serial = tests (level_at FIRST) s at (serial_row s at ∷ [])

  abbrev end : ℕ
  end = after at (serial_row s at ∷ [])

  -- the serial's field is refused, or lies within the bytes and is below low, or not
  pub serial_stops : {p : Result ℕ Refusal} {r : Refusal} → p ≡ outcome (level_at FIRST) s at (serial_row s at ∷ []) → p ≡ Err r → p ≡ stepped (first_of (serial_tests (level_at FIRST) key s low at)) end
  serial_stops e f = f ∙ ap (λ a. stepped a end) (first_stops serial ((ltb (group_at (level_at FIRST) key s at).serial low, SerialOrder) ∷ []) end (sym e ∙ f))

  pub serial-fits : {p : Result ℕ Refusal} {q : ℕ} → p ≡ outcome (level_at FIRST) s at (serial_row s at ∷ []) → p ≡ Ok q → at + 3 + (serial_row s at).len ≤ length s
  serial-fits e f = (head_passed (level_at FIRST) s at (serial_row s at) [] (none serial (step_next (first_of serial) end (sym e ∙ f)).0)).0.fits

  module _ {p : Result ℕ Refusal} {q : ℕ} (e : p ≡ outcome (level_at FIRST) s at (serial_row s at ∷ [])) (f : p ≡ Ok q) where
    pub serial-below : (group_at (level_at FIRST) key s at).serial < low → Err SerialOrder ≡ stepped (first_of (serial_tests (level_at FIRST) key s low at)) end
    serial-below h =
        let d = first_ends serial ((ltb (group_at (level_at FIRST) key s at).serial low, SerialOrder) ∷ []) end (sym e ∙ f) in
        sym (ap (λ a. stepped a end) (d.0 ∙ stop SerialOrder [] (lt-ltb _ low h)))

    pub serial-passes : low ≤ (group_at (level_at FIRST) key s at).serial → p ≡ stepped (first_of (serial_tests (level_at FIRST) key s low at)) end
    serial-passes h =
        let d = first_ends serial ((ltb (group_at (level_at FIRST) key s at).serial low, SerialOrder) ∷ []) end (sym e ∙ f) in
        f ∙ ap Ok d.1 ∙ sym (ap (λ a. stepped a end) (d.0 ∙ pass SerialOrder [] (le-ltb _ low h)))

  -- t and a after it: the serial's tests refuse the group, or they decide
  module _ {p : Result ℕ Refusal} (e : p ≡ stepped (first_of (serial_tests (level_at FIRST) key s low at)) end) where
    abbrev later : List (Bool × Refusal)
    later = tests (level_at FIRST) s end (proof_rows (level_at FIRST) key)

    pub group-stops : {r : Refusal} → p ≡ Err r → p ≡ stepped (first_of (group_tests (level_at FIRST) key s low at)) (group_end (level_at FIRST) key s at)
    group-stops h = h ∙ ap (λ a. stepped a (group_end (level_at FIRST) key s at)) (first_stops (serial_tests (level_at FIRST) key s low at) later end (sym e ∙ h))

    pub group-goes : {i : ℕ} → p ≡ Ok i → outcome (level_at FIRST) s i (proof_rows (level_at FIRST) key) ≡ stepped (first_of (group_tests (level_at FIRST) key s low at)) (group_end (level_at FIRST) key s at)
    group-goes h =
        let d = first_ends (serial_tests (level_at FIRST) key s low at) later end (sym e ∙ h) in
        ap (λ i. outcome (level_at FIRST) s i (proof_rows (level_at FIRST) key)) d.1
        ∙ ap₂ (λ (a : Answer) (i : ℕ). stepped a i) (sym d.0) (sym (after-append at (serial_row s at ∷ []) (proof_rows (level_at FIRST) key)))

    pub group-further : {q : Result ℕ Refusal} → q ≡ further p (λ i. outcome (level_at FIRST) s i (proof_rows (level_at FIRST) key))
        → q ≡ stepped (first_of (group_tests (level_at FIRST) key s low at)) (group_end (level_at FIRST) key s at)
    group-further {q} f = pick p refl
      where
        pick : (r : Result ℕ Refusal) → p ≡ r → q ≡ stepped (first_of (group_tests (level_at FIRST) key s low at)) (group_end (level_at FIRST) key s at)
        pick (Err r) h = f ∙ ap (λ z. further z (λ i. outcome (level_at FIRST) s i (proof_rows (level_at FIRST) key))) h ∙ sym h ∙ group-stops h
        pick (Ok i) h = f ∙ ap (λ z. further z (λ i. outcome (level_at FIRST) s i (proof_rows (level_at FIRST) key))) h ∙ group-goes h

-- the groups from a position on, by the step of the first
module _ (key : Key) (s : List ℕ) where
  abbrev answer : (k low at : ℕ) → Answer
  answer k low at = first_of (groups_tests (level_at FIRST) key s low (starts_from (level_at FIRST) key s k at))

  abbrev count : (k at : ℕ) → ℕ
  count k at = length (starts_from (level_at FIRST) key s k at)

  module _ (k low at : ℕ) {p : Result ℕ Refusal} (e : p ≡ stepped (first_of (group_tests (level_at FIRST) key s low at)) (group_end (level_at FIRST) key s at)) where
    groups_stop : {r : Refusal} → p ≡ Err r → answer (suc k) low at ≡ Err r
    unfolding starts_from groups_tests
    groups_stop f = sym (first_stops (group_tests (level_at FIRST) key s low at) _ (group_end (level_at FIRST) key s at) (sym e ∙ f))

    module _ {q : ℕ} (f : p ≡ Ok q) where
      abbrev serial_of : ℕ
      serial_of = (group_at (level_at FIRST) key s at).serial

      pub group_ended : q ≡ group_end (level_at FIRST) key s at
      group_ended = (step_next (first_of (group_tests (level_at FIRST) key s low at)) (group_end (level_at FIRST) key s at) (sym e ∙ f)).1

      -- what its tests pass on to
      passed_on : (starts : List ℕ) → first_of (group_tests (level_at FIRST) key s low at ++ groups_tests (level_at FIRST) key s (serial_of + 1) starts) ≡ first_of (groups_tests (level_at FIRST) key s (serial_of + 1) starts)
      passed_on starts = (first_ends (group_tests (level_at FIRST) key s low at) (groups_tests (level_at FIRST) key s (serial_of + 1) starts) (group_end (level_at FIRST) key s at) (sym e ∙ f)).0

      groups-done : length s ≤ q → (answer (suc k) low at ≡ Done) × (count (suc k) at ≡ 1)
      unfolding starts_from groups_tests
      groups-done h = rw (le-ltb (group_end (level_at FIRST) key s at) (length s) (omega (arith, group_ended))) (passed_on [], refl)

      groups-go : q < length s → (answer (suc k) low at ≡ answer k (serial_of + 1) q) × (count (suc k) at ≡ suc (count k q))
      unfolding starts_from groups_tests
      groups-go h = rw (lt-ltb (group_end (level_at FIRST) key s at) (length s) (omega (arith, group_ended)), group_ended) (passed_on (starts_from (level_at FIRST) key s k (group_end (level_at FIRST) key s at)), refl)

      -- its serial lies within the bytes
      pub group-fits : at + 3 + (serial_row s at).len ≤ length s
      group-fits = (head_passed (level_at FIRST) s at (serial_row s at) (proof_rows (level_at FIRST) key) (group-none key s low at (none (group_tests (level_at FIRST) key s low at) (step_next (first_of (group_tests (level_at FIRST) key s low at)) (group_end (level_at FIRST) key s at) (sym e ∙ f)).0)).0).0.fits

  -- so many groups were read from start on, and the next is at a position
  pub record Going (start at low number : ℕ) : Type 0 where
    pub few : number ≤ at
    pub less : number ≤ length s
    pub tests : answer (suc (length s - number)) low at ≡ answer (suc (length s)) 0 start
    pub starts : number + count (suc (length s - number)) at ≡ count (suc (length s)) start

  pub going_first : (start : ℕ) → Going start start 0 0
  going_first start = record { few = omega arith; less = omega arith; tests = ap (λ k. answer (suc k) 0 start) (sub-zero (length s)); starts = omega (arith, ap (λ k. count (suc k) start) (sub-zero (length s))) }

  module _ (start at low number : ℕ) (g : Going start at low number) {p : Result ℕ Refusal} (e : p ≡ stepped (first_of (group_tests (level_at FIRST) key s low at)) (group_end (level_at FIRST) key s at)) where
    pub going_stop : {r : Refusal} → p ≡ Err r → Err r ≡ found (answer (suc (length s)) 0 start) start (count (suc (length s)) start)
    going_stop f = ap (λ a. found a start (count (suc (length s)) start)) (sym (groups_stop (length s - number) low at e f) ∙ g.tests)

    module _ {q : ℕ} (f : p ≡ Ok q) where
      pub going_done : length s ≤ q → Ok (record { start = start; number = number + 1 }) ≡ found (answer (suc (length s)) 0 start) start (count (suc (length s)) start)
      going_done h =
          let d = groups-done (length s - number) low at e f h in
          ap₂ (λ (a : Answer) (n : ℕ). found a start n) (sym d.0 ∙ g.tests) (omega (arith, d.1, g.starts))

      pub going_next : q < length s → {n : ℕ} → n ≡ (group_at (level_at FIRST) key s at).serial → Going start q (n + 1) (number + 1)
      going_next h {n} i =
          let above = end-above key s at in
          let end = group_ended (length s - number) low at e f in
          let fuel : length s - number ≡ suc (length s - (number + 1)) = omega (arith, g.few, above, end, h) in
          let d = groups-go (length s - number) low at e f h in
          record {
            few = omega (arith, g.few, above, end);
            less = omega (arith, g.few, above, end, h);
            tests = ap₂ (λ (k m : ℕ). answer k (m + 1) q) (sym fuel) i ∙ sym d.0 ∙ g.tests;
            starts = omega (arith, ap (λ k. count k q) fuel, d.1, g.starts);
          }

-- what the groups found say of the answer behind them
pub found-refused : (a : Answer) (i n : ℕ) {r : Refusal} → found a i n ≡ Err r → a ≡ Err r
found-refused (Ok _) i n e = let z : ◌≡◌ {A = ℕ} 0 1 = cc in absurd (omega arith)
found-refused (Err r) i n e = cc

pub found-whole : (a : Answer) (i n : ℕ) {g : Groups} → found a i n ≡ Ok g → (a ≡ Done) × (g ≡ record { start = i; number = n })
found-whole (Ok _) i n e = (refl, cc)
found-whole (Err r) i n e = let z : ◌≡◌ {A = ℕ} 0 1 = cc in absurd (omega arith)

fields-only : (a : Answer) (c : Contents) {d : Contents} → read_as a c ≡ Ok d → (a ≡ Done) × (c ≡ d)
fields-only (Ok _) c e = (refl, cc)
fields-only (Err r) c e = let z : ◌≡◌ {A = ℕ} 0 1 = cc in absurd (omega arith)

-- a reader that answers with contents refuses nothing
pub read-accepts : (s : List ℕ) {c : Contents} → reading (level_at FIRST) s ≡ Ok c → (first_of (bundle_tests (level_at FIRST) s) ≡ Done) × (record { n = (key_of s).n; m = (key_of s).m; groups = length (starts (level_at FIRST) s) } ≡ c)
read-accepts s e = fields-only (first_of (bundle_tests (level_at FIRST) s)) (record { n = (key_of s).n; m = (key_of s).m; groups = length (starts (level_at FIRST) s) }) e
