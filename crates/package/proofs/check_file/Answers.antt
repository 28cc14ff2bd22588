use Rattle.std.proofs.Common.{ℕ, ◌≡◌, List, ◌++◌, sym, ap, ◌∙◌}
use mathlib.Core.Path.{ap₂}
use mathlib.Core.List.{append_assoc}
use Rattle.std.specs.Prelude.{Bool, Result, Ok}
use Rattle.refusal.specs.declared.Refusal.{Refusal}
use Rattle.refusal.specs.Answer.{first_of}
use Rattle.refusal.proofs.Answers.{none}
use Rattle.field.specs.Level.{FIRST, level_at}
use Rattle.key.specs.declared.Key.{Key}
use Rattle.key.specs.Key.{Sized}
use Rattle.layout.specs.Layout.{check_rows, key_tests, group_tests, group_end, check_tests, check_end, check_file_tests}
use Rattle.layout.specs.Tests.{key_of, end_tests}
use Rattle.layout.specs.Steps.{stepped, outcome}
use Rattle.layout.proofs.Rows.{exits, none-append, none_done, step_next, first_stops, first_ends}
use Rattle.layout.proofs.Files.{key-sized}
use Rattle.package.proofs.check_file.Goals as goal

-- the tests of the package's fields, and those that follow them
abbrev fields : List ℕ → List (Bool × Refusal)
fields s = key_tests (level_at FIRST) s ++ group_tests (level_at FIRST) s

abbrev later : List ℕ → List (Bool × Refusal)
later s = check_tests (level_at FIRST) s ++ end_tests s (check_end (level_at FIRST) s)

all : (s : List ℕ) → first_of (fields s ++ later s) ≡ first_of (check_file_tests (level_at FIRST) s)
all s = ap first_of (sym (append_assoc (fields s) (check_tests (level_at FIRST) s) (end_tests s (check_end (level_at FIRST) s))))

-- where the package was not refused: its tests are over, and its key has sizes
module _ (s : List ℕ) {r : Result ℕ Refusal} {at : ℕ} (e : r ≡ stepped (first_of (fields s)) (group_end (level_at FIRST) s)) (h : r ≡ Ok at) where
  reached : (first_of (check_file_tests (level_at FIRST) s) ≡ first_of (later s)) × (at ≡ group_end (level_at FIRST) s)
  reached = let p = first_ends (fields s) (later s) (group_end (level_at FIRST) s) (sym e ∙ h) in (sym (all s) ∙ p.0, p.1)

  is-sized : Sized (level_at FIRST) (key_of s)
  is-sized =
      let none-of = none (fields s) (step_next (first_of (fields s)) (group_end (level_at FIRST) s) (sym e ∙ h)).0 in
      key-sized (level_at FIRST) s (none_done (key_tests (level_at FIRST) s) (none-append (key_tests (level_at FIRST) s) (group_tests (level_at FIRST) s) none-of).0)

-- and those of the check begin at its end
check : (s : List ℕ) {r : Result ℕ Refusal} {key : Key} {at : ℕ} → r ≡ outcome (level_at FIRST) s at (check_rows (level_at FIRST) key s at) → key ≡ key_of s → at ≡ group_end (level_at FIRST) s
    → r ≡ stepped (first_of (check_tests (level_at FIRST) s)) (check_end (level_at FIRST) s)
check s e f h = e ∙ ap₂ (λ (key : Key) (at : ℕ). outcome (level_at FIRST) s at (check_rows (level_at FIRST) key s at)) f h

pub returns-in_err-at : goal.returns-in_err-at
returns-in_err-at c =
    let s = c.args.bytes.now in
    exits c.from_residual.ensures.1 ∙ first_stops (fields s) (later s) (group_end (level_at FIRST) s) (sym c.read_fields.ensures ∙ c.in_err-at.was) ∙ all s

pub read_check-requires : goal.read_check-requires
read_check-requires c = rw c.key_at.ensures (is-sized c.args.bytes.now c.read_fields.ensures c.in_ok-at.was)

pub returns-in_err-end : goal.returns-in_err-end
returns-in_err-end c =
    let l = level_at FIRST in
    let s = c.args.bytes.now in
    let p = reached s c.read_fields.ensures c.in_ok-at.was in
    exits c.from_residual-in_err-end.ensures.1
    ∙ first_stops (check_tests l s) (end_tests s (check_end l s)) (check_end l s) (sym (check s c.read_check.ensures c.key_at.ensures p.1) ∙ c.in_err-end.was)
    ∙ sym p.0

pub returns : goal.returns
returns c =
    let l = level_at FIRST in
    let s = c.args.bytes.now in
    let p = reached s c.read_fields.ensures c.in_ok-at.was in
    let h = first_ends (check_tests l s) (end_tests s (check_end l s)) (check_end l s) (sym (check s c.read_check.ensures c.key_at.ensures p.1) ∙ c.in_ok-end.was) in
    c.read_end.ensures ∙ ap (λ at. first_of (end_tests s at)) h.1 ∙ sym h.0 ∙ sym p.0
