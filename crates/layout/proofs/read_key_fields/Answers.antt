use Rattle.std.proofs.Common.{ℕ, ◌+◌, ◌*◌, ◌≡◌, [], ◌∷◌, List, sym, ap, ◌∙◌}
use Rattle.refusal.specs.Answer.{first_of}
use Rattle.refusal.proofs.Answers.{none}
use Rattle.std.specs.Prelude.{Result, Ok}
use Rattle.refusal.specs.declared.Refusal.{Refusal}
use Rattle.field.specs.Level.{FIRST, level_at}
use Rattle.key.specs.declared.Key.{Key}
use Rattle.key.specs.declared.Lengths.{Lengths}
use Rattle.key.specs.Key.{Sized, lengths}
use Rattle.layout.specs.declared.Row.{Row}
use Rattle.layout.specs.declared.Kind.TheVariants.{Elements, Target}
use Rattle.layout.specs.Layout.{optional}
use Rattle.layout.specs.Tests.{key_of, tests, after}
use Rattle.layout.specs.Steps.{outcome}
use Rattle.layout.proofs.Rows.{step_next, row_then_stop, row_then_go}
use Rattle.layout.proofs.Files.{sizes_row, first-sized}
use Rattle.layout.proofs.read_key_fields.Goals as goal

-- the rows after field 01, of the lengths
abbrev h_row : Lengths → Row
h_row n = record { tag = 0x02; len = 2 * n.matrix; kind = Elements }

abbrev x_row : Lengths → Row
x_row n = record { tag = 0x03; len = 2 * n.vector; kind = Elements }

abbrev y_row : Lengths → Row
y_row n = record { tag = 0x04; len = 2 * n.target; kind = Target }

-- those from each on; y follows where its tag does
abbrev third : List ℕ → Lengths → ℕ → List Row
third s n at = optional s at (y_row n)

abbrev second : List ℕ → Lengths → ℕ → List Row
second s n at = x_row n ∷ third s n (at + 3 + (x_row n).len)

abbrev first : List ℕ → Lengths → ℕ → List Row
first s n at = h_row n ∷ second s n (at + 3 + (h_row n).len)

-- all of them, of the lengths that field 01 gives
all : (s : List ℕ) {key : Key} {n : Lengths} → n ≡ lengths (level_at FIRST) key → key ≡ key_of s →
    outcome (level_at FIRST) s 0 (sizes_row ∷ first s n 5) ≡ outcome (level_at FIRST) s 0 (sizes_row ∷ first s (lengths (level_at FIRST) (key_of s)) 5)
all s e f = ap (λ (n : Lengths). outcome (level_at FIRST) s 0 (sizes_row ∷ first s n 5)) (e ∙ ap (λ (key : Key). lengths (level_at FIRST) key) f)

-- field 01 was not refused, so its content is sizes
is-sized : (s : List ℕ) {key : Key} {r : Result ℕ Refusal} {at : ℕ} → key ≡ key_of s → r ≡ outcome (level_at FIRST) s 0 (sizes_row ∷ []) → r ≡ Ok at → Sized (level_at FIRST) key
is-sized s f e h =
    rw f (first-sized (level_at FIRST) s [] (none (tests (level_at FIRST) s 0 (sizes_row ∷ [])) (step_next (first_of (tests (level_at FIRST) s 0 (sizes_row ∷ []))) (after 0 (sizes_row ∷ [])) (sym e ∙ h)).0))

pub returns-in_err-at : goal.returns-in_err-at
unfolding after
returns-in_err-at c =
    let s = c.args.s.now in
    row_then_stop (level_at FIRST) s 0 sizes_row (first s (lengths (level_at FIRST) (key_of s))) c.read_row.ensures c.in_err-at.was c.from_residual.ensures.1

pub lengths-len-requires : goal.lengths-len-requires
lengths-len-requires c = is-sized c.args.s.now c.key_at.ensures c.read_row.ensures c.in_ok-at.was

pub returns-in_err-at-2 : goal.returns-in_err-at-2
unfolding after
returns-in_err-at-2 c =
    let s = c.args.s.now in
    let n = c.lengths-len.result in
    row_then_stop (level_at FIRST) s c.in_ok-at.at (h_row n) (second s n) c.read_row-2.ensures c.in_err-at-2.was c.from_residual-in_err-at-2.ensures.1
    ∙ row_then_go (level_at FIRST) s 0 sizes_row (first s n) c.read_row.ensures c.in_ok-at.was
    ∙ all s c.lengths-len.ensures c.key_at.ensures

pub returns-in_err-at-3 : goal.returns-in_err-at-3
unfolding after
returns-in_err-at-3 c =
    let s = c.args.s.now in
    let n = c.lengths-len.result in
    row_then_stop (level_at FIRST) s c.in_ok-at-2.at (x_row n) (third s n) c.read_row-3.ensures c.in_err-at-3.was c.from_residual-in_err-at-3.ensures.1
    ∙ row_then_go (level_at FIRST) s c.in_ok-at.at (h_row n) (second s n) c.read_row-2.ensures c.in_ok-at-2.was
    ∙ row_then_go (level_at FIRST) s 0 sizes_row (first s n) c.read_row.ensures c.in_ok-at.was
    ∙ all s c.lengths-len.ensures c.key_at.ensures

pub returns : goal.returns
unfolding after
returns c =
    let s = c.args.s.now in
    let n = c.lengths-len.result in
    c.read_optional.ensures
    ∙ row_then_go (level_at FIRST) s c.in_ok-at-2.at (x_row n) (third s n) c.read_row-3.ensures c.in_ok-at-3.was
    ∙ row_then_go (level_at FIRST) s c.in_ok-at.at (h_row n) (second s n) c.read_row-2.ensures c.in_ok-at-2.was
    ∙ row_then_go (level_at FIRST) s 0 sizes_row (first s n) c.read_row.ensures c.in_ok-at.was
    ∙ all s c.lengths-len.ensures c.key_at.ensures
