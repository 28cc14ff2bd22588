use Rattle.std.proofs.Common.{◌*◌, [], ◌∷◌, sym, ap, ◌∙◌}
use Rattle.std.specs.Prelude.{ℕ, Result}
use Rattle.refusal.specs.declared.Refusal.{Refusal}
use Rattle.field.specs.Level.{FIRST, level_at}
use Rattle.key.specs.declared.Lengths.{Lengths}
use Rattle.layout.specs.declared.Row.{Row}
use Rattle.layout.specs.declared.Kind.TheVariants.{Bits, Coordinates}
use Rattle.layout.specs.Layout.{proof_rows}
use Rattle.layout.specs.Steps.{outcome, further}
use Rattle.layout.proofs.Rows.{exits, row_then_stop, row_then_go}
use Rattle.layout.proofs.read_proof.Goals as goal

-- the rows, of the lengths
abbrev t_row : Lengths → Row
t_row n = record { tag = 0x06; len = n.bits; kind = Bits }

abbrev a_row : Lengths → Row
a_row n = record { tag = 0x07; len = 2 * n.proof; kind = Coordinates }

pub returns-in_err-start : goal.returns-in_err-start
returns-in_err-start c =
    let a = c.args in
    exits c.from_residual.ensures.1 ∙ sym (ap (λ (r : Result ℕ Refusal). further r (λ at. outcome (level_at FIRST) a.s.now at (proof_rows (level_at FIRST) a.key))) c.in_err-start.was)

pub returns-in_err-at : goal.returns-in_err-at
returns-in_err-at c =
    let a = c.args in
    let n = c.lengths-len.result in
    let start = c.in_ok-start.start in
    row_then_stop (level_at FIRST) a.s.now start (t_row n) (λ _. a_row n ∷ []) c.read_row.ensures c.in_err-at.was c.from_residual-in_err-at.ensures.1
    ∙ ap (λ (n : Lengths). outcome (level_at FIRST) a.s.now start (t_row n ∷ a_row n ∷ [])) c.lengths-len.ensures
    ∙ sym (ap (λ (r : Result ℕ Refusal). further r (λ at. outcome (level_at FIRST) a.s.now at (proof_rows (level_at FIRST) a.key))) c.in_ok-start.was)

pub returns : goal.returns
returns c =
    let a = c.args in
    let n = c.lengths-len.result in
    let start = c.in_ok-start.start in
    c.read_row-2.ensures
    ∙ row_then_go (level_at FIRST) a.s.now start (t_row n) (λ _. a_row n ∷ []) c.read_row.ensures c.in_ok-at.was
    ∙ ap (λ (n : Lengths). outcome (level_at FIRST) a.s.now start (t_row n ∷ a_row n ∷ [])) c.lengths-len.ensures
    ∙ sym (ap (λ (r : Result ℕ Refusal). further r (λ at. outcome (level_at FIRST) a.s.now at (proof_rows (level_at FIRST) a.key))) c.in_ok-start.was)
