use Rattle.std.proofs.Common.{◌*◌, ◌≡◌, [], ◌∷◌, List, ap, ◌∙◌, arith}
use Rattle.field.specs.Level.{FIRST, level_at}
use Rattle.key.specs.declared.Key.{Key}
use Rattle.key.specs.declared.Lengths.{Lengths}
use Rattle.key.specs.Key.{Sized, lengths}
use Rattle.layout.specs.declared.Row.{Row}
use Rattle.layout.specs.declared.Kind.TheVariants.{Coordinates}
use Rattle.layout.specs.Steps.{outcome}
use Rattle.layout.proofs.Rows.{row_then_stop, row_then_go}
use Rattle.layout.proofs.Bounds.{Bounds, bounds}
use Rattle.layout.proofs.read_check.Goals as goal

bound : {n : Lengths} (key : Key) → n ≡ lengths (level_at FIRST) key → Sized (level_at FIRST) key → Bounds n
bound key e s = rw e (bounds key s)

-- the rows, of the lengths
abbrev q_row : Lengths → Row
q_row n = record { tag = 0x11; len = 2 * n.elements; kind = Coordinates }

abbrev masks_row : Lengths → Row
masks_row n = record { tag = 0x12; len = 2 * n.masks; kind = Coordinates }

abbrev delta_row : Lengths → Row
delta_row n = record { tag = 0x13; len = 2 * n.one; kind = Coordinates }

abbrev alpha_row : Lengths → Row
alpha_row n = record { tag = 0x14; len = 2 * n.values; kind = Coordinates }

-- those from each on
abbrev third : Lengths → List Row
third n = delta_row n ∷ alpha_row n ∷ []

abbrev second : Lengths → List Row
second n = masks_row n ∷ third n

abbrev first : Lengths → List Row
first n = q_row n ∷ second n

pub overflow_mul-q : goal.overflow_mul-q
overflow_mul-q c = omega (arith, (bound c.args.key c.lengths-len.ensures c.requires).elements)

pub overflow_mul-masks : goal.overflow_mul-masks
overflow_mul-masks c = omega (arith, (bound c.args.key c.lengths-len.ensures c.requires).masks)

pub overflow_mul-alpha : goal.overflow_mul-alpha
overflow_mul-alpha c = omega (arith, (bound c.args.key c.lengths-len.ensures c.requires).values)

pub returns-in_err-at : goal.returns-in_err-at
returns-in_err-at c =
    let a = c.args in
    let n = c.lengths-len.result in
    row_then_stop (level_at FIRST) a.s.now a.at (q_row n) (λ _. second n) c.read_row.ensures c.in_err-at.was c.from_residual.ensures.1
    ∙ ap (λ (n : Lengths). outcome (level_at FIRST) a.s.now a.at (first n)) c.lengths-len.ensures

pub returns-in_err-at-2 : goal.returns-in_err-at-2
returns-in_err-at-2 c =
    let a = c.args in
    let n = c.lengths-len.result in
    row_then_stop (level_at FIRST) a.s.now c.in_ok-at.at (masks_row n) (λ _. third n) c.read_row-2.ensures c.in_err-at-2.was c.from_residual-in_err-at-2.ensures.1
    ∙ row_then_go (level_at FIRST) a.s.now a.at (q_row n) (λ _. second n) c.read_row.ensures c.in_ok-at.was
    ∙ ap (λ (n : Lengths). outcome (level_at FIRST) a.s.now a.at (first n)) c.lengths-len.ensures

pub returns-in_err-at-3 : goal.returns-in_err-at-3
returns-in_err-at-3 c =
    let a = c.args in
    let n = c.lengths-len.result in
    row_then_stop (level_at FIRST) a.s.now c.in_ok-at-2.at (delta_row n) (λ _. alpha_row n ∷ []) c.read_row-3.ensures c.in_err-at-3.was c.from_residual-in_err-at-3.ensures.1
    ∙ row_then_go (level_at FIRST) a.s.now c.in_ok-at.at (masks_row n) (λ _. third n) c.read_row-2.ensures c.in_ok-at-2.was
    ∙ row_then_go (level_at FIRST) a.s.now a.at (q_row n) (λ _. second n) c.read_row.ensures c.in_ok-at.was
    ∙ ap (λ (n : Lengths). outcome (level_at FIRST) a.s.now a.at (first n)) c.lengths-len.ensures

pub returns : goal.returns
returns c =
    let a = c.args in
    let n = c.lengths-len.result in
    c.read_row-4.ensures
    ∙ row_then_go (level_at FIRST) a.s.now c.in_ok-at-2.at (delta_row n) (λ _. alpha_row n ∷ []) c.read_row-3.ensures c.in_ok-at-3.was
    ∙ row_then_go (level_at FIRST) a.s.now c.in_ok-at.at (masks_row n) (λ _. third n) c.read_row-2.ensures c.in_ok-at-2.was
    ∙ row_then_go (level_at FIRST) a.s.now a.at (q_row n) (λ _. second n) c.read_row.ensures c.in_ok-at.was
    ∙ ap (λ (n : Lengths). outcome (level_at FIRST) a.s.now a.at (first n)) c.lengths-len.ensures
