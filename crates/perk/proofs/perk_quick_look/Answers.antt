use Prim.Native.Nat.{ℕ}
use mathlib.Core.Path.{◌≡◌, sym, ap, ◌∙◌}
use Rattle.std.specs.Prelude.{Option, Some, None, Result, Ok}
use Rattle.refusal.specs.declared.Refusal.{Refusal}
use Rattle.field.specs.Level.{FIRST, level_at}
use Rattle.order.specs.Entry.{look_outcome}
use Rattle.order.specs.Tells.{Tells}
use Rattle.order.proofs.Told.{tells}
use mathlib.Core.List.{List}
use Rattle.perk.specs.Answered.{index_or}
use Rattle.perk.proofs.Numbers.{number-well, number-offender}
use Rattle.perk.proofs.perk_quick_look.Goals as goal

told : (n : ℕ) (positions : List ℕ) (old : ℕ) {r k : ℕ} → (r, k) ≡ index_or (look_outcome (level_at FIRST) n positions) old → Tells (level_at FIRST) n positions (r ≡ 0) (λ i. (r ≡ 255) × (k ≡ i))
told n positions old e =
    let o = look_outcome (level_at FIRST) n positions in
    let number = ap (λ (p : ℕ × ℕ). p.0) e in
    let index = ap (λ (p : ℕ × ℕ). p.1) e in
    tells FIRST n positions
    (λ z. number-well o old (sym number ∙ z), λ d. number ∙ ap (λ x. (index_or x old).0) d)
    (λ i. (λ z. number-offender o old (sym number ∙ z.0) ∙ ap (λ (j : ℕ). Ok (Some j)) (sym index ∙ z.1), λ d. (number ∙ ap (λ x. (index_or x old).0) d, index ∙ ap (λ x. (index_or x old).1) d)))

pub returns : goal.returns
returns c =
    let a = c.args in
    let e = c.put_index.ensures ∙ ap (λ (x : Result (Option ℕ) Refusal). index_or x a.index.now) c.quick_look.ensures.outcome in
    record { outcome = e; tells = told a.n a.positions.now a.index.now e }
