use Rattle.std.proofs.Common.{◌≡◌, ◌+◌, ◌-◌, ◌^◌, get_or}
use Rattle.field.specs.Level.{level_at, K}
use Rattle.field.specs.Word.{odd, Words}
use Rattle.field.specs.Packed.{Multiplies}
use Rattle.row.specs.Elements.{el}
use Rattle.folding.specs.Steps.{row_total}
use Rattle.folding.proofs.values.digits.Given as goal

abbrev pub invariant-loop-k : goal.invariant-loop-k
invariant-loop-k l =
    (l.h ≡ 2 ^ (l.d - l.k)) × Words (level_at l.level) l.work
    × ((Δ : (K (level_at l.level)).Carrier) → Multiplies (level_at l.level) l.delta Δ → row_total (K (level_at l.level)) l.d (λ e. odd (get_or l.bits (l.at + e) 0)) (λ e. el (level_at l.level) l.numbers (l.at + e)) Δ (el (level_at l.level) l.fn.work) (l.d - 1) ≡ row_total (K (level_at l.level)) l.d (λ e. odd (get_or l.bits (l.at + e) 0)) (λ e. el (level_at l.level) l.numbers (l.at + e)) Δ (el (level_at l.level) l.work) (l.d - l.k))
