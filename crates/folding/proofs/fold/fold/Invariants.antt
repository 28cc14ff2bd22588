use Rattle.std.proofs.Common.{◌≡◌, ℕ, ◌+◌, ◌-◌}
use Rattle.field.specs.Level.{level_at, K}
use Rattle.field.specs.Word.{Words}
use Rattle.row.specs.Elements.{el}
use Rattle.row.specs.Polynomial.{digit}
use Rattle.folding.proofs.FoldLaws.{folded}
use Rattle.folding.proofs.fold.fold.Given as goal

abbrev pub invariant-loop-i : goal.invariant-loop-i
invariant-loop-i l =
    Words (level_at l.level) l.buf
    × ((k : ℕ) → folded (K (level_at l.level)) l.d (digit l.d l.position) (λ i. el (level_at l.level) l.offsets (l.at + i)) (l.d + 1) (l.i + 1) (el (level_at l.level) l.buf) (l.d - l.i) k ≡ folded (K (level_at l.level)) l.d (digit l.d l.position) (λ i. el (level_at l.level) l.offsets (l.at + i)) (l.d + 1) 1 (el (level_at l.level) l.fn.buf) l.d k)
