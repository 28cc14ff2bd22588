use Rattle.field.specs.Level.{level_at, K}
use Rattle.field.specs.Word.{Words}
use Rattle.field.specs.Packed.{Holds, Multiplies}
use Rattle.row.specs.Elements.{el}
use Rattle.row.specs.Lent.{small_of, bit_of, element_of}
use Rattle.row.specs.Polynomial.{sum, value}
use Rattle.folding.specs.Weights.{leaf}
use Rattle.folding.proofs.values.all_rows.Given as goal

abbrev pub invariant-loop-i : goal.invariant-loop-i
invariant-loop-i l =
    Words (level_at l.level) l.work × Words (level_at l.level) l.second
    × ((Δ : (K (level_at l.level)).Carrier) → Multiplies (level_at l.level) l.delta Δ → Holds (level_at l.level) l.all.words (sum (K (level_at l.level)) l.i (λ i. sum (K (level_at l.level)) l.matrix.n (λ j. (K (level_at l.level)).mul (leaf (K (level_at l.level)) (el (level_at l.level) l.alpha) (small_of (level_at l.level) l.matrix.x.now) (el (level_at l.level) l.beta i) j) (value (K (level_at l.level)) l.matrix.d (bit_of l.matrix.d l.bits i) (element_of (level_at l.level) l.matrix.d l.numbers i) Δ j)))))
