use Rattle.field.specs.Level.{level_at, K}
use Rattle.field.specs.Word.{Words}
use Rattle.row.specs.Elements.{el}
use Rattle.row.specs.Lent.{small_of, digit_of, element_of}
use Rattle.row.specs.Polynomial.{sum, z}
use Rattle.row.specs.Step.{Step, Added}
use Rattle.folding.specs.Weights.{leaf}
use Rattle.folding.proofs.polynomials.shares.Given as goal

abbrev pub invariant-loop-i : goal.invariant-loop-i
invariant-loop-i l =
    Words (level_at l.matrix.level) l.work
    × Step (level_at l.matrix.level) l.fn.dst l.dst (λ f g. Added (K (level_at l.matrix.level)) f g (λ k. sum (K (level_at l.matrix.level)) l.i (λ i. sum (K (level_at l.matrix.level)) l.matrix.n (λ j. (K (level_at l.matrix.level)).mul (leaf (K (level_at l.matrix.level)) (el (level_at l.matrix.level) l.alpha) (small_of (level_at l.matrix.level) l.matrix.x.now) (el (level_at l.matrix.level) l.beta i) j) (z (K (level_at l.matrix.level)) l.matrix.d (digit_of l.matrix.d l.positions i) (element_of (level_at l.matrix.level) l.matrix.d l.offsets i) j k)))) l.matrix.d)
