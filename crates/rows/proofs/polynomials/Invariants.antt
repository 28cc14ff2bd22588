use Rattle.std.proofs.Common.{◌+◌}
use Rattle.field.specs.Level.{level_at, K}
use Rattle.field.specs.Word.{Words}
use Rattle.row.specs.Elements.{el}
use Rattle.row.specs.Lent.{small_of, entry_of, digit_of, element_of}
use Rattle.row.specs.Polynomial.{z}
use Rattle.rows.proofs.Shares.{Rows}
use Rattle.rows.proofs.polynomials.Given as goal

abbrev pub invariant-loop-i : goal.invariant-loop-i
invariant-loop-i l =
    Words (level_at l.level) l.dst × Words (level_at l.level) l.work
    × Rows (K (level_at l.level)) l.n l.m (l.d + 1) (λ i. z (K (level_at l.level)) l.d (digit_of l.d l.positions i) (element_of (level_at l.level) l.d l.offsets i)) (small_of (level_at l.level) l.matrix.x.now) (entry_of (level_at l.level) l.n l.matrix.h.now) (el (level_at l.level) l.dst) l.i
