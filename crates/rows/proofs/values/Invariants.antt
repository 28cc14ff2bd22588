use Rattle.field.specs.Level.{level_at, K}
use Rattle.field.specs.Word.{Words}
use Rattle.row.specs.Elements.{el, value_of}
use Rattle.row.specs.Lent.{small_of, entry_of, bit_of, element_of}
use Rattle.row.specs.Polynomial.{value}
use Rattle.rows.proofs.Shares.{Rows}
use Rattle.rows.proofs.values.Given as goal

abbrev pub invariant-loop-i : goal.invariant-loop-i
invariant-loop-i l =
    Words (level_at l.level) l.dst × Words (level_at l.level) l.work
    × Rows (K (level_at l.level)) l.n l.m 1 (λ i j k. value (K (level_at l.level)) l.d (bit_of l.d l.bits i) (element_of (level_at l.level) l.d l.numbers i) (value_of (level_at l.level) l.challenge.words) j) (small_of (level_at l.level) l.matrix.x.now) (entry_of (level_at l.level) l.n l.matrix.h.now) (el (level_at l.level) l.dst) l.i
