use Rattle.field.specs.Level.{level_at, K}
use Rattle.row.specs.Elements.{el}
use Rattle.row.specs.Lent.{small_of, entry_of}
use Rattle.row.specs.Step.{Step}
use Rattle.row.proofs.SumLaws.{Checked}
use Rattle.row.proofs.sums.share.Given as goal

abbrev pub invariant-loop-k : goal.invariant-loop-k
invariant-loop-k l =
    Step (level_at l.matrix.level) l.initial.dst l.dst (λ f g. Checked (K (level_at l.matrix.level)) l.matrix.n l.matrix.m l.s (el (level_at l.matrix.level) l.src) (small_of (level_at l.matrix.level) l.matrix.x.now) (λ e. entry_of (level_at l.matrix.level) l.matrix.n l.matrix.h.now e l.i) f g l.k)
