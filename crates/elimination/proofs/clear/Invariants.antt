use Rattle.field.specs.Level.{level_at}
use Rattle.field.specs.Word.{Words}
use Rattle.elimination.specs.Steps.{Grid}
use Rattle.elimination.proofs.Clearing.{cleared}
use Rattle.elimination.proofs.clear.Given as goal

abbrev pub invariant-loop-k : goal.invariant-loop-k
invariant-loop-k l = record {
  grid : Grid l.rows l.n l.rest (cleared (level_at l.level) l.n l.c l.v l.from l.used l.row l.fn.rest l.k);
  words : Words (level_at l.level) l.rest;
}
