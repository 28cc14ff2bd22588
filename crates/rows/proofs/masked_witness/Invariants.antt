use Rattle.std.proofs.Common.{◌≡◌, ◌++◌, ◌*◌, drop}
use Rattle.lists.specs.Words.{concat}
use Rattle.rows.specs.Outcome.{masked_row}
use Rattle.rows.proofs.masked_witness.Given as goal

abbrev pub invariant-loop-i : goal.invariant-loop-i
invariant-loop-i l =
    l.t ≡ concat l.i (masked_row l.d l.positions l.u) ++ drop (l.d * l.i) l.fn.t
