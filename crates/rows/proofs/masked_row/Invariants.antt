use Rattle.std.proofs.Common.{◌≡◌, cond, ◌+◌, get_or}
use Rattle.std.proofs.Math.Seq.{paste}
use Rattle.field.specs.Binary.{xor}
use Rattle.field.specs.Word.{odd}
use Rattle.row.specs.Lists.{tab}
use Rattle.row.specs.Polynomial.{digit}
use Rattle.rows.proofs.masked_row.Given as goal

abbrev pub invariant-loop-k : goal.invariant-loop-k
invariant-loop-k l =
    l.t ≡ paste l.fn.t l.at (tab l.d (λ k. cond (xor (digit l.d l.position k) (odd (get_or l.u (l.at + k) 0))) 1 0)) l.k
