use Rattle.std.proofs.Common.{◌≡◌}
use lib.Seq.{paste}
use Rattle.copying.specs.Words.{words}
use Rattle.copying.proofs.words_into.Given as goal

abbrev pub invariant-loop-i : goal.invariant-loop-i
invariant-loop-i l = l.out ≡ paste l.fn.out 0 (words l.c) l.i
