use Rattle.std.proofs.Common.{◌≡◌}
use Rattle.copying.specs.Words.{words}
use Rattle.layout.specs.Tests.{zeros}
use Rattle.layout.proofs.words_zero.Given as goal

abbrev pub invariant-loop-pair : goal.invariant-loop-pair
invariant-loop-pair l = (l.pair-iterator.size ≡ 2) × (zeros (words l.pair-iterator.rest.now) ≡ zeros (words l.c))
