use Rattle.std.proofs.Common.{◌≡◌}
use Rattle.copying.specs.Words.{words}
use Rattle.field.specs.Level.{FIRST, level_at}
use Rattle.field.specs.Word.{within}
use Rattle.layout.proofs.words_within.Given as goal

abbrev pub invariant-loop-pair : goal.invariant-loop-pair
invariant-loop-pair l =
    (l.pair-iterator.size ≡ 2) × (within (level_at FIRST) (words l.pair-iterator.rest.now) ≡ within (level_at FIRST) (words l.c))
