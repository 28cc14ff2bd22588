use Rattle.folding.specs.Weights.{leaf}
use Rattle.folding.proofs.leaves.weight.Goals as goal

pub returns-then-j-n-clause-inside : goal.returns-then-j-n-clause-inside
unfolding leaf
returns-then-j-n-clause-inside c = λ y t h. c.plus.ensures _ _ c.get-own.ensures (c.scaled.ensures y (c.requires.1 c.args.j) t)
