use Rattle.std.proofs.Common.{rules, tests}
use Rattle.prover.proofs.lengths.Goals as goal

pub returns-else-t-len : goal.returns-else-t-len
returns-else-t-len c = search (rules, tests)
