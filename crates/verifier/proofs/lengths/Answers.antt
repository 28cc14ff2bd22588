use Rattle.std.proofs.Common.{rules, tests}
use Rattle.verifier.proofs.lengths.Goals as goal

pub returns-else-alpha-len : goal.returns-else-alpha-len
returns-else-alpha-len c = search (rules, tests)
