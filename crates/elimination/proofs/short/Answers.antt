-- The check finds this by itself. It is written out because a must-fail edit changes this function and ones that it calls, and then the
-- check tries only what is written.
use Rattle.std.proofs.Common.{ap}
use Rattle.std.specs.Prelude.{ltb}
use Rattle.elimination.proofs.short.Goals as goal

pub returns : goal.returns
returns c = ap (λ r. ltb r c.args.m) c.rank.ensures.rank
