use Rattle.std.proofs.Common.{sym, arith}
use Rattle.field.proofs.Named.{at_first, at_second}
use Rattle.field.proofs.Level.of.Goals as goal

pub returns-in-2 : goal.returns-in-2
returns-in-2 c = sym (at_second c.in-2.is)

pub returns-in_default : goal.returns-in_default
returns-in_default c = sym (at_first (λ e. omega arith))
