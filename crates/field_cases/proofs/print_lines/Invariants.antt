use Rattle.std.proofs.Common.{length}
use Rattle.field_cases.proofs.print_lines.Given as goal

abbrev pub decreases-loop-rest : goal.decreases-loop-rest
decreases-loop-rest g l = length l.rest
