use mathlib.Core.Path.{ap, ◌∙◌}
use Rattle.checkfile.specs.Checking.{check_number}
use Rattle.perk.proofs.perk_check.Goals as goal

pub returns : goal.returns
returns c = c.number.ensures ∙ ap check_number c.check.ensures
