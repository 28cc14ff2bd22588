use mathlib.Core.Path.{ap}
use Rattle.perk.specs.Files.{span_of}
use Rattle.perk.proofs.perk_field.Goals as goal

pub returns : goal.returns
returns c = ap span_of c.field_part-part.ensures
