use mathlib.Core.Path.{refl}
use Rattle.order.specs.Seen.{has}
use Rattle.order.proofs.has.Goals as goal

pub returns : goal.returns
unfolding has
returns c = refl
