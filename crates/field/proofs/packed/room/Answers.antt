use mathlib.Core.Path.{ap}
use native.Mathlib.Omega.{arith}
use Rattle.field.specs.declared.Level.{Level}
use Rattle.field.proofs.Fields.{bounded}
use Rattle.field.proofs.packed.room.Goals as goal

pub overflow_add-result : goal.overflow_add-result
overflow_add-result c = record { fits = omega (arith, ap (λ (l : Level). l.coordinates) c.of-l.ensures, (bounded c.args.level).narrow) }
