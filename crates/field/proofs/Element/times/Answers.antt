use Rattle.std.proofs.Common.{arith}
use Rattle.field.specs.Level.{level_at, K}
use Rattle.field.specs.Packed.{Holds}
use Rattle.field.proofs.Named.{of_first, of_second}
use Rattle.field.proofs.Element.times.Goals as goal

pub product-requires : goal.product-requires
unfolding level_at
product-requires c = (omega arith, omega arith)

pub returns-then-level-eq-SECOND : goal.returns-then-level-eq-SECOND
unfolding level_at
returns-then-level-eq-SECOND c = of_second (λ l. (x y : (K l).Carrier) → Holds l c.args.self.words x → Holds l c.args.other.words y → Holds l c.product.result.words ((K l).mul x y)) c.if-level-eq-SECOND.true c.product.ensures

pub product-requires-2 : goal.product-requires-2
unfolding level_at
product-requires-2 c = (omega arith, omega arith)

pub returns : goal.returns
unfolding level_at
returns c = of_first (λ l. (x y : (K l).Carrier) → Holds l c.args.self.words x → Holds l c.args.other.words y → Holds l c.product-2.result.words ((K l).mul x y)) c.if-level-eq-SECOND.false c.product-2.ensures
