use native.Mathlib.Omega.{arith}
use Rattle.field.specs.Packed.{Combines, Holds}
use Rattle.field.specs.Level.{level_at, first, second, K}
use Rattle.field.proofs.Elements.{holds-zero}
use Rattle.field.proofs.Named.{of_first, of_second}
use borrow.Author.Rules.{rules}
use Rattle.field.proofs.combination.total.Goals as goal

pub total-requires : goal.total-requires
unfolding level_at
total-requires c = (omega arith, search rules)

pub returns-then-level-eq-SECOND : goal.returns-then-level-eq-SECOND
unfolding level_at
returns-then-level-eq-SECOND c = of_second (λ l. (y : (K l).Carrier) → Combines l c.args.parts.now y → Holds l c.total.new.sum y) c.if-level-eq-SECOND.true (λ y. c.total.ensures y (holds-zero second 6 6 (omega arith) (omega arith)))

pub total-requires-2 : goal.total-requires-2
unfolding level_at
total-requires-2 c = (omega arith, search rules)

pub returns : goal.returns
unfolding level_at
returns c = of_first (λ l. (y : (K l).Carrier) → Combines l c.args.parts.now y → Holds l c.total-2.new.sum y) c.if-level-eq-SECOND.false (λ y. c.total-2.ensures y (holds-zero first 3 6 (omega arith) (omega arith)))
