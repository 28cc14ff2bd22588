use mathlib.Core.Path.{◌≡◌}
use Prim.Native.Nat.{◌≤◌}
use native.Mathlib.Omega.{arith}
use lib.ListN.{length}
use Rattle.field.specs.Packed.{Combines, Holds}
use Rattle.field.specs.Word.{small}
use Rattle.field.specs.Level.{embed, level_at, K}
use Rattle.field.proofs.Named.{of_first, of_second}
use borrow.Author.Rules.{rules}
use Rattle.field.proofs.combination.add.Goals as goal

pub add_parts-requires : goal.add_parts-requires
unfolding level_at
add_parts-requires c = (omega (arith, long), search rules)
  where
    long : length c.args.x.words ≡ 6
    long = search rules

pub add_parts-requires-else-level-eq-SECOND : goal.add_parts-requires-else-level-eq-SECOND
unfolding level_at
add_parts-requires-else-level-eq-SECOND c = (omega (arith, long), search rules)
  where
    long : length c.args.x.words ≡ 6
    long = search rules

pub returns-then-level-eq-SECOND : goal.returns-then-level-eq-SECOND
unfolding level_at
returns-then-level-eq-SECOND c = of_second (λ l. (y e : (K l).Carrier) → c.args.f ≤ l.limit → Combines l c.args.parts.now y → Holds l c.args.x.words e → Combines l c.add_parts.new.parts ((K l).add y ((K l).mul ((embed l).map (small l c.args.f)) e))) c.if-level-eq-SECOND.true (λ y e below. c.add_parts.ensures y e (omega arith))

pub returns-else-level-eq-SECOND : goal.returns-else-level-eq-SECOND
unfolding level_at
returns-else-level-eq-SECOND c = of_first (λ l. (y e : (K l).Carrier) → c.args.f ≤ l.limit → Combines l c.args.parts.now y → Holds l c.args.x.words e → Combines l c.add_parts-else-level-eq-SECOND.new.parts ((K l).add y ((K l).mul ((embed l).map (small l c.args.f)) e))) c.if-level-eq-SECOND.false (λ y e below. c.add_parts-else-level-eq-SECOND.ensures y e (omega arith))
