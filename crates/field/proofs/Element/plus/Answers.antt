use mathlib.Core.Path.{◌≡◌}
use native.Mathlib.Omega.{arith}
use lib.ListN.{length}
use Rattle.field.proofs.Elements.{holds-plus}
use Rattle.field.proofs.Named.{of_first, of_second}
use Rattle.field.specs.Packed.{Holds}
use Rattle.field.specs.Level.{level_at, first, second, K}
use borrow.Author.Rules.{rules}
use Rattle.field.proofs.Element.plus.Goals as goal

pub add-requires : goal.add-requires
unfolding level_at
add-requires c = (omega (arith, long), omega (arith, other), omega arith)
  where
    long : length c.args.self.words ≡ 6
    long = search rules

    other : length c.args.other.words ≡ 6
    other = search rules

pub returns-then-level-eq-SECOND : goal.returns-then-level-eq-SECOND
unfolding level_at
returns-then-level-eq-SECOND c = of_second (λ l. (x y : (K l).Carrier) → Holds l c.args.self.words x → Holds l c.args.other.words y → Holds l c.add.new.z ((K l).add x y)) c.if-level-eq-SECOND.true (λ x y. holds-plus second 6 c.args.self.words c.args.other.words c.add.new.z x y (omega arith) c.add.ensures)

pub add-requires-2 : goal.add-requires-2
unfolding level_at
add-requires-2 c = (omega (arith, long), omega (arith, other), omega arith)
  where
    long : length c.args.self.words ≡ 6
    long = search rules

    other : length c.args.other.words ≡ 6
    other = search rules

pub returns : goal.returns
unfolding level_at
returns c = of_first (λ l. (x y : (K l).Carrier) → Holds l c.args.self.words x → Holds l c.args.other.words y → Holds l c.add-2.new.z ((K l).add x y)) c.if-level-eq-SECOND.false (λ x y. holds-plus first 3 c.args.self.words c.args.other.words c.add-2.new.z x y (omega arith) c.add-2.ensures)
