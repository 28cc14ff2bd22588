use mathlib.Core.Path.{◌≡◌}
use native.Mathlib.Omega.{arith}
use lib.ListN.{replicate, length}
use Rattle.field.proofs.Elements.{holds-zero, holds_added, holds_from_zero}
use Rattle.field.specs.Word.{odd}
use Rattle.field.specs.Binary.{bit}
use Rattle.field.proofs.Named.{of_first, of_second}
use Rattle.field.specs.Packed.{Holds}
use Rattle.field.specs.Level.{level_at, first, second, K}
use borrow.Author.Rules.{rules}
use Rattle.field.proofs.Element.masked.Goals as goal

pub add-requires : goal.add-requires
unfolding level_at
add-requires c = (omega arith, omega (arith, long), c.requires)
  where
    long : length c.args.self.words ≡ 6
    long = search rules

pub returns-then-level-eq-SECOND : goal.returns-then-level-eq-SECOND
unfolding level_at
returns-then-level-eq-SECOND c = of_second (λ l. (x : (K l).Carrier) → Holds l c.args.self.words x → Holds l c.add.new.z ((K l).mul (bit (K l) (odd c.args.b)) x)) c.if-level-eq-SECOND.true
    (λ x h. holds_from_zero second c.add.new.z _ (holds_added second 6 (replicate 6 0) c.args.self.words c.add.new.z c.args.b (K second).zero x (omega arith) c.requires c.add.ensures (holds-zero second 6 6 (omega arith) (omega arith)) h))

pub add-requires-2 : goal.add-requires-2
unfolding level_at
add-requires-2 c = (omega arith, omega (arith, long), c.requires)
  where
    long : length c.args.self.words ≡ 6
    long = search rules

pub returns : goal.returns
unfolding level_at
returns c = of_first (λ l. (x : (K l).Carrier) → Holds l c.args.self.words x → Holds l c.add-2.new.z ((K l).mul (bit (K l) (odd c.args.b)) x)) c.if-level-eq-SECOND.false
    (λ x h. holds_from_zero first c.add-2.new.z _ (holds_added first 3 (replicate 6 0) c.args.self.words c.add-2.new.z c.args.b (K first).zero x (omega arith) c.requires c.add-2.ensures (holds-zero first 3 6 (omega arith) (omega arith)) h))
