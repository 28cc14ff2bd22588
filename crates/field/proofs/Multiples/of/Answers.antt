use mathlib.Core.Path.{◌≡◌}
use native.Mathlib.Omega.{arith}
use lib.ListN.{replicate, length}
use Rattle.field.proofs.Elements.{holds-zero, holds-plus, holds_from_zero}
use Rattle.field.proofs.Named.{of_first, of_second}
use Rattle.field.specs.declared.Multiples.{Multiples}
use Rattle.field.specs.Packed.{Holds, Multiplies}
use Rattle.field.specs.Level.{level_at, first, second, K}
use borrow.Author.Rules.{rules}
use Rattle.field.proofs.Multiples.of.Goals as goal

pub add-requires : goal.add-requires
unfolding level_at
add-requires c = (omega arith, omega (arith, long), omega arith)
  where
    long : length c.args.factor.words ≡ 6
    long = search rules

pub returns-then-level-eq-SECOND : goal.returns-then-level-eq-SECOND
unfolding level_at
returns-then-level-eq-SECOND c = of_second (λ l. (x : (K l).Carrier) → Holds l c.args.factor.words x → Multiplies l m x) c.if-level-eq-SECOND.true
    (λ x h. holds_from_zero second c.add.new.z x (holds-plus second 6 (replicate 33 0) c.args.factor.words c.add.new.z (K second).zero x (omega arith) c.add.ensures (holds-zero second 6 33 (omega arith) (omega arith)) h))
  where
    m : Multiples
    m = record { words = c.add.new.z }

pub multiples-requires : goal.multiples-requires
unfolding level_at
multiples-requires c = (omega arith, omega (arith, long))
  where
    long : length c.args.factor.words ≡ 6
    long = search rules

pub returns : goal.returns
unfolding level_at
returns c = of_first (λ l. (x : (K l).Carrier) → Holds l c.args.factor.words x → Multiplies l m x) c.if-level-eq-SECOND.false (λ x. c.multiples.ensures x (holds-zero first 3 33 (omega arith) (omega arith)))
  where
    m : Multiples
    m = record { words = c.multiples.new.table }
