use mathlib.Core.Path.{◌≡◌}
use native.Mathlib.Omega.{arith}
use lib.ListN.{length}
use Rattle.field.proofs.Elements.{holds-zero}
use Rattle.field.proofs.Named.{of_first, of_second}
use Rattle.field.specs.Packed.{Holds, Multiplies}
use Rattle.field.specs.Level.{level_at, second, K}
use borrow.Author.Rules.{rules}
use Rattle.field.proofs.Multiples.times.Goals as goal

pub multiples-requires : goal.multiples-requires
unfolding level_at
multiples-requires c = (omega arith, omega (arith, long))
  where
    long : length c.args.self.words ≡ 33
    long = search rules

pub product-all-requires : goal.product-all-requires
unfolding level_at
product-all-requires c = (omega (arith, c.multiples.auto.table), omega (arith, long))
  where
    long : length c.args.other.words ≡ 6
    long = search rules

pub returns-then-level-eq-SECOND : goal.returns-then-level-eq-SECOND
unfolding level_at
returns-then-level-eq-SECOND c = of_second (λ l. (x y : (K l).Carrier) → Multiplies l c.args.self x → Holds l c.args.other.words y → Holds l c.product-all.result ((K l).mul x y)) c.if-level-eq-SECOND.true
    (λ x y h. c.product-all.ensures x y (c.multiples.ensures x (holds-zero second 6 72 (omega arith) (omega arith)) h))

pub product-words-requires : goal.product-words-requires
unfolding level_at
product-words-requires c = (omega (arith, table), omega (arith, long))
  where
    table : length c.args.self.words ≡ 33
    table = search rules

    long : length c.args.other.words ≡ 6
    long = search rules

pub returns : goal.returns
unfolding level_at
returns c = of_first (λ l. (x y : (K l).Carrier) → Multiplies l c.args.self x → Holds l c.args.other.words y → Holds l c.product-words.result ((K l).mul x y)) c.if-level-eq-SECOND.false c.product-words.ensures
