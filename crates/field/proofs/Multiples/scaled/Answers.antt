use mathlib.Core.Path.{◌≡◌}
use Prim.Native.Nat.{◌≤◌}
use native.Mathlib.Omega.{arith}
use lib.ListN.{length}
use Rattle.field.specs.Word.{small}
use Rattle.field.specs.Level.{embed, level_at, second, K}
use Rattle.field.proofs.Elements.{holds-zero}
use Rattle.field.proofs.Named.{of_first, of_second}
use Rattle.field.specs.Packed.{Holds, Multiplies}
use borrow.Author.Rules.{rules}
use Rattle.field.proofs.Multiples.scaled.Goals as goal

pub multiples-requires : goal.multiples-requires
unfolding level_at
multiples-requires c = (omega arith, omega (arith, long))
  where
    long : length c.args.self.words ≡ 33
    long = search rules

pub scaled-requires : goal.scaled-requires
unfolding level_at
scaled-requires c = (omega arith, omega (arith, c.multiples.auto.table))

pub returns-then-level-eq-SECOND : goal.returns-then-level-eq-SECOND
unfolding level_at
returns-then-level-eq-SECOND c = of_second (λ l. (x : (K l).Carrier) → c.args.f ≤ l.limit → Multiplies l c.args.self x → Holds l c.scaled.new.z ((K l).mul ((embed l).map (small l c.args.f)) x)) c.if-level-eq-SECOND.true
    (λ x below h. c.scaled.ensures x (omega arith) (c.multiples.ensures x (holds-zero second 6 72 (omega arith) (omega arith)) h))

pub scaled-requires-2 : goal.scaled-requires-2
unfolding level_at
scaled-requires-2 c = (omega arith, omega (arith, long))
  where
    long : length c.args.self.words ≡ 33
    long = search rules

pub returns : goal.returns
unfolding level_at
returns c = of_first (λ l. (x : (K l).Carrier) → c.args.f ≤ l.limit → Multiplies l c.args.self x → Holds l c.scaled-2.new.z ((K l).mul ((embed l).map (small l c.args.f)) x)) c.if-level-eq-SECOND.false (λ x below. c.scaled-2.ensures x (omega arith))
