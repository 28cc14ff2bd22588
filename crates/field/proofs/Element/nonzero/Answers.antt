use mathlib.Core.Path.{◌≡◌}
use native.Mathlib.Omega.{arith}
use lib.Dec.{eqb}
use lib.ListN.{length}
use Rattle.field.specs.Word.{is_zero}
use Rattle.field.proofs.Named.{of_first, of_second}
use Rattle.field.specs.Packed.{Holds}
use Rattle.field.specs.Level.{level_at, K}
use borrow.Author.Rules.{rules}
use Rattle.field.proofs.Element.nonzero.Goals as goal

pub nonzero-requires : goal.nonzero-requires
unfolding level_at
nonzero-requires c = omega (arith, long)
  where
    long : length c.args.self.words ≡ 6
    long = search rules

pub returns-then-level-eq-SECOND : goal.returns-then-level-eq-SECOND
unfolding level_at
returns-then-level-eq-SECOND c = of_second (λ l. (x : (K l).Carrier) → Holds l c.args.self.words x → eqb c.nonzero.result 0 ≡ is_zero l x) c.if-level-eq-SECOND.true c.nonzero.ensures

pub nonzero-requires-2 : goal.nonzero-requires-2
unfolding level_at
nonzero-requires-2 c = omega (arith, long)
  where
    long : length c.args.self.words ≡ 6
    long = search rules

pub returns : goal.returns
unfolding level_at
returns c = of_first (λ l. (x : (K l).Carrier) → Holds l c.args.self.words x → eqb c.nonzero-2.result 0 ≡ is_zero l x) c.if-level-eq-SECOND.false c.nonzero-2.ensures
