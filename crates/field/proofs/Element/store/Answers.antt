use mathlib.Core.Path.{subst, ◌≡◌}
use Prim.Native.Nat.{◌+◌, ◌≤◌}
use native.Mathlib.Omega.{arith}
use lib.ListN.{length}
use Rattle.field.specs.Word.{words}
use Rattle.lists.specs.Words.{put}
use Rattle.field.proofs.Named.{of_first, of_second, at_first, at_second}
use Rattle.field.specs.Packed.{Holds}
use Rattle.field.specs.Level.{level_at, K}
use Rattle.field.specs.declared.Level.{Level}
use borrow.Author.Rules.{rules}
use Rattle.field.proofs.Element.store.Goals as goal

pub store-requires : goal.store-requires
unfolding level_at
store-requires c = (omega (arith, long), subst (λ (l : Level). c.args.at + l.coordinates ≤ length c.args.s.now) (at_second c.if-level-eq-SECOND.true) c.requires)
  where
    long : length c.args.self.words ≡ 6
    long = search rules

pub store-requires-else-level-eq-SECOND : goal.store-requires-else-level-eq-SECOND
unfolding level_at
store-requires-else-level-eq-SECOND c = (omega (arith, long), subst (λ (l : Level). c.args.at + l.coordinates ≤ length c.args.s.now) (at_first c.if-level-eq-SECOND.false) c.requires)
  where
    long : length c.args.self.words ≡ 6
    long = search rules

pub returns-then-level-eq-SECOND : goal.returns-then-level-eq-SECOND
unfolding level_at
returns-then-level-eq-SECOND c = of_second (λ l. (x : (K l).Carrier) → Holds l c.args.self.words x → c.store.new.s ≡ put c.args.at (words l x) c.args.s.now) c.if-level-eq-SECOND.true c.store.ensures

pub returns-else-level-eq-SECOND : goal.returns-else-level-eq-SECOND
unfolding level_at
returns-else-level-eq-SECOND c = of_first (λ l. (x : (K l).Carrier) → Holds l c.args.self.words x → c.store-else-level-eq-SECOND.new.s ≡ put c.args.at (words l x) c.args.s.now) c.if-level-eq-SECOND.false c.store-else-level-eq-SECOND.ensures
