use Rattle.std.proofs.Common.{subst, sym}
use Rattle.field.specs.Level.{level_at, K}
use Rattle.field.specs.Packed.{Holds}
use Rattle.row.specs.Elements.{value_of}
use Rattle.row.specs.Polynomial.{raise}
use Rattle.row.proofs.ValueLaws.{raise-none, raise_more}
use Rattle.row.proofs.products.raised.Goals as goal

pub loop-init : goal.loop-init
loop-init c =
    let l = level_at c.args.level in
    subst (Holds l c.one-power.result.words) (sym (raise-none (K l) (value_of l c.args.delta.words))) c.one-power.ensures

pub loop-preserved : goal.loop-preserved
loop-preserved c =
    let l = level_at c.args.level in
    let y = value_of l c.args.delta.words in
    let i = c.loop.counter in
    subst (Holds l c.times-power.result.words) (raise_more (K l) y i) (c.times-power.ensures y (raise (K l) y i) (c.of-multiples.ensures y c.requires) c.loop.invariant)
