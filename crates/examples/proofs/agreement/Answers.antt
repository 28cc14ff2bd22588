use mathlib.Core.Path.{ap, ◌∙◌}
use mathlib.Core.List.{List}
use Prim.Native.Nat.{ℕ}
use Rattle.field.specs.Level.{FIRST, level_at}
use Rattle.key.specs.Key.{slices_of}
use Rattle.constraints.specs.Slices.{element_at}
use Rattle.constraints.proofs.Done.{values-done}
use Rattle.examples.proofs.agreement.Goals as goal

pub returns : goal.returns
returns c written valued honest j l =
    let a = c.args in
    ap (λ (s : List ℕ). element_at (level_at FIRST) s j) (values-done (level_at FIRST) a.lent.now.key (slices_of a.lent.now) _ a.q.now a.delta.now a.values.now c.values-valued.ensures.outcome valued)
    ∙ (c.constraints-written.ensures.truth written).agrees.each a.q.now a.delta.now honest j l
