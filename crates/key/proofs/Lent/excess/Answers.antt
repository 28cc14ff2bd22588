use mathlib.Core.List.{[], ◌∷◌}
use Rattle.field.specs.Level.{level_at}
use Rattle.key.proofs.Fine.{withins_more, withins-last}
use Rattle.key.proofs.Lent.excess.Goals as goal

pub returns : goal.returns
returns c =
    let s = c.args.self.now in
    let l = level_at c.args.level in
    let h = c.excess in
    let x = c.excess-2 in
    let y = c.excess-3 in
    withins_more l s.h.now (s.x.now ∷ s.y.now ∷ []) h.result _ h.ensures
    (withins_more l s.x.now (s.y.now ∷ []) x.result y.result x.ensures (withins-last l s.y.now y.result y.ensures))
