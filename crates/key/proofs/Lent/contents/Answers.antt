use mathlib.Core.Path.{sym, ◌∙◌}
use mathlib.Core.List.{[], ◌∷◌}
use native.Mathlib.Omega.{arith}
use borrow.Author.Tests.{eq-eqb}
use Rattle.field.specs.Level.{level_at}
use Rattle.field.proofs.Fields.{bounded}
use Rattle.key.proofs.Fine.{each_within}
use Rattle.key.proofs.Lent.contents.Goals as goal

pub short-requires : goal.short-requires
short-requires c =
    let s = c.args.self.now in
    let level = c.args.level in
    let w = each_within (level_at level) (s.h.now ∷ s.x.now ∷ s.y.now ∷ []) (sym c.excess.ensures ∙ eq-eqb c.excess.result 0 c.if-excess-ne0.false) in
    (c.requires.1, c.requires.2, omega (arith, c.requires.0.fewer), c.requires.0.most, λ k. omega (arith, w.0 k, (bounded level).limit))
