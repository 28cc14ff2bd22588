use mathlib.Core.List.{[], ◌∷◌}
use Rattle.lists.proofs.Lent.{each_long}
use Rattle.field.specs.Level.{FIRST, level_at}
use Rattle.key.specs.Key.{lengths, slices_of}
use Rattle.key.proofs.Sized.{first-matrix}
use Rattle.key.proofs.Fine.{withins_more, withins-last}
use Rattle.constraints.specs.Entry.{values_lent}
use Rattle.constraints.proofs.Fine.{sizes-passed}
use mathlib.Core.Path.{◌≡◌, refl, sym, ◌∙◌}
use Rattle.lists.specs.Lent.{long}
use Rattle.key.specs.declared.Code.TheVariants.{Column}
use Rattle.key.specs.Key.{below, withins}
use Rattle.key.proofs.Checked.{told-key}
use borrow.Author.Rules.{rules}
use Rattle.constraints.proofs.values_refused.Goals as goal

pub contents-requires : goal.contents-requires
contents-requires c =
    let a = c.args in
    let s = sizes-passed a.lent.now.key c.sizes.ensures c.in_ok-sizes.was in
    (s, (each_long (values_lent (lengths (level_at FIRST) a.lent.now.key) (slices_of a.lent.now) a.t.now a.q.now a.delta.now a.p.now) (sym c.if-not-values_lengths.ensures)).0, first-matrix a.lent.now.key s)

pub returns-in_err-contents : goal.returns-in_err-contents
returns-in_err-contents c =
    let a = c.args in
    let s = a.lent.now in
    let same : c.from_residual-in_err-contents.result ≡ c.contents.result = search rules in
    same ∙ told-key (level_at FIRST) s.key (long (values_lent (lengths (level_at FIRST) s.key) (slices_of s) a.t.now a.q.now a.delta.now a.p.now)) (slices_of s) (below 1 a.t.now) (withins (level_at FIRST) (a.q.now ∷ a.delta.now ∷ [])) Column []
    (sym c.sizes.ensures ∙ c.in_ok-sizes.was) 0 c.if-not-values_lengths.ensures refl c.contents.ensures c.in_err-contents.was

pub returns : goal.returns
returns c =
    let a = c.args in
    let e = withins_more (level_at FIRST) a.q.now (a.delta.now ∷ []) c.excess.result c.excess-2.result c.excess.ensures (withins-last (level_at FIRST) a.delta.now c.excess-2.result c.excess-2.ensures) in
    search rules
