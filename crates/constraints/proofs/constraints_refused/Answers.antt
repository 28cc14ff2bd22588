use Rattle.lists.proofs.Lent.{each_long}
use Rattle.field.specs.Level.{FIRST, level_at}
use Rattle.field.proofs.Fields.{bounded}
use Rattle.key.specs.Key.{lengths, slices_of}
use Rattle.key.proofs.Sized.{first-matrix}
use Rattle.constraints.specs.Entry.{constraints_lent}
use Rattle.constraints.proofs.Fine.{sizes-passed}
use mathlib.Core.Path.{◌≡◌, refl, sym, ◌∙◌}
use mathlib.Core.List.{[], ◌∷◌}
use borrow.Author.Rules.{rules}
use Rattle.lists.specs.Lent.{long}
use Rattle.key.specs.Key.{below, codes_of, withins}
use Rattle.key.proofs.Checked.{told-key}
use native.Mathlib.Omega.{arith}
use Rattle.constraints.proofs.constraints_refused.Goals as goal

pub contents-requires : goal.contents-requires
contents-requires c =
    let a = c.args in
    let s = sizes-passed a.lent.now.key c.sizes.ensures c.in_ok-sizes.was in
    (s, (each_long (constraints_lent (lengths (level_at FIRST) a.lent.now.key) (slices_of a.lent.now) a.positions.now a.u.now a.v.now a.t.now a.p.now) (sym c.if-not-constraints_lengths.ensures)).0, first-matrix a.lent.now.key s)

pub codes-code-requires : goal.codes-code-requires
codes-code-requires c = let s = sizes-passed c.args.lent.now.key c.sizes.ensures c.in_ok-sizes.was in (omega (arith, s.two), omega (arith, s.most, (bounded FIRST).most))

pub returns-in_err-contents : goal.returns-in_err-contents
returns-in_err-contents c =
    let a = c.args in
    let s = a.lent.now in
    let same : c.from_residual-in_err-contents.result ≡ c.contents.result = search rules in
    same ∙ told-key (level_at FIRST) s.key (long (constraints_lent (lengths (level_at FIRST) s.key) (slices_of s) a.positions.now a.u.now a.v.now a.t.now a.p.now)) (slices_of s) (below 1 a.u.now) (withins (level_at FIRST) (a.v.now ∷ [])) (codes_of s.key.n a.positions.now) []
    (sym c.sizes.ensures ∙ c.in_ok-sizes.was) 0 c.if-not-constraints_lengths.ensures refl c.contents.ensures c.in_err-contents.was
