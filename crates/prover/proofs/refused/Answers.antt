use mathlib.Core.Bool.{true}
use Rattle.lists.specs.Lent.{long}
use mathlib.Core.List.{[], ◌∷◌}
use lib.Bits.{bit_or}
use Rattle.lists.proofs.Lent.{each_long}
use Rattle.field.specs.Level.{FIRST, level_at}
use Rattle.field.proofs.Fields.{bounded}
use Rattle.key.specs.Key.{slices_of, lengths, below, code_at, codes_of, withins, spare_row}
use Rattle.key.proofs.Sized.{first-matrix}
use Rattle.key.proofs.Codes.{at-number}
use Rattle.key.proofs.Checked.{told-key, told-spare}
use Rattle.key.proofs.Fine.{withins_more, withins-last}
use Rattle.constraints.proofs.Fine.{sizes-passed}
use Rattle.prover.specs.Entry.{prove_lent}
use mathlib.Core.Path.{◌≡◌, refl, sym, ap, ◌∙◌}
use native.Mathlib.Omega.{arith}
use borrow.Author.Rules.{rules}
use Rattle.prover.proofs.refused.Goals as goal

pub contents-requires : goal.contents-requires
contents-requires c =
    let a = c.args in
    let s = sizes-passed a.lent.now.key c.sizes.ensures c.in_ok-sizes.was in
    (s, (each_long (prove_lent (lengths (level_at FIRST) a.lent.now.key) (slices_of a.lent.now) a.positions.now a.u.now a.v.now a.r.now a.s.now a.alpha.now a.t.now a.a.now) (search rules)).0, first-matrix a.lent.now.key s)

pub codes-requires : goal.codes-requires
codes-requires c = let s = sizes-passed c.args.lent.now.key c.sizes.ensures c.in_ok-sizes.was in (omega (arith, s.two), omega (arith, s.most, (bounded FIRST).most))

pub returns-in_err-contents : goal.returns-in_err-contents
returns-in_err-contents c =
    let a = c.args in
    let s = a.lent.now in
    let whole : true ≡ long (prove_lent (lengths (level_at FIRST) s.key) (slices_of s) a.positions.now a.u.now a.v.now a.r.now a.s.now a.alpha.now a.t.now a.a.now) = search rules in
    let same : c.from_residual-in_err-contents.result ≡ c.contents.result = search rules in
    same ∙ told-key (level_at FIRST) s.key _ (slices_of s) (below 1 a.u.now) (withins (level_at FIRST) (a.v.now ∷ a.r.now ∷ a.s.now ∷ a.alpha.now ∷ [])) (codes_of s.key.n a.positions.now) (spare_row (codes_of s.key.n a.positions.now))
    (sym c.sizes.ensures ∙ c.in_ok-sizes.was) 0 whole refl c.contents.ensures c.in_err-contents.was

pub returns : goal.returns
returns c =
    let a = c.args in
    let whole : true ≡ long (prove_lent (lengths (level_at FIRST) a.lent.now.key) (slices_of a.lent.now) a.positions.now a.u.now a.v.now a.r.now a.s.now a.alpha.now a.t.now a.a.now) = search rules in
    told-spare (level_at FIRST) a.lent.now.key _ (slices_of a.lent.now) (below 1 a.u.now) (withins (level_at FIRST) (a.v.now ∷ a.r.now ∷ a.s.now ∷ a.alpha.now ∷ [])) (codes_of a.lent.now.key.n a.positions.now)
    (sym c.sizes.ensures ∙ c.in_ok-sizes.was) 0 whole refl (sym c.contents.ensures ∙ c.in_ok-contents.was) c.material.ensures
    c.over.ensures
    (withins_more (level_at FIRST) a.v.now (a.r.now ∷ a.s.now ∷ a.alpha.now ∷ []) c.excess.result (bit_or c.excess-2.result (bit_or c.excess-3.result c.excess-4.result)) c.excess.ensures (withins_more (level_at FIRST) a.r.now (a.s.now ∷ a.alpha.now ∷ []) c.excess-2.result (bit_or c.excess-3.result c.excess-4.result) c.excess-2.ensures (withins_more (level_at FIRST) a.s.now (a.alpha.now ∷ []) c.excess-3.result c.excess-4.result c.excess-3.ensures (withins-last (level_at FIRST) a.alpha.now c.excess-4.result c.excess-4.ensures))))
    (ap code_at c.codes.ensures ∙ at-number (codes_of a.lent.now.key.n a.positions.now))
