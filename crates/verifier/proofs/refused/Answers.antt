use mathlib.Core.List.{[], ◌∷◌}
use mathlib.Core.Bool.{true}
use mathlib.Core.Path.{◌≡◌, refl, sym, ◌∙◌}
use Rattle.refusal.specs.Answer.{first_of, Done}
use Rattle.key.specs.declared.Code.TheVariants.{Column}
use Rattle.lists.specs.Lent.{long}
use borrow.Author.Rules.{rules}
use lib.Bits.{bit_or}
use Rattle.lists.proofs.Lent.{each_long}
use Rattle.field.specs.Level.{FIRST, level_at}
use Rattle.key.specs.Key.{slices_of, lengths, contents, below, withins}
use Rattle.key.proofs.Sized.{first-matrix}
use Rattle.key.proofs.Checked.{told, told-key}
use Rattle.key.proofs.Fine.{withins_more, withins-last}
use Rattle.constraints.proofs.Fine.{sizes-passed}
use Rattle.verifier.specs.Entry.{verify_lent}
use Rattle.verifier.proofs.refused.Goals as goal

pub contents-requires : goal.contents-requires
contents-requires c =
    let a = c.args in
    let s = sizes-passed a.lent.now.key c.sizes.ensures c.in_ok-sizes.was in
    (s, (each_long (verify_lent (lengths (level_at FIRST) a.lent.now.key) (slices_of a.lent.now) a.t.now a.q.now a.delta.now a.masks.now a.alpha.now a.a.now) (search rules)).0, first-matrix a.lent.now.key s)

pub returns-in-Err : goal.returns-in-Err
returns-in-Err c =
    let a = c.args in
    let s = a.lent.now in
    let whole : true ≡ long (verify_lent (lengths (level_at FIRST) s.key) (slices_of s) a.t.now a.q.now a.delta.now a.masks.now a.alpha.now a.a.now) = search rules in
    sym c.in-Err.is ∙ told-key (level_at FIRST) s.key _ (slices_of s) (below 1 a.t.now) (withins (level_at FIRST) (a.q.now ∷ a.delta.now ∷ a.masks.now ∷ a.alpha.now ∷ a.a.now ∷ [])) Column []
    (sym c.sizes.ensures ∙ c.in_ok-sizes.was) 0 whole refl c.contents.ensures c.in-Err.is

pub returns : goal.returns
returns c =
    let a = c.args in
    let l = level_at FIRST in
    let lent = slices_of a.lent.now in
    let whole : true ≡ long (verify_lent (lengths (level_at FIRST) a.lent.now.key) (slices_of a.lent.now) a.t.now a.q.now a.delta.now a.masks.now a.alpha.now a.a.now) = search rules in
    let well : first_of (contents (level_at FIRST) a.lent.now.key (slices_of a.lent.now)) ≡ Done = search rules in
    told l a.lent.now.key _ lent (below 1 a.t.now) (withins l (a.q.now ∷ a.delta.now ∷ a.masks.now ∷ a.alpha.now ∷ a.a.now ∷ [])) Column
    (sym c.sizes.ensures ∙ c.in_ok-sizes.was) 0 whole refl well c.material.ensures c.over.ensures
    (withins_more l a.q.now (a.delta.now ∷ a.masks.now ∷ a.alpha.now ∷ a.a.now ∷ []) c.excess.result (bit_or c.excess-2.result (bit_or c.excess-3.result (bit_or c.excess-4.result c.excess-5.result))) c.excess.ensures
    (withins_more l a.delta.now (a.masks.now ∷ a.alpha.now ∷ a.a.now ∷ []) c.excess-2.result (bit_or c.excess-3.result (bit_or c.excess-4.result c.excess-5.result)) c.excess-2.ensures
    (withins_more l a.masks.now (a.alpha.now ∷ a.a.now ∷ []) c.excess-3.result (bit_or c.excess-4.result c.excess-5.result) c.excess-3.ensures
    (withins_more l a.alpha.now (a.a.now ∷ []) c.excess-4.result c.excess-5.result c.excess-4.ensures (withins-last l a.a.now c.excess-5.result c.excess-5.ensures)))))
    refl
