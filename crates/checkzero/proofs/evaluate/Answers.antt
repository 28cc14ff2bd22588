use Rattle.std.proofs.Common.{◌≡◌, suc, ◌-◌, subst, sym, arith}
use Rattle.field.specs.Level.{level_at, K}
use Rattle.field.specs.Packed.{Holds}
use Rattle.row.specs.Elements.{el, value_of}
use Rattle.checkzero.proofs.Laws.{above-none, above_more}
use Rattle.checkzero.proofs.evaluate.Goals as goal

pub loop-k-init : goal.loop-k-init
loop-k-init c =
    let a = c.args in
    let l = level_at a.level in
    subst (Holds l c.zero-total.result.words) (sym (above-none (K l) (el l a.a.now) (value_of l a.delta.words) a.count)) c.zero-total.ensures

pub loop-k-preserved : goal.loop-k-preserved
loop-k-preserved c =
    let a = c.args in
    let l = level_at a.level in
    let k = c.loop-k.k in
    let Δ = value_of l a.delta.words in
    let before : k ≡ suc (k - 1) = omega arith in
    subst (Holds l c.plus-total.result.words) (above_more (K l) (el l a.a.now) Δ a.count k (k - 1) before (omega arith)) (c.plus-total.ensures _ _ c.get-lowest.ensures (c.times.ensures Δ _ (c.of-multiples.ensures Δ c.requires.1) c.loop-k.invariant))
