use Rattle.std.proofs.Common.{◌+◌, length, refl, sym, ap, ◌∙◌, arith}
use Rattle.field.specs.Level.{level_at, K}
use Rattle.row.specs.Elements.{el}
use Rattle.row.specs.Lent.{entry_of}
use Rattle.row.proofs.ElementLaws.{fits_le, cleared-words, cleared-el}
use Rattle.folding.proofs.LeafLaws.{multiplier-none, multiplier_more}
use Rattle.folding.proofs.leaves.multipliers.Goals as goal

pub loop-e-init : goal.loop-e-init
loop-e-init c =
    let a = c.args in
    let l = level_at a.level in
    let long = length a.dst.now in (
      cleared-words l long c.clear.ensures,
      λ i p. cleared-el l long i c.clear.ensures (fits_le l (i + 1) a.n (omega arith) refl c.requires.4) ∙ sym (multiplier-none (K l) a.n (entry_of l a.n a.h.now) (el l a.alpha.now) i),
    )

pub loop-e-preserved : goal.loop-e-preserved
loop-e-preserved c =
    let a = c.args in
    let l = level_at a.level in
    let r = c.loop-e in
    let h = entry_of l a.n a.h.now in
    let y = el l a.alpha.now (a.n + r.e) in
    let d = c.add_row.ensures y (c.of.ensures y c.get-factor.ensures) in
    (d.words, λ i p. d.holds.low i p ∙ ap (λ v. (K l).add v ((K l).mul (h r.e i) y)) (r.invariant.1 i p) ∙ multiplier_more (K l) a.n r.e h (el l a.alpha.now) i)
