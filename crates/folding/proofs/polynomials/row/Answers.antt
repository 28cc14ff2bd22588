use Rattle.std.proofs.Common.{ℕ, ◌+◌, ◌*◌, ◌^◌, subst, ◌∙◌, arith}
use Rattle.field.specs.Level.{level_at, K}
use Rattle.row.specs.Elements.{el, value_of}
use Rattle.row.specs.Lent.{small_of}
use Rattle.row.specs.Polynomial.{sum, digit, z}
use Rattle.row.specs.Step.{Step}
use Rattle.row.proofs.ElementLaws.{fits_le}
use Rattle.row.proofs.NumberLaws.{room-one}
use Rattle.folding.specs.Weights.{leaf}
use Rattle.folding.specs.Steps.{Leaves}
use Rattle.folding.proofs.WeightLaws.{added_same, leaves_sum}
use Rattle.folding.proofs.polynomials.row.Goals as goal

pub add-requires : goal.add-requires
add-requires c =
    let matrix = c.args.matrix.now in
    let w = c.requires.words in
    let p = c.requires.d_bound in
    let weighed = c.leaves.ensures _ (c.of.ensures _ w.4) in
    let d = c.fold.ensures in
    (w.0, d.words, p.2, fits_le (level_at matrix.level) matrix.d ((matrix.d + 1) * 2 ^ matrix.d) (omega (arith, room-one (matrix.d + 1) matrix.d)) (d.same ∙ weighed.same) p.4)

pub returns : goal.returns
returns c =
    let a = c.args in
    let matrix = a.matrix.now in
    let l = level_at matrix.level in
    let alpha = el l a.alpha.now in
    let x = small_of l matrix.x.now in
    let β = value_of l a.beta.words in
    let weighed = subst (λ e. Step l a.work.now c.leaves.new.dst (λ f g. Leaves (K l) g (matrix.d + 1) 0 e matrix.n alpha x β)) c.power.ensures (c.leaves.ensures _ (c.of.ensures _ c.requires.words.4)) in
    let term = λ (j k : ℕ). z (K l) matrix.d (digit matrix.d a.position) (λ i. el l a.offsets.now (a.at + i)) j k in
    let d = c.add.ensures in (
      record {
        same = d.same;
        words = d.words;
        holds = added_same (K l) (el l a.dst.now) _ _ (λ k. sum (K l) matrix.n (λ j. (K l).mul (leaf (K l) alpha x β j) (term j k))) matrix.d (λ k h. c.fold.ensures.holds k (omega arith) ∙ leaves_sum (K l) _ (matrix.d + 1) (2 ^ matrix.d) matrix.n alpha x β (λ j. term j k) matrix.columns weighed.holds) d.holds;
      },
      c.fold.ensures.words,
    )
