use Rattle.std.proofs.Common.{ℕ, ◌+◌, refl, subst₂, ◌∙◌, arith}
use Rattle.field.specs.Level.{level_at, K}
use Rattle.row.specs.Elements.{el}
use Rattle.row.specs.Lent.{small_of, element_of}
use Rattle.row.specs.Polynomial.{sum, digit, z}
use Rattle.row.specs.Step.{Added}
use Rattle.row.proofs.ElementLaws.{fits_le, holds-value, holds-held}
use Rattle.folding.specs.Weights.{leaf}
use Rattle.folding.proofs.WeightLaws.{shares_none, shares_more}
use Rattle.folding.proofs.polynomials.shares.Goals as goal

pub loop-i-init : goal.loop-i-init
loop-i-init c =
    let a = c.args in
    let matrix = a.matrix.now in
    let l = level_at matrix.level in
    (c.requires.words.1, record { same = refl; words = c.requires.words.0; holds = shares_none (K l) (el l a.dst.now) _ matrix.d })

pub get-weight-requires : goal.get-weight-requires
get-weight-requires c =
    let matrix = c.args.matrix.now in
    (c.requires.words.4, fits_le (level_at matrix.level) (c.loop-i.i + 1) matrix.n (omega (arith, c.requires.d_bound.1)) refl c.requires.d_bound.3)

pub row-requires-clause-words : goal.row-requires-clause-words
row-requires-clause-words c =
    let w = c.requires.words in
    let r = c.loop-i in
    (r.invariant.1.words, r.invariant.0, w.2, w.3, holds-held (level_at c.args.matrix.now.level) c.get-weight.result.words _ c.get-weight.ensures)

pub loop-i-preserved : goal.loop-i-preserved
loop-i-preserved c =
    let a = c.args in
    let matrix = a.matrix.now in
    let l = level_at matrix.level in
    let r = c.loop-i in
    let g = c.get-weight in
    let before = r.invariant.1 in
    let d = c.row.ensures.0 in
    let share = λ (β : (K l).Carrier) (p i k : ℕ). sum (K l) matrix.n (λ j. (K l).mul (leaf (K l) (el l a.alpha.now) (small_of l matrix.x.now) β j) (z (K l) matrix.d (digit matrix.d p) (element_of l matrix.d a.offsets.now i) j k)) in
    let own = subst₂ (λ β p. Added (K l) (el l r.dst) (el l c.row.new.dst) (share β p r.i) matrix.d) (holds-value l g.result.words _ g.ensures) c.from-position.ensures d.holds in
    (c.row.ensures.1, record { same = d.same ∙ before.same; words = d.words; holds = shares_more (K l) (el l a.dst.now) _ matrix.d _ _ r.i before.holds own })
