use Rattle.std.proofs.Common.{◌≡◌, ℕ, ◌+◌, ◌*◌, refl, subst, ◌∙◌, arith}
use Rattle.field.specs.Level.{level_at, K}
use Rattle.row.specs.Elements.{el, value_of}
use Rattle.row.specs.Lent.{entry_of}
use Rattle.row.specs.Step.{Step, AddedDown}
use Rattle.row.proofs.SumLaws.{down_more}
use Rattle.row.proofs.ElementLaws.{fits_le}
use Rattle.row.proofs.NumberLaws.{row-le}
use Rattle.row.proofs.sums.spread.Goals as goal

pub add_at-requires : goal.add_at-requires
add_at-requires c =
    let a = c.args in
    let e = c.loop-e.e in
    (c.loop-e.invariant.words, fits_le (level_at a.level) (a.a + a.s * e + a.k + 1) (a.a + a.s * a.m) (omega (arith, row-le a.s e a.m (omega arith))) c.loop-e.invariant.same c.requires.6)

pub loop-e-preserved : goal.loop-e-preserved
loop-e-preserved c =
    let a = c.args in
    let l = level_at a.level in
    let r = c.loop-e in
    let terms = λ (e : ℕ). (K l).mul (entry_of l a.n a.h.now e a.i) (value_of l a.y.words) in
    let d = c.add_at.ensures (terms r.e) (c.scaled-term.ensures _ (c.requires.2 _) (c.of-multiples.ensures _ c.requires.1)) in
    record { same = d.same ∙ r.invariant.same; words = d.words; holds = down_more (K l) (el l a.dst.now) a.a a.s a.k terms c.requires.5 _ _ r.e _ r.invariant.holds d.holds refl }

pub returns : goal.returns
returns c =
    let a = c.args in
    let l = level_at a.level in
    let done : c.loop-e.e ≡ a.m = omega arith in
    subst (λ m. Step l a.dst.now c.loop-e.dst (λ f g. AddedDown (K l) f g a.a a.s a.k (λ e. (K l).mul (entry_of l a.n a.h.now e a.i) (value_of l a.y.words)) m)) done c.loop-e.invariant
