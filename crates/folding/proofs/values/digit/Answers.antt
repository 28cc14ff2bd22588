use Rattle.std.proofs.Common.{◌≡◌, ℕ, ◌+◌, ap, subst, ◌∙◌, arith}
use Rattle.field.specs.Level.{level_at, K}
use Rattle.row.specs.Elements.{el}
use Rattle.row.specs.Step.{Step}
use Rattle.row.proofs.ElementLaws.{fits_le}
use Rattle.folding.specs.Steps.{Folded}
use Rattle.folding.proofs.RowLaws.{folded_more}
use Rattle.folding.proofs.values.digit.Goals as goal

pub get-named-requires : goal.get-named-requires
get-named-requires c =
    let a = c.args in
    let r = c.loop-p in
    let d = r.invariant c.requires.1.factor c.requires.2.factor c.requires.1.table c.requires.2.table in
    (d.words, fits_le (level_at a.level) (r.p + a.place + 1) (a.h + a.h) (omega arith) d.same c.requires.4)

pub fold-requires : goal.fold-requires
fold-requires c =
    let a = c.args in
    let r = c.loop-p in
    let d = r.invariant c.requires.1.factor c.requires.2.factor c.requires.1.table c.requires.2.table in
    (d.words, fits_le (level_at a.level) (r.p + a.h + 1) (a.h + a.h) (omega arith) d.same c.requires.4)

pub loop-p-preserved : goal.loop-p-preserved
loop-p-preserved c y Δ t u =
    let a = c.args in
    let l = level_at a.level in
    let r = c.loop-p in
    let named = λ (p : ℕ). (K l).mul Δ (el l a.work.now (p + a.place)) in
    let v = (K l).mul Δ (el l r.work (r.p + a.place)) in
    let d = c.fold.ensures y v t (c.times.ensures Δ _ u c.get-named.ensures) in
    let before = r.invariant y Δ t u in
    let old = before.holds.ahead (r.p + a.place) (omega arith) in
    record { same = d.same ∙ before.same; words = d.words; holds = folded_more (K l) (el l a.work.now) _ _ a.h y named r.p v before.holds d.holds (ap ((K l).mul Δ) old) }

pub returns : goal.returns
returns c y Δ t u =
    let a = c.args in
    let l = level_at a.level in
    let r = c.loop-p in
    let done : r.p ≡ a.h = omega arith in
    subst (λ p. Step l a.work.now r.work (λ f g. Folded (K l) f g a.h y (λ i. (K l).mul Δ (f (i + a.place))) p)) done (r.invariant y Δ t u)
