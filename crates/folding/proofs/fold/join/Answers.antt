use Rattle.std.proofs.Common.{◌≡◌, ℕ, ◌+◌, ◌<◌, subst, sym, refl, ◌∙◌, arith}
use Rattle.std.proofs.Math.Nat.{le_refl}
use Rattle.field.specs.Level.{level_at, K}
use Rattle.field.specs.Packed.{Holds}
use Rattle.field.specs.Word.{odd}
use Rattle.row.specs.Elements.{el}
use Rattle.row.specs.Step.{Step}
use Rattle.folding.specs.Steps.{Joined}
use Rattle.folding.proofs.FoldLaws.{carried, carried_none, carried_more, joined-none, joined-first, joined-second, joined_more, joined-low, joined-top}
use Rattle.folding.proofs.fold.join.Goals as goal

pub loop-e-init : goal.loop-e-init
loop-e-init c =
    let a = c.args in
    let l = level_at a.level in
    let f = el l a.buf.now in (
      subst (Holds l c.zero-carry.result.words) (sym (carried_none (K l) (odd a.w) (λ i. f (a.a + i)) (λ i. f (a.b + i)))) c.zero-carry.ensures,
      λ y t. record { same = refl; words = c.requires.0; holds = joined-none (K l) f a.a a.b a.s (odd a.w) y },
    )

pub loop-e-preserved : goal.loop-e-preserved
loop-e-preserved c =
    let a = c.args in
    let l = level_at a.level in
    let r = c.loop-e in
    let f = el l a.buf.now in
    let b = odd a.w in
    let P = λ (i : ℕ). f (a.a + i) in
    let Q = λ (i : ℕ). f (a.b + i) in
    let inner : r.e < a.s = omega arith in
    let some = c.requires.1.factor in
    let held = (r.invariant.1 some c.requires.1.table).holds in
    let first = subst (Holds l c.get-x.result.words) (joined-first (K l) f a.a a.b a.s b some r.e c.requires.3 (omega arith) (el l r.buf) held) c.get-x.ensures in
    let second = subst (Holds l c.get-y.result.words) (joined-second (K l) f a.a a.b a.s b some r.e c.requires.3 (omega arith) (el l r.buf) held) c.get-y.ensures in (
      subst (Holds l c.chosen-carry.result.words) (carried_more (K l) b P Q r.e) (c.chosen-carry.ensures _ _ first second),
      λ y t.
          let d = c.put.ensures _ (c.plus-in-loop-e.ensures _ _ (c.times-product.ensures y _ t (c.plus.ensures _ _ first second)) r.invariant.0) in
          let before = r.invariant.1 y t in
          record {
            same = d.same ∙ before.same;
            words = d.words;
            holds = joined_more (K l) f a.a a.b a.s b y r.e c.requires.3 (omega arith) _ _ _ before.holds d.holds (joined-low (K l) a.s b y P Q r.e inner);
          },
    )

pub returns : goal.returns
returns c y t =
    let a = c.args in
    let l = level_at a.level in
    let r = c.loop-e in
    let f = el l a.buf.now in
    let b = odd a.w in
    let P = λ (i : ℕ). f (a.a + i) in
    let Q = λ (i : ℕ). f (a.b + i) in
    let done : r.e ≡ a.s = omega arith in
    let carry = subst (λ e. Holds l r.carry.words (carried (K l) b P Q e)) done r.invariant.0 in
    let before = subst (λ e. Step l a.buf.now r.buf (λ f g. Joined (K l) f g a.a a.b a.s b y e)) done (r.invariant.1 y t) in
    let d = c.put-2.ensures _ carry in
    record {
      same = d.same ∙ before.same;
      words = d.words;
      holds = joined_more (K l) f a.a a.b a.s b y a.s c.requires.3 (le_refl a.s) _ _ _ before.holds d.holds (joined-top (K l) a.s b y P Q);
    }
