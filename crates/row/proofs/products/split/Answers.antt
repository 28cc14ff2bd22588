use Rattle.std.proofs.Common.{◌≡◌, not, ℕ, ◌+◌, ◌<◌, subst, sym, refl, ◌∙◌, arith}
use Rattle.std.proofs.Math.Nat.{le_refl}
use Rattle.field.specs.Level.{level_at, K}
use Rattle.field.specs.Packed.{Holds}
use Rattle.field.specs.Word.{odd}
use Rattle.row.specs.Elements.{el}
use Rattle.row.specs.Polynomial.{up}
use Rattle.row.specs.Step.{Step, Factored}
use Rattle.row.proofs.ElementLaws.{fits_le, holds-held}
use Rattle.row.proofs.ProductLaws.{up-zero, up_suc, times-low, times-top, factored_none, factored_ahead, factored_more}
use Rattle.row.proofs.products.split.Goals as goal

pub loop-e-init : goal.loop-e-init
loop-e-init c =
    let a = c.args in
    let l = level_at a.level in
    let f = el l a.buf.now in (
      subst (Holds l c.zero-carry.result.words) (sym (up-zero (K l) (λ i. f (a.a + i)))) c.zero-carry.ensures,
      λ y t. record { same = refl; words = c.requires.0; holds = factored_none (K l) f a.a a.b a.s (odd a.w) y },
    )

pub put_both-requires : goal.put_both-requires
put_both-requires c =
    let a = c.args in
    let l = level_at a.level in
    let r = c.loop-e in
    let d = r.invariant.1 c.requires.1.factor c.requires.1.table in
    let product = c.times.ensures _ _ c.requires.1.table c.get-old.ensures in (
      d.words,
      holds-held l c.times.result.words _ product,
      holds-held l r.carry.words _ r.invariant.0,
      c.requires.2,
      omega arith,
      fits_le l (a.b + r.e + 1) (a.b + a.s + 1) (omega arith) d.same c.requires.4,
    )

pub loop-e-preserved : goal.loop-e-preserved
loop-e-preserved c =
    let a = c.args in
    let l = level_at a.level in
    let r = c.loop-e in
    let f = el l a.buf.now in
    let b = odd a.w in
    let P = λ (i : ℕ). f (a.a + i) in
    let inner : r.e < a.s = omega arith in
    let old : el l r.buf (a.a + r.e) ≡ P r.e = factored_ahead (K l) f a.a a.b a.s b c.requires.1.factor r.e c.requires.3 (omega arith) (el l r.buf) (r.invariant.1 c.requires.1.factor c.requires.1.table).holds in
    let read = subst (Holds l c.get-old.result.words) old c.get-old.ensures in (
      subst (Holds l c.get-old.result.words) (sym (up_suc (K l) P r.e)) read,
      λ y t.
          let d = c.put_both.ensures _ _ (c.times.ensures y (P r.e) t read) r.invariant.0 in
          let held = r.invariant.1 y t in
          record {
            same = d.same ∙ held.same;
            words = d.words;
            holds = factored_more (K l) f a.a a.b a.s b y r.e c.requires.3 (omega arith) _ _ _ _ held.holds d.holds (times-low (K l) a.s (not b) y P r.e inner) (times-low (K l) a.s b y P r.e inner);
          },
    )

pub put_both-requires-2 : goal.put_both-requires-2
put_both-requires-2 c =
    let a = c.args in
    let l = level_at a.level in
    let r = c.loop-e in
    let d = r.invariant.1 c.requires.1.factor c.requires.1.table in
    (d.words, holds-held l c.zero.result.words _ c.zero.ensures, holds-held l r.carry.words _ r.invariant.0, c.requires.2, omega arith, fits_le l (a.b + a.s + 1) (a.b + a.s + 1) (omega arith) d.same c.requires.4)

pub returns : goal.returns
returns c y t =
    let a = c.args in
    let l = level_at a.level in
    let r = c.loop-e in
    let f = el l a.buf.now in
    let b = odd a.w in
    let P = λ (i : ℕ). f (a.a + i) in
    let done : r.e ≡ a.s = omega arith in
    let carry = subst (λ e. Holds l r.carry.words (up (K l) P e)) done r.invariant.0 in
    let held = subst (λ e. Step l a.buf.now r.buf (λ f g. Factored (K l) f g a.a a.b a.s b y e)) done (r.invariant.1 y t) in
    let d = c.put_both-2.ensures _ _ c.zero.ensures carry in
    record {
      same = d.same ∙ held.same;
      words = d.words;
      holds = factored_more (K l) f a.a a.b a.s b y a.s c.requires.3 (le_refl a.s) _ _ _ _ held.holds d.holds (times-top (K l) a.s (not b) y P) (times-top (K l) a.s b y P);
    }
