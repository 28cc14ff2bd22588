use Rattle.std.proofs.Common.{◌≡◌, ℕ, ◌+◌, ◌-◌, ◌*◌, ◌^◌, ap, ap₂, subst, subst₂, sym, ◌∙◌, arith}
use Rattle.field.specs.Level.{level_at, K}
use Rattle.row.specs.Elements.{el}
use Rattle.row.specs.Polynomial.{digit, z}
use Rattle.row.specs.Step.{Doubled}
use Rattle.row.proofs.ElementLaws.{fits_le}
use Rattle.row.proofs.NumberLaws.{many, pow_double, pow_room, room, digit-place}
use Rattle.row.proofs.ProductLaws.{Products, products_none, products_more}
use Rattle.row.proofs.products.tree.Goals as goal

pub loop-t-init : goal.loop-t-init
loop-t-init c =
    let a = c.args in
    let l = level_at a.level in
    let d = c.put.ensures _ c.one.ensures in
    (cc, d.words, products_none (K l) a.d (digit a.d a.position) (λ k. el l a.offsets.now (a.at + k)) (a.d + 1) (el l c.put.new.s) d.holds.here)

pub double-requires : goal.double-requires
double-requires c =
    let a = c.args in
    let l = level_at a.level in
    let r = c.loop-t in
    let n = a.d + 1 in
    let e : n * r.h ≡ n * 2 ^ r.t = ap (λ x. n * x) r.invariant.0 in
    let v = λ (k : ℕ). el l a.offsets.now (a.at + k) in (
      r.invariant.1,
      record { factor = v (a.d - 1 - r.t); table = c.of-multiples.ensures _ c.get-v.ensures },
      omega arith,
      omega arith,
      fits_le l (n * r.h + n * r.h) (n * 2 ^ a.d) (omega (arith, room n a.d r.t (omega arith))) (c.loop-t.auto.buf ∙ (c.put.ensures _ c.one.ensures).same) c.requires.3,
    )

pub overflow_add-h : goal.overflow_add-h
overflow_add-h c =
    let a = c.args in
    omega (arith, c.loop-t.invariant.0, pow_room a.d c.loop-t.t (omega arith), many a.d (2 ^ a.d), c.requires.3.1)

pub loop-t-preserved : goal.loop-t-preserved
loop-t-preserved c =
    let a = c.args in
    let l = level_at a.level in
    let r = c.loop-t in
    let v = λ (k : ℕ). el l a.offsets.now (a.at + k) in
    let d = c.double.ensures (v (a.d - 1 - r.t)) (c.of-multiples.ensures _ c.get-v.ensures) in
    let more = subst₂ (λ h b. Doubled (K l) (el l r.buf) (el l c.double.new.buf) (a.d + 1) h (r.t + 1) b (v (a.d - 1 - r.t)) h) r.invariant.0 (sym (digit-place a.d a.position r.t (omega arith))) d.holds in
    (ap₂ ◌+◌ r.invariant.0 r.invariant.0 ∙ pow_double r.t, d.words, products_more (K l) a.d (digit a.d a.position) v (a.d + 1) _ _ r.t (omega arith) r.invariant.2 more)

pub returns : goal.returns
unfolding z
returns c =
    let a = c.args in
    let l = level_at a.level in
    let r = c.loop-t in
    let done : r.t ≡ a.d = omega arith in
    record {
      same = r.auto.buf ∙ (c.put.ensures _ c.one.ensures).same;
      words = r.invariant.1;
      holds = subst (Products (K l) a.d (digit a.d a.position) (λ k. el l a.offsets.now (a.at + k)) (a.d + 1) (el l r.buf)) done r.invariant.2;
    }
