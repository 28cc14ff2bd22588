use Rattle.std.proofs.Common.{◌≡◌, not, ◌+◌, ◌^◌, ap₂, subst, subst₂, sym, ◌∙◌, arith}
use Rattle.field.specs.Binary.{bit}
use Rattle.field.specs.Level.{level_at, K}
use Rattle.row.specs.Elements.{el}
use Rattle.row.specs.Polynomial.{digit, z}
use Rattle.row.specs.Step.{Twofold}
use Rattle.row.proofs.ElementLaws.{fits_le}
use Rattle.row.proofs.NumberLaws.{pow_double, pow_room, digit-place}
use Rattle.row.proofs.ValueLaws.{Ends, ends-none, tops_more, top-end}
use Rattle.row.proofs.products.top_tree.Goals as goal

pub loop-t-init : goal.loop-t-init
loop-t-init c =
    let a = c.args in
    let l = level_at a.level in
    let d = c.put.ensures _ c.one.ensures in
    (cc, d.words, ends-none (K l) a.d (digit a.d a.position) (λ k. (K l).zero) (K l).one (el l c.put.new.s) d.holds.here)

pub fork-requires : goal.fork-requires
fork-requires c =
    let a = c.args in
    let r = c.loop-t in
    (r.invariant.1, omega arith, fits_le (level_at a.level) (r.h + r.h) (2 ^ a.d) (omega (arith, r.invariant.0, pow_room a.d r.t (omega arith))) (r.auto.buf ∙ (c.put.ensures _ c.one.ensures).same) c.requires.2)

pub overflow_add-h : goal.overflow_add-h
overflow_add-h c = omega (arith, c.loop-t.invariant.0, pow_room c.args.d c.loop-t.t (omega arith), c.requires.2.1)

pub loop-t-preserved : goal.loop-t-preserved
loop-t-preserved c =
    let a = c.args in
    let l = level_at a.level in
    let r = c.loop-t in
    let d = c.fork.ensures in
    let more = subst₂ (λ h b. Twofold (K l) (el l r.buf) (el l c.fork.new.buf) h (bit (K l) (not b)) (bit (K l) b) h) r.invariant.0 (sym (digit-place a.d a.position r.t (omega arith))) d.holds in
    (ap₂ ◌+◌ r.invariant.0 r.invariant.0 ∙ pow_double r.t, d.words, tops_more (K l) a.d (digit a.d a.position) _ _ r.t (omega arith) r.invariant.2 more)

pub returns : goal.returns
unfolding z
returns c =
    let a = c.args in
    let l = level_at a.level in
    let r = c.loop-t in
    let done : r.t ≡ a.d = omega arith in
    let ends = subst (Ends (K l) a.d (digit a.d a.position) (λ k. (K l).zero) (K l).one (el l r.buf)) done r.invariant.2 in
    record {
      same = r.auto.buf ∙ (c.put.ensures _ c.one.ensures).same;
      words = r.invariant.1;
      holds = λ v j h. ends j h ∙ sym (top-end (K l) a.d (digit a.d a.position) v j a.d);
    }
