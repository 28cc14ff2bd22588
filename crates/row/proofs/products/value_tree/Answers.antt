use Rattle.std.proofs.Common.{◌≡◌, Bool, not, ℕ, ◌+◌, ◌-◌, ◌^◌, get_or, ap, ap₂, subst, subst₂, refl, ◌∙◌, arith}
use Rattle.field.specs.Binary.{bit}
use Rattle.field.specs.Level.{level_at, K}
use Rattle.field.specs.Packed.{Holds}
use Rattle.field.specs.Word.{odd}
use Rattle.row.specs.Elements.{el, value_of}
use Rattle.row.specs.Polynomial.{value}
use Rattle.row.specs.Step.{Twofold}
use Rattle.row.proofs.ElementLaws.{fits_le, holds-value, holds-held}
use Rattle.row.proofs.NumberLaws.{pow_double, pow_room, odd-not}
use Rattle.row.proofs.ValueLaws.{Ends, ends-none, ends_more}
use Rattle.row.proofs.products.value_tree.Goals as goal

pub loop-k-init : goal.loop-k-init
loop-k-init c =
    let a = c.args in
    let l = level_at a.level in
    let d = c.put.ensures _ c.one.ensures in
    let none : 0 ≡ a.at + a.d - (a.at + a.d) = omega arith in
    let ends = ends-none (K l) a.d (λ k. odd (get_or a.bits.now (a.at + k) 0)) (λ k. el l a.numbers.now (a.at + k)) (value_of l a.delta.words) (el l c.put.new.s) d.holds.here in
    (omega arith, ap (λ t. 2 ^ t) none, d.words, subst (Ends (K l) a.d _ _ _ (el l c.put.new.s)) none ends)

pub get-q-requires : goal.get-q-requires
get-q-requires c =
    let a = c.args in
    (c.requires.1, fits_le (level_at a.level) (c.loop-k.k - 1 + 1) (a.at + a.d) (omega arith) refl c.requires.5)

pub twin-requires : goal.twin-requires
twin-requires c =
    let a = c.args in
    let l = level_at a.level in
    let r = c.loop-k in
    let t = a.at + a.d - r.k in
    let low = c.plus-low.ensures _ _ c.get-q.ensures (c.masked.ensures _ c.requires.3) in
    let high = c.plus-high.ensures _ _ c.get-q.ensures (c.masked-in-loop-k.ensures _ c.requires.3) in (
      r.invariant.2,
      holds-held l c.plus-low.result.words _ low,
      holds-held l c.plus-high.result.words _ high,
      fits_le l (r.h + r.h) (2 ^ a.d) (omega (arith, r.invariant.1, pow_room a.d t (omega arith))) (r.auto.buf ∙ (c.put.ensures _ c.one.ensures).same) c.requires.4,
    )

pub overflow_add-h : goal.overflow_add-h
overflow_add-h c =
    let a = c.args in
    omega (arith, c.loop-k.invariant.1, pow_room a.d (a.at + a.d - c.loop-k.k) (omega arith), c.requires.4.1)

pub loop-k-preserved : goal.loop-k-preserved
loop-k-preserved c =
    let a = c.args in
    let l = level_at a.level in
    let r = c.loop-k in
    let t = a.at + a.d - r.k in
    let bits = λ (k : ℕ). odd (get_or a.bits.now (a.at + k) 0) in
    let numbers = λ (k : ℕ). el l a.numbers.now (a.at + k) in
    let Δ = value_of l a.delta.words in
    let place : r.k - 1 ≡ a.at + (a.d - 1 - t) = omega arith in
    let next : t + 1 ≡ a.at + a.d - (r.k - 1) = omega arith in
    let b = get_or a.bits.now (r.k - 1) 0 in
    let factor = λ (i : ℕ) (x : Bool). (K l).add (el l a.numbers.now i) ((K l).mul (bit (K l) x) Δ) in
    let low = subst (λ x. Holds l c.plus-low.result.words (factor (r.k - 1) x)) (odd-not b (c.requires.2 (r.k - 1))) (c.plus-low.ensures _ _ c.get-q.ensures (c.masked.ensures Δ c.requires.3)) in
    let high = c.plus-high.ensures _ _ c.get-q.ensures (c.masked-in-loop-k.ensures Δ c.requires.3) in
    let twofold = subst₂ (λ x y. Twofold (K l) (el l r.buf) (el l c.twin.new.buf) r.h x y r.h) (holds-value l c.plus-low.result.words (factor (r.k - 1) (not (odd b))) low) (holds-value l c.plus-high.result.words (factor (r.k - 1) (odd b)) high) c.twin.ensures.holds in
    let more = subst₂ (λ h i. Twofold (K l) (el l r.buf) (el l c.twin.new.buf) h (factor i (not (odd (get_or a.bits.now i 0)))) (factor i (odd (get_or a.bits.now i 0))) h) r.invariant.1 place twofold in
    let ends = ends_more (K l) a.d bits numbers Δ (el l r.buf) (el l c.twin.new.buf) t (omega arith) r.invariant.3 more in
    (omega arith, ap₂ ◌+◌ r.invariant.1 r.invariant.1 ∙ pow_double t ∙ ap (λ i. 2 ^ i) next, c.twin.ensures.words, subst (Ends (K l) a.d bits numbers Δ (el l c.twin.new.buf)) next ends)

pub returns : goal.returns
unfolding value
returns c =
    let a = c.args in
    let l = level_at a.level in
    let r = c.loop-k in
    let done : a.at + a.d - r.k ≡ a.d = omega arith in
    record {
      same = r.auto.buf ∙ (c.put.ensures _ c.one.ensures).same;
      words = r.invariant.2;
      holds = subst (Ends (K l) a.d (λ k. odd (get_or a.bits.now (a.at + k) 0)) (λ k. el l a.numbers.now (a.at + k)) (value_of l a.delta.words) (el l r.buf)) done r.invariant.3;
    }
