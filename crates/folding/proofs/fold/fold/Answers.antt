use Rattle.std.proofs.Common.{◌≡◌, ℕ, ◌+◌, ◌-◌, ◌*◌, ◌/◌, ◌^◌, ◌<◌, ap, subst, subst₂, sym, ◌∙◌, arith}
use Rattle.std.proofs.Math.Nat.{mod-lt}
use Rattle.field.specs.Level.{level_at, K}
use Rattle.row.specs.Elements.{el}
use Rattle.row.specs.Polynomial.{digit}
use Rattle.row.proofs.ElementLaws.{fits_le}
use Rattle.row.proofs.NumberLaws.{room, digit-place}
use Rattle.folding.specs.Steps.{Halved}
use Rattle.folding.proofs.FoldLaws.{folded, folded-none, folded_more, folded-all}
use Rattle.folding.proofs.fold.fold.Goals as goal

pub halve-requires : goal.halve-requires
halve-requires c =
    let a = c.args in
    let l = level_at a.level in
    let r = c.loop-i in
    let n = a.d + 1 in
    let t = a.d - 1 - r.i in
    let half : n * c.power.result ≡ n * 2 ^ t = ap (λ e. n * e) c.power.ensures in (
      r.invariant.0,
      record { factor = el l a.offsets.now (a.at + r.i); table = c.of-multiples.ensures _ c.get-v.ensures },
      mod-lt (a.position / 2 ^ t) (omega arith),
      omega arith,
      fits_le l (n * c.power.result + n * c.power.result) (n * 2 ^ a.d) (omega (arith, half, room n a.d t (omega arith))) r.auto.buf c.requires.3,
    )

pub loop-i-preserved : goal.loop-i-preserved
loop-i-preserved c =
    let a = c.args in
    let l = level_at a.level in
    let r = c.loop-i in
    let n = a.d + 1 in
    let t = a.d - 1 - r.i in
    let w = digit a.d a.position in
    let v = λ (k : ℕ). el l a.offsets.now (a.at + k) in
    let g = el l r.buf in
    let g₁ = el l c.halve.new.buf in
    let below : t < a.d = omega arith in
    let place : r.i ≡ a.d - 1 - t = omega arith in
    let now : t + 1 ≡ a.d - r.i = omega arith in
    let next : a.d - (r.i + 1) ≡ t = omega arith in
    let d = c.halve.ensures (v r.i) (c.of-multiples.ensures _ c.get-v.ensures) in
    let halved = subst (λ k. Halved (K l) g g₁ n (2 ^ t) (r.i + 1) (w (a.d - 1 - t)) (v k) (2 ^ t)) place (subst₂ (λ h b. Halved (K l) g g₁ n h (r.i + 1) b (v r.i) h) c.power.ensures (sym (digit-place a.d a.position t below)) d.holds) in (
      d.words,
      λ k. ap (λ t. folded (K l) a.d w v n (r.i + 1 + 1) g₁ t k) next
          ∙ sym (folded_more (K l) a.d w v n (r.i + 1) g g₁ t below (omega arith) halved k)
          ∙ ap (λ t. folded (K l) a.d w v n (r.i + 1) g t k) now
          ∙ r.invariant.1 k,
    )

pub returns : goal.returns
returns c =
    let a = c.args in
    let l = level_at a.level in
    let r = c.loop-i in
    let w = digit a.d a.position in
    let v = λ (k : ℕ). el l a.offsets.now (a.at + k) in
    let n = a.d + 1 in
    let none : 0 ≡ a.d - r.i = omega arith in
    record {
      same = r.auto.buf;
      words = r.invariant.0;
      holds = λ k h. sym (folded-all (K l) a.d w v n (r.i + 1) (el l r.buf) k (omega arith)) ∙ ap (λ t. folded (K l) a.d w v n (r.i + 1) (el l r.buf) t k) none ∙ r.invariant.1 k ∙ folded-none (K l) a.d w v n (el l a.buf.now) k;
    }
