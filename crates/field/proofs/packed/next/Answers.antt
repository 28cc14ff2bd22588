use mathlib.Core.Path.{subst, ◌≡◌, sym, ap, ◌∙◌}
use mathlib.Core.List.{List}
use Prim.Native.Nat.{ℕ, ◌+◌, ◌*◌, ◌<◌}
use native.Mathlib.Omega.{arith}
use lib.Seq.{get_or-drop, get_or-set_other}
use lib.ListN.{length-set, get_or, drop}
use lib.Bits.{bit_xor}
use Rattle.field.proofs.Fields.{bounded}
use Rattle.field.proofs.Elements.{Lane, holds-lane, lane-next, words-scaled, holds-sum}
use Rattle.field.proofs.Lanes.{lane_xor}
use Rattle.field.specs.Packed.{lane, TimesZ, room}
use Rattle.field.specs.Word.{small}
use Rattle.field.specs.Level.{embed, level_at, K}
use Rattle.lists.proofs.Words.{set_more}
use Rattle.field.specs.declared.Level.{Level}
use Rattle.field.proofs.packed.next.Invariants.{Next}
use Rattle.field.proofs.packed.next.Goals as goal

step : (l : Level) (sum part : List ℕ) (i u r v : ℕ) → 1 < l.width → u ≡ get_or sum i 0 → v ≡ bit_xor (get_or part i 0) r → TimesZ l.width l.tap u r → Next l sum part i v
step l sum part i u r v wide same e z x h j hj hc = ap (λ y. lane y j) e ∙ lane_xor (get_or part i 0) r j
    ∙ ap (bit_xor (lane (get_or part i 0) j)) (lane-next l x 0 i u r wide (subst (Lane l x 1 i) (sym same) (holds-lane l sum x h i)) z j hj hc ∙ sym (words-scaled l 2 x (4 * i + j) hc))

pub loop-q-preserved : goal.loop-q-preserved
loop-q-preserved c =
    let l = c.loop-q in
    let a = c.args in
    let new = bit_xor (get_or a.parts.now (a.at + l.q) 0) c.times_z.result in (
      omega arith,
      l.invariant.1,
      simp length-set l.invariant.2,
      set_more (Next (level_at a.level) a.sum.now (drop a.at a.parts.now)) l.sum l.q new (omega (arith, l.invariant.1, l.invariant.2, c.requires.0)) l.invariant.3
          (λ x h. step (level_at a.level) a.sum.now (drop a.at a.parts.now) l.q (get_or l.sum l.q 0) c.times_z.result new (bounded a.level).digits (l.invariant.4 l.q (omega arith)) (ap (λ v. bit_xor v c.times_z.result) (sym (get_or-drop a.at a.parts.now l.q 0))) c.times_z.ensures x h),
      λ i h. get_or-set_other l.sum l.q i new 0 (omega arith) ∙ l.invariant.4 i (omega arith),
    )

pub returns : goal.returns
returns c x p hx hp =
    let a = c.args in
    let m = level_at a.level in
    holds-sum m (room m) (drop a.at a.parts.now) c.loop-q.sum p ((K m).mul ((embed m).map (small m 2)) x) (omega arith) (λ q j hq hj hc. c.loop-q.invariant.3 q (omega (arith, c.loop-q.invariant.1)) x hx j hj hc) hp
