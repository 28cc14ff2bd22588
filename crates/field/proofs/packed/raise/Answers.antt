use mathlib.Core.Path.{refl, sym, ap, ◌∙◌}
use Prim.Native.Nat.{suc, ◌/◌, ◌%◌, ◌^◌}
use native.Mathlib.Omega.{arith}
use lib.Seq.{get_or-set_other}
use lib.ListN.{length-set, get_or}
use Rattle.field.proofs.Rooms.{room_pos}
use Rattle.field.proofs.Packing.{lane_shift}
use Rattle.field.specs.Packed.{lane}
use Rattle.lists.proofs.Words.{set_more}
use Rattle.field.proofs.packed.raise.Invariants.{Moved}
use Rattle.field.proofs.packed.raise.Goals as goal

pub loop-q-preserved : goal.loop-q-preserved
loop-q-preserved c =
    let l = c.loop-q in
    let old = l.invariant.6 l.q (omega arith) in (
      omega arith,
      l.invariant.1,
      simp length-set l.invariant.2,
      omega arith,
      (λ e. absurd (omega arith), λ p e. ap (λ v. v / 2 ^ 48 % 65536) (old ∙ ap (λ i. get_or c.args.z.now i 0) (omega arith)) ∙ sym (lane_shift (get_or c.args.z.now p 0) 3)),
      set_more (Moved c.args.z.now c.args.b) l.z l.q c.up.result (omega (arith, l.invariant.1, l.invariant.2, c.requires.0)) l.invariant.5 (
        λ j h. c.up.ensures.others j h ∙ ap (λ v. lane v j) old,
        λ e. c.up.ensures.zero ∙ l.invariant.4.0 e,
        λ p e. c.up.ensures.zero ∙ l.invariant.4.1 p e,
      ),
      λ i h. get_or-set_other l.z l.q i c.up.result 0 (omega arith) ∙ l.invariant.6 i (omega arith),
    )

pub returns : goal.returns
returns c =
    let l = c.loop-q in
    record {
      first = (l.invariant.5 0 (omega (arith, l.invariant.1, room_pos c.args.level))).1 refl;
      within = λ q j h k. (l.invariant.5 q (omega (arith, l.invariant.1))).0 j k;
      across = λ q h. (l.invariant.5 (suc q) (omega (arith, l.invariant.1))).2 q refl;
    }
