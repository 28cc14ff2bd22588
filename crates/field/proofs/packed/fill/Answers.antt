use mathlib.Core.Path.{subst, ap₂, refl}
use Prim.Native.Nat.{ℕ, ◌+◌, ◌-◌, ◌*◌}
use native.Mathlib.Omega.{arith}
use lib.ListN.{length-set, get_or}
use Rattle.field.proofs.Rooms.{room_pos, inside, element_of_lem, word_of, element-first, word_first, element-next, word_next, element-lt}
use Rattle.field.proofs.Elements.{Entry, holds-lane, lane-table, entry_first, entry_next, entry_at}
use Rattle.field.specs.Packed.{TimesZ, room}
use Rattle.lists.proofs.Words.{set_more}
use Rattle.field.specs.Level.{level_at}
use Rattle.field.specs.declared.Level.{Level}
use Rattle.field.proofs.packed.fill.Goals as goal

pub loop-i-init : goal.loop-i-init
loop-i-init c =
    let a = c.args in
    let m = level_at a.level in
    (omega (arith, c.room-w.ensures), ap₂ (λ (w : ℕ) (l : Level). w * l.width) c.room-w.ensures c.of-l.ensures, refl, c.room-w.ensures, λ x h k l. entry_first m (room m) x k (get_or a.table.now k 0) (element-first a.level k (omega (arith, c.room-w.ensures))) (word_first a.level k (omega (arith, c.room-w.ensures))) (holds-lane m a.table.now x h k))

pub loop-i-preserved : goal.loop-i-preserved
loop-i-preserved c =
    let l = c.loop-i in
    let n = c.args.level in
    let m = level_at n in
    let i = l.i in (
      omega (arith, l.invariant.0),
      l.invariant.1,
      simp length-set l.invariant.2,
      l.invariant.3,
      λ x h. set_more (Entry m (room m) x) l.table i c.times_z.result (omega (arith, l.invariant.1, l.invariant.2, c.requires)) (l.invariant.4 x h)
          (entry_next m (room m) x i (get_or l.table (i - room m) 0) c.times_z.result (element-next n i l.invariant.0) (word_next n i l.invariant.0) (element-lt n i (omega (arith, l.invariant.1)))
          (l.invariant.4 x h (i - room m) (omega (arith, l.invariant.0, room_pos n))) (subst (λ w. TimesZ m.width m.tap (get_or l.table (i - w) 0) c.times_z.result) l.invariant.3 c.times_z.ensures)),
    )

pub returns : goal.returns
returns c x h =
    let n = c.args.level in
    let m = level_at n in
    lane-table m c.loop-i.table x (λ k q hk hq. entry_at m (room m) x k q (room m * k + q) (get_or c.loop-i.table (room m * k + q) 0) (element_of_lem n k q hq) (word_of n k q hq) (c.loop-i.invariant.4 x h (room m * k + q) (omega (arith, c.loop-i.invariant.1, inside n k q hk hq))))
