use Rattle.std.proofs.Common.{◌≡◌, suc, ◌-◌, ◌<◌, sym, ap, ◌∙◌, subst, arith}
use lib.ListN.{replicate}
use Rattle.field.specs.declared.Level.{Level}
use Rattle.field.specs.Level.{level_at, K}
use Rattle.field.specs.Packed.{Holds, room}
use Rattle.field.proofs.Rooms.{room_most}
use Rattle.field.proofs.Elements.{turn, turn_lt, rest, rest-start, rest_end, holds-zero, holds-plus}
use Rattle.field.proofs.packed.product.Goals as goal

pub loop-i-init : goal.loop-i-init
loop-i-init c =
    let m = level_at c.args.level in
    let e = ap (λ (l : Level). l.coordinates) c.of-l.ensures in
    λ x y ht hy. subst (Holds m (replicate 6 0)) (sym (ap (rest m y x) e ∙ rest-start m y x)) (holds-zero m (room m) 6 (omega arith) (room_most c.args.level))

pub times_y-requires : goal.times_y-requires
times_y-requires c = omega (arith, c.loop-i-test.array_long, room_most c.args.level)

pub scaled-requires : goal.scaled-requires
scaled-requires c = (room_most c.args.level, c.requires.0)

pub add-requires : goal.add-requires
add-requires c = (omega (arith, c.times_y.auto.z, c.loop-i-test.array_long, room_most c.args.level), omega (arith, c.scaled.auto.z, room_most c.args.level), omega arith)

pub loop-i-preserved : goal.loop-i-preserved
loop-i-preserved c =
    let l = c.loop-i in
    let f = c.coordinate in
    let m = level_at c.args.level in
    let other = c.args.other.now in
    let e = ap (λ (l : Level). l.coordinates) c.of-l.ensures in
    let low : l.i - 1 < m.coordinates = omega (arith, e) in
    let again : l.i ≡ suc (l.i - 1) = omega arith in
    λ x y ht hy. turn m (l.i - 1) f.result other c.add.new.z x y low f.ensures hy
    (subst (Holds m c.add.new.z) ((K m).add_comm _ _) (holds-plus m (room m) c.times_y.new.z c.scaled.new.z c.add.new.z _ _ (omega arith) c.add.ensures
    (c.times_y.ensures _ (subst (λ i. Holds m l.z (rest m y x i)) again (l.invariant x y ht hy)))
    (c.scaled.ensures x (turn_lt m (l.i - 1) f.result other y low f.ensures hy) ht)))

pub returns : goal.returns
returns c x y ht hy =
    let m = level_at c.args.level in
    let done : c.loop-i.i ≡ 0 = omega arith in
    subst (Holds m c.loop-i.z) (ap (rest m y x) done ∙ rest_end m y x ∙ (K m).mul_comm y x) (c.loop-i.invariant x y ht hy)
