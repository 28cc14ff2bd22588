use Prim.Native.Nat.{◌-◌}
use native.Mathlib.Omega.{arith}
use Rattle.field.proofs.Rooms.{inside, room_pos}
use Rattle.field.proofs.Fields.{bounded}
use Rattle.field.proofs.Elements.{holds-plus, holds_from_zero}
use Rattle.field.specs.Packed.{room}
use Rattle.field.specs.Level.{level_at, K}
use Rattle.field.proofs.packed.multiples.Goals as goal

pub add-requires : goal.add-requires
add-requires c = (omega (arith, c.requires.0, room_pos c.args.level, inside c.args.level 0 (room (level_at c.args.level) - 1) (bounded c.args.level).width (omega (arith, room_pos c.args.level))), c.requires.1, omega arith)

pub returns : goal.returns
returns c x hz hx =
    let a = c.args in
    let m = level_at a.level in
    c.fill.ensures x (holds_from_zero m c.add.new.z x (holds-plus m (room m) a.table.now a.ws.now c.add.new.z (K m).zero x (omega arith) c.add.ensures hz hx))
