use Rattle.std.proofs.Common.{◌≡◌, ℕ, ◌-◌, ◌*◌, ◌≤◌, length, rules, arith}
use lib.ListN.{length-replicate}
use Rattle.field.specs.Level.{level_at}
use Rattle.field.specs.Packed.{room}
use Rattle.field.proofs.Fields.{bounded}
use Rattle.field.proofs.Rooms.{room_most, room_pos, inside}
use Rattle.field.proofs.Elements.{holds-zero}
use Rattle.field.proofs.Element.product.Goals as goal

-- a table has room for its first element
first_fits : (number : ℕ) → room (level_at number) ≤ room (level_at number) * (level_at number).width
first_fits number = omega (arith, room_pos number, inside number 0 (room (level_at number) - 1) (bounded number).width (omega (arith, room_pos number)))

pub whole_as_slice-multiples : goal.whole_as_slice-multiples
whole_as_slice-multiples g c = omega (arith, c.requires)

pub multiples-requires : goal.multiples-requires
multiples-requires g c =
    let long : length c.args.self.words ≡ 6 = search rules in
    (omega (arith, length-replicate {A = ℕ} g.row.ROOM 0, c.requires.0), omega (arith, long, room_most c.args.level))

pub shared_whole_as_slice-product : goal.shared_whole_as_slice-product
shared_whole_as_slice-product g c = omega (arith, c.requires)

pub product-words-requires : goal.product-words-requires
product-words-requires g c =
    let long : length c.args.other.words ≡ 6 = search rules in
    (omega (arith, c.multiples.auto.table, length-replicate {A = ℕ} g.row.ROOM 0, c.requires.0), omega (arith, long, room_most c.args.level))

pub returns : goal.returns
returns g c x y hx hy =
    let l = level_at c.args.level in
    c.product-words.ensures x y (c.multiples.ensures x (holds-zero l (room l) g.row.ROOM (omega arith) (omega (arith, first_fits c.args.level, c.requires.0))) hx) hy
