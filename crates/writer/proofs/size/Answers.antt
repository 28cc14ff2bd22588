use mathlib.Core.Path.{ap}
use native.Mathlib.Omega.{arith}
use lib.ListN.{length, length-append}
use Rattle.key.specs.Key.{slices_of}
use Rattle.package.specs.Written.{joined, key_fields, group_fields}
use Rattle.package.proofs.Joined.{joined-append}
use Rattle.writer.proofs.Fields.{sizes_field, field_length, words-length, key-length, group-length}
use Rattle.writer.proofs.size.Goals as goal

pub returns : goal.returns
returns c key =
    let a = c.args in
    let k = key_fields (record { sizes = key; slices = slices_of a.lent.now }) in
    let g = group_fields (record { serial = a.serial; t = a.t.now; a = a.a.now }) in
    omega (arith, ap length (joined-append k g), length-append (joined k) (joined g), key-length key a.lent.now.h.now a.lent.now.x.now a.lent.now.y.now, group-length a.serial a.t.now a.a.now, field_length 0x01 (sizes_field key).1, words-length 0x02 a.lent.now.h.now, words-length 0x03 a.lent.now.x.now, field_length 0x06 a.t.now, words-length 0x07 a.a.now, c.target_size.ensures.0, c.serial_size.ensures.0)
