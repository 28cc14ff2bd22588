use mathlib.Core.List.{[], ◌∷◌}
use native.Mathlib.Omega.{arith}
use Rattle.copying.specs.Words.{word_bytes}
use Rattle.copying.proofs.Filled.{Stands}
use Rattle.package.specs.Written.{joined}
use Rattle.writer.proofs.Fields.{serial_field, group-length, fields-next}
use Rattle.writer.proofs.put_group.Goals as goal

pub put_serial-at-requires : goal.put_serial-at-requires
put_serial-at-requires c = let a = c.args in omega (arith, group-length a.serial a.t.now a.a.now)

pub put_field-at-requires : goal.put_field-at-requires
put_field-at-requires c = let a = c.args in (omega arith, omega (arith, group-length a.serial a.t.now a.a.now, c.put_serial-at.ensures.1))

pub put_words_field-requires : goal.put_words_field-requires
put_words_field-requires c = let a = c.args in (omega arith, omega (arith, group-length a.serial a.t.now a.a.now, c.put_serial-at.ensures.1, c.put_field-at.ensures.1))

pub returns : goal.returns
returns c =
    let a = c.args in
    let e = c.put_serial-at.ensures in
    let f = c.put_field-at.ensures in
    let g = c.put_words_field.ensures in
    let long = group-length a.serial a.t.now a.a.now in
    let end = e.1 in
    let w : Stands a.out.now a.at (joined (serial_field a.serial ∷ [])) _ _ = record { is = e.0; end = e.1 } in
    let v = fields-next (serial_field a.serial ∷ []) ((0x06, a.t.now) ∷ []) w (omega arith) f in
    let u = fields-next (serial_field a.serial ∷ (0x06, a.t.now) ∷ []) ((0x07, word_bytes a.a.now) ∷ []) v (omega (arith, f.1)) g in
    (u.is, u.end)
