use Rattle.std.specs.Prelude.{Err}
use mathlib.Core.Path.{◌≡◌, sym, ap, ◌∙◌}
use native.Mathlib.Omega.{arith}
use lib.ListN.{length, length-append}
use Rattle.copying.proofs.Filled.{Stands, stands-first}
use Rattle.key.specs.Key.{slices_of}
use Rattle.layout.proofs.Rows.{exits}
use Rattle.package.specs.Written.{joined, key_fields, group_fields}
use Rattle.package.proofs.Joined.{joined-append}
use Rattle.writer.proofs.Fields.{fields-next}
use Rattle.writer.proofs.Outcome.{stated, passed, length-told, refused-told}
use Rattle.writer.proofs.write_package.Goals as goal

pub returns-in_err-refused : goal.returns-in_err-refused
returns-in_err-refused c =
    let a = c.args in
    let w = refused-told a.lent.now.key (slices_of a.lent.now) a.t.now a.a.now a.serial a.out.now c.refused.ensures c.in_err-refused.was in
    let r : c.from_residual.result ≡ Err c.in_err-refused.field-0.0 = exits c.from_residual.ensures.1 in
    rw r (record { outcome = w.0; leans = w.1.0; reads = w.1.1 })

pub put_key-at-requires : goal.put_key-at-requires
put_key-at-requires c =
    let a = c.args in
    let e = passed a.lent.now.key (slices_of a.lent.now) a.t.now a.a.now a.serial (length a.out.now) (sym c.refused.ensures ∙ c.in_ok-refused.was) in
    let s = stated a.lent.now.key (slices_of a.lent.now) a.t.now a.a.now e.0 in
    let k = key_fields (record { sizes = a.lent.now.key; slices = slices_of a.lent.now }) in
    let g = group_fields (record { serial = a.serial; t = a.t.now; a = a.a.now }) in
    record { n_bound = (s.n, s.m, s.h, s.x, s.y); y_in_bounds = omega (arith, e.1, ap length (joined-append k g), length-append (joined k) (joined g)) }

pub put_group-requires : goal.put_group-requires
put_group-requires c =
    let a = c.args in
    let e = passed a.lent.now.key (slices_of a.lent.now) a.t.now a.a.now a.serial (length a.out.now) (sym c.refused.ensures ∙ c.in_ok-refused.was) in
    let s = stated a.lent.now.key (slices_of a.lent.now) a.t.now a.a.now e.0 in
    let k = key_fields (record { sizes = a.lent.now.key; slices = slices_of a.lent.now }) in
    let g = group_fields (record { serial = a.serial; t = a.t.now; a = a.a.now }) in
    record { t_len_bound = (s.t-bytes, s.a-words); a_in_bounds = omega (arith, e.1, c.put_key-at.ensures.1, ap length (joined-append k g), length-append (joined k) (joined g)) }

pub returns : goal.returns
returns c =
    let a = c.args in
    let d = c.in_ok-refused.was in
    let e = passed a.lent.now.key (slices_of a.lent.now) a.t.now a.a.now a.serial (length a.out.now) (sym c.refused.ensures ∙ d) in
    let k = key_fields (record { sizes = a.lent.now.key; slices = slices_of a.lent.now }) in
    let g = group_fields (record { serial = a.serial; t = a.t.now; a = a.a.now }) in
    let p = c.put_key-at.ensures in
    let w : Stands a.out.now 0 (joined k) _ _ = stands-first p.0 p.1 in
    let v = fields-next k g w (omega (arith, e.1, p.1, ap length (joined-append k g), length-append (joined k) (joined g))) c.put_group.ensures in
    let told = length-told a.lent.now.key (slices_of a.lent.now) a.t.now a.a.now a.serial a.out.now c.refused.ensures (omega arith) d v in
    record { outcome = told.0; leans = told.1.0; reads = told.1.1 }
