use mathlib.Core.Path.{refl}
use native.Mathlib.Omega.{arith}
use lib.ListN.{length}
use Rattle.writer.proofs.Fields.{field_length, field_put}
use Rattle.writer.proofs.put_field.Goals as goal

pub put_head-start-requires : goal.put_head-start-requires
put_head-start-requires c = let a = c.args in let size = field_length a.tag a.content.now in (omega arith, omega arith)

pub put_bytes-requires : goal.put_bytes-requires
put_bytes-requires c = let a = c.args in let size = field_length a.tag a.content.now in omega (arith, c.put_head-start.ensures.1)

pub returns : goal.returns
returns c =
    let a = c.args in
    let e = c.put_head-start.ensures in
    let f = c.put_bytes.ensures in
    field_put a.out.now a.tag (length a.content.now) a.content.now a.at refl (omega arith) e.0 e.1 f.0 f.1
