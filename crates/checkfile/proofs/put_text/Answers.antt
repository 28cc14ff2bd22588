use native.Mathlib.Omega.{arith}
use Rattle.checkfile.proofs.Text.{text_last}
use Rattle.checkfile.proofs.put_text.Goals as goal

pub returns : goal.returns
returns c =
    let e = c.put_bytes-end.ensures in
    let a = c.args in
    (text_last a.out.now a.text.now a.at a.last e.0 e.1 (omega arith), omega arith)
