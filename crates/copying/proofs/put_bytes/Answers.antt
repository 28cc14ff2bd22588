use Rattle.std.proofs.Common.{◌≡◌, ◌+◌, length, refl, arith, ◌∙◌}
use Rattle.lists.proofs.Words.{put_pasted}
use Rattle.copying.proofs.Filled.{paste_more}
use Rattle.copying.proofs.put_bytes.Goals as goal

pub loop-i-preserved : goal.loop-i-preserved
loop-i-preserved c =
    let a = c.args in
    let l = c.loop-i in
    paste_more a.out.now a.at a.bytes.now l.i l.invariant refl refl (omega arith) (omega arith)

pub returns : goal.returns
returns c =
    let l = c.loop-i in
    let a = c.args in
    let end : l.i ≡ length a.bytes.now = omega arith in
    (l.invariant ∙ put_pasted a.at l.i a.bytes.now a.out.now (omega arith), refl)
