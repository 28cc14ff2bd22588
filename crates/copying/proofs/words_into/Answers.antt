use Rattle.std.proofs.Common.{◌≡◌, ◌+◌, ◌/◌, length, take, drop, sym, ap, arith, ◌∙◌}
use lib.Seq.{take_at, length-take-le}
use Rattle.lists.proofs.Words.{put_pasted}
use Rattle.copying.specs.Words.{words}
use Rattle.copying.proofs.Words.{words_half, words-at}
use Rattle.copying.proofs.Filled.{paste_more}
use Rattle.copying.proofs.words_into.Goals as goal

pub bounds-out-i : goal.bounds-out-i
bounds-out-i c = omega (arith, words_half c.args.c.now)

pub loop-i-preserved : goal.loop-i-preserved
loop-i-preserved c =
    let l = c.loop-i in
    let a = c.args in
    let long = words_half a.c.now in
    paste_more a.out.now 0 (words a.c.now) l.i l.invariant (omega arith) (c.word_at.ensures.0 ∙ sym (words-at a.c.now l.i (omega arith))) (omega arith) (omega arith)

pub returns : goal.returns
returns c =
    let l = c.loop-i in
    let s = c.args.c.now in
    let all = words s in
    let size : length all ≡ l.i = omega (arith, words_half s) in
    let whole = l.invariant ∙ put_pasted 0 l.i all c.args.out.now size in
    let end : l.i ≡ length s / 2 = omega arith in
    rw (← end) (ap (take l.i) whole ∙ take_at all (drop (0 + length all) c.args.out.now) l.i size, omega arith, sym (length-take-le l.i l.out (omega arith)), whole)
