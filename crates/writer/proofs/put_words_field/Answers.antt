use Prim.Native.Nat.{◌+◌, ◌*◌}
use mathlib.Core.Path.{sym, ap, ◌∙◌}
use native.Mathlib.Omega.{arith}
use lib.ListN.{length}
use Rattle.copying.specs.Words.{word_bytes}
use Rattle.copying.proofs.Bytes.{bytes-length}
use Rattle.writer.proofs.Fields.{words-length, field_put}
use Rattle.writer.proofs.put_words_field.Goals as goal

pub put_head-start-requires : goal.put_head-start-requires
put_head-start-requires c = let a = c.args in let size = words-length a.tag a.words.now in (omega arith, omega arith)

pub put_words-requires : goal.put_words-requires
put_words-requires c = let a = c.args in let size = words-length a.tag a.words.now in omega (arith, c.put_head-start.ensures.1)

pub returns : goal.returns
returns c =
    let a = c.args in
    let e = c.put_head-start.ensures in
    let f = c.put_words.ensures in
    let long = bytes-length a.words.now in
    field_put a.out.now a.tag (2 * length a.words.now) (word_bytes a.words.now) a.at (sym long) (omega arith) e.0 e.1 f.0 (f.1 ∙ ap (λ n. c.put_head-start.result + n) (sym long))
