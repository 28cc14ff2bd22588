use Rattle.std.proofs.Common.{◌+◌, get_or, ap, ◌∙◌, arith}
use Rattle.field.specs.Level.{level_at, K}
use Rattle.field.specs.Word.{odd}
use Rattle.row.specs.Elements.{el, value_of}
use Rattle.row.specs.Lent.{small_of, entry_of}
use Rattle.row.specs.Polynomial.{value}
use Rattle.rows.proofs.Shares.{shared_same, place_one}
use Rattle.rows.proofs.value_row.Goals as goal

pub returns : goal.returns
returns c =
    let a = c.args in
    let matrix = a.matrix.now in
    let l = level_at matrix.level in
    let t = c.value_tree.ensures in
    let r = c.share.ensures in
    let v = value (K l) matrix.d (λ e. odd (get_or a.bits.now (a.at + e) 0)) (λ e. el l a.numbers.now (a.at + e)) (value_of l a.delta.words) in (
      record {
        same = r.same;
        words = r.words;
        holds = shared_same (K l) _ _ matrix.n matrix.m 1 _ (λ j k. v j) (small_of l matrix.x.now) (λ e. entry_of l matrix.n matrix.h.now e a.i) (λ j q k b. ap (el l c.value_tree.new.buf) (place_one j k b) ∙ t.holds j (omega (arith, matrix.columns))) r.holds;
      },
      t.words,
    )
