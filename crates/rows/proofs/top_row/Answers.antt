use Rattle.std.proofs.Common.{ap, ◌∙◌, arith}
use Rattle.field.specs.Level.{level_at, K}
use Rattle.row.specs.Elements.{el}
use Rattle.row.specs.Lent.{small_of, entry_of}
use Rattle.row.specs.Polynomial.{digit, z}
use Rattle.rows.proofs.Shares.{shared_same, place_one}
use Rattle.rows.proofs.top_row.Goals as goal

pub returns : goal.returns
returns c =
    let a = c.args in
    let matrix = a.matrix.now in
    let l = level_at matrix.level in
    let t = c.top_tree.ensures in
    let r = c.share.ensures in (
      record {
        same = r.same;
        words = r.words;
        holds = λ v. shared_same (K l) _ _ matrix.n matrix.m 1 _ (λ j k. z (K l) matrix.d (digit matrix.d a.position) v j matrix.d) (small_of l matrix.x.now) (λ e. entry_of l matrix.n matrix.h.now e a.i) (λ j q k b. ap (el l c.top_tree.new.buf) (place_one j k b) ∙ t.holds v j (omega (arith, matrix.columns))) r.holds;
      },
      t.words,
    )
