use Rattle.std.proofs.Common.{◌+◌, ◌*◌, ◌^◌, arith}
use Rattle.std.proofs.Math.Nat.{mul-le-mul_left}
use Rattle.field.specs.Level.{level_at, K}
use Rattle.row.specs.Elements.{el}
use Rattle.row.specs.Lent.{small_of, entry_of}
use Rattle.row.specs.Polynomial.{digit, z}
use Rattle.row.proofs.ElementLaws.{fits_le}
use Rattle.rows.proofs.Shares.{shared_same}
use Rattle.rows.proofs.row.Goals as goal

pub share-requires : goal.share-requires
share-requires c =
    let matrix = c.args.matrix.now in
    let w = c.requires.words in
    let p = c.requires.d_bound in
    let t = c.tree.ensures in
    (w.0, t.words, p.1, p.2, fits_le (level_at matrix.level) ((matrix.d + 1) * matrix.n) ((matrix.d + 1) * 2 ^ matrix.d) (mul-le-mul_left (matrix.d + 1) matrix.columns) t.same p.4)

pub returns : goal.returns
returns c =
    let a = c.args in
    let matrix = a.matrix.now in
    let l = level_at matrix.level in
    let t = c.tree.ensures in
    let r = c.share.ensures in
    let v = z (K l) matrix.d (digit matrix.d a.position) (λ k. el l a.offsets.now (a.at + k)) in (
      record {
        same = r.same;
        words = r.words;
        holds = shared_same (K l) _ _ matrix.n matrix.m (matrix.d + 1) _ v (small_of l matrix.x.now) (λ e. entry_of l matrix.n matrix.h.now e a.i) (λ j q k b. t.holds j (omega (arith, matrix.columns)) k b) r.holds;
      },
      t.words,
    )
