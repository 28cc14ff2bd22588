use Rattle.std.proofs.Common.{ℕ, ◌+◌, ◌*◌, ◌^◌, refl, subst, sym, arith}
use Rattle.field.specs.Level.{level_at, K}
use Rattle.field.specs.Packed.{Holds}
use Rattle.row.specs.Elements.{el}
use Rattle.row.specs.Lent.{small_of, bit_of, element_of}
use Rattle.row.specs.Polynomial.{sum, value}
use Rattle.row.proofs.SumLaws.{sum-none, sum_more}
use Rattle.row.proofs.ElementLaws.{fits_le, holds-value, holds-held}
use Rattle.row.proofs.NumberLaws.{row-le}
use Rattle.folding.specs.Weights.{leaf}
use Rattle.folding.proofs.values.all_rows.Goals as goal

pub loop-i-init : goal.loop-i-init
loop-i-init c =
    let l = level_at c.args.matrix.now.level in
    (c.requires.words.4, c.requires.words.5, λ Δ t. subst (Holds l c.zero-all.result.words) (sym (sum-none (K l) _)) c.zero-all.ensures)

pub row-share-requires-clause-words : goal.row-share-requires-clause-words
row-share-requires-clause-words c =
    let w = c.requires.words in
    let r = c.loop-i in
    (w.0, w.1, w.2, r.invariant.0, r.invariant.1, w.6, holds-held (level_at c.args.matrix.now.level) c.get-weight.result.words _ c.get-weight.ensures, w.7)

pub row-share-requires-clause-le_d : goal.row-share-requires-clause-le_d
row-share-requires-clause-le_d c =
    let matrix = c.args.matrix.now in
    let l = level_at matrix.level in
    let p = c.requires.le_d in
    let r = c.loop-i in
    let room = row-le matrix.d r.i matrix.n (omega arith) in (
      p.0,
      fits_le l (matrix.d * r.i + matrix.d) (matrix.d * matrix.n) room refl p.1,
      omega (arith, room, p.2),
      p.3,
      p.4,
      fits_le l (2 ^ matrix.d) (2 ^ matrix.d) (omega arith) r.auto.work p.6,
      fits_le l (2 ^ matrix.d) (2 ^ matrix.d) (omega arith) r.auto.second p.7,
      p.8,
    )

pub loop-i-preserved : goal.loop-i-preserved
loop-i-preserved c =
    let a = c.args in
    let matrix = a.matrix.now in
    let l = level_at matrix.level in
    let r = c.loop-i in
    let g = c.get-weight in (
      c.row-share.ensures.1,
      c.row-share.ensures.2,
      λ Δ t.
          let share = λ (β : (K l).Carrier) (i : ℕ). sum (K l) matrix.n (λ j. (K l).mul (leaf (K l) (el l a.alpha.now) (small_of l matrix.x.now) β j) (value (K l) matrix.d (bit_of matrix.d a.bits.now i) (element_of l matrix.d a.numbers.now i) Δ j)) in
          let own = subst (λ β. Holds l c.row-share.result.words (share β r.i)) (holds-value l g.result.words _ g.ensures) (c.row-share.ensures.0 Δ t) in
          subst (Holds l c.plus-all.result.words) (sum_more (K l) r.i (λ i. share (el l a.beta.now i) i)) (c.plus-all.ensures _ _ (r.invariant.2 Δ t) own),
    )
