use Rattle.std.proofs.Common.{◌≡◌, ℕ, ◌+◌, ◌*◌, length, refl, sym, subst, ap, ◌∙◌, arith}
use Rattle.field.specs.Level.{level_at, K}
use Rattle.row.specs.Elements.{el}
use Rattle.row.specs.Lent.{small_of, entry_of, digit_of, element_of}
use Rattle.row.specs.Polynomial.{digit, z, column, check}
use Rattle.row.specs.Step.{Shared}
use Rattle.row.proofs.ElementLaws.{fits_le, holds-value, holds-held, cleared-words, cleared-el, cleared-length}
use Rattle.row.proofs.SumLaws.{monomial-same}
use Rattle.rows.proofs.Shares.{Rows, rows_none, rows_more, single-column, single-check}
use Rattle.rows.proofs.tops.Goals as goal

pub loop-i-init : goal.loop-i-init
loop-i-init c =
    let a = c.args in
    let matrix = a.key.now.matrix in
    let l = level_at matrix.level in
    let long = length a.dst.now in (
      cleared-words l long c.clear.ensures,
      cleared-words l (length a.work.now) c.clear-2.ensures,
      λ v. rows_none (K l) matrix.n matrix.m 1 _ (small_of l matrix.x.now) (entry_of l matrix.n matrix.h.now) (el l c.clear.new.s) (λ i p. cleared-el l long i c.clear.ensures (fits_le l (i + 1) (matrix.n + matrix.m) (omega arith) refl c.requires.2)),
    )

pub loop-i-preserved : goal.loop-i-preserved
loop-i-preserved c =
    let a = c.args in
    let matrix = a.key.now.matrix in
    let l = level_at matrix.level in
    let r = c.loop-i in
    let x = small_of l matrix.x.now in
    let h = entry_of l matrix.n matrix.h.now in
    let d = c.top_row.ensures.0 in (
      d.words,
      c.top_row.ensures.1,
      λ v.
          let own = subst (λ p. Shared (K l) (el l r.dst) (el l c.top_row.new.dst) matrix.n matrix.m 1 (λ j k. z (K l) matrix.d (digit matrix.d p) (element_of l matrix.d v r.i) j matrix.d) x (λ e. h e r.i)) c.from-position.ensures (d.holds (element_of l matrix.d v r.i)) in
          rows_more (K l) matrix.n matrix.m 1 (λ i j k. z (K l) matrix.d (digit_of matrix.d a.positions.now i) (element_of l matrix.d v i) j matrix.d) x h _ _ r.i (r.invariant.2 v) own,
    )

pub tops-requires : goal.tops-requires
tops-requires c =
    let a = c.args in
    let matrix = a.key.now.matrix in
    let l = level_at matrix.level in (
      c.loop-i.invariant.0,
      holds-held l c.one.result.words _ c.one.ensures,
      a.key.now.target,
      omega arith,
      fits_le l (1 * matrix.n + 1 * matrix.m) (matrix.n + matrix.m) (omega arith) (c.loop-i.auto.dst ∙ cleared-length (length a.dst.now) c.clear.ensures) c.requires.2,
    )

pub returns : goal.returns
unfolding column check
returns c =
    let a = c.args in
    let matrix = a.key.now.matrix in
    let l = level_at matrix.level in
    let r = c.loop-i in
    let x = small_of l matrix.x.now in
    let y = small_of l a.key.now.y.now in
    let h = entry_of l matrix.n matrix.h.now in
    let one = (K l).one in
    let t = c.tops.ensures in
    let p = holds-value l c.one.result.words one c.one.ensures in
    let done : r.i ≡ matrix.n = omega (arith, c.requires.1) in
    record {
      same = t.same ∙ r.auto.dst ∙ cleared-length (length a.dst.now) c.clear.ensures;
      words = t.words;
      holds = λ v.
          let terms = λ (i j k : ℕ). z (K l) matrix.d (digit_of matrix.d a.positions.now i) (element_of l matrix.d v i) j matrix.d in
          let rows = subst (Rows (K l) matrix.n matrix.m 1 terms x h (el l r.dst)) done (r.invariant.2 v) in
          record {
            columns = λ j b. single-column (K l) (el l r.dst) (el l c.tops.new.dst) matrix.n matrix.m _ y t.holds j _ b (rows.column j b 0 (omega arith)) ∙ ap ((K l).add _) (p ∙ sym (monomial-same (K l) one matrix.d));
            checks = λ e b. single-check (K l) (el l r.dst) (el l c.tops.new.dst) matrix.n matrix.m _ y t.holds e _ b (rows.check e b 0 (omega arith)) ∙ ap ((K l).add _) (ap ((K l).mul (y e)) p ∙ (K l).mul-one (y e) ∙ sym (monomial-same (K l) (y e) matrix.d));
          };
    }
