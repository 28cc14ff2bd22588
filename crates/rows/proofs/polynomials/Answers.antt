use Rattle.std.proofs.Common.{◌≡◌, ℕ, ◌+◌, ◌*◌, ◌^◌, ◌<◌, length, refl, subst, ◌∙◌, arith}
use Rattle.std.proofs.Math.Nat.{mul-add}
use Rattle.field.specs.Level.{level_at, K}
use Rattle.row.specs.Elements.{el}
use Rattle.row.specs.Lent.{small_of, entry_of, digit_of, element_of}
use Rattle.row.specs.Polynomial.{digit, z, column, check}
use Rattle.row.specs.Step.{Shared}
use Rattle.row.proofs.ElementLaws.{fits_le, fits_all, holds-value, holds-held, cleared-words, cleared-el, cleared-length}
use Rattle.row.proofs.NumberLaws.{row-le}
use Rattle.rows.specs.Outcome.{polynomials}
use Rattle.rows.proofs.Content.{rows-content}
use Rattle.rows.proofs.Shares.{Rows, rows_none, rows_more}
use Rattle.rows.proofs.polynomials.Goals as goal

pub loop-i-init : goal.loop-i-init
loop-i-init c =
    let a = c.args in
    let matrix = a.key.now.matrix in
    let l = level_at matrix.level in
    let long = length a.dst.now in
    let all = fits_all l ((matrix.d + 1) * (matrix.n + matrix.m)) c.requires.words.1 c.requires.positions_len.2 in (
      cleared-words l long c.clear.ensures,
      cleared-words l (length a.work.now) c.clear-2.ensures,
      rows_none (K l) matrix.n matrix.m (matrix.d + 1) _ (small_of l matrix.x.now) (entry_of l matrix.n matrix.h.now) (el l c.clear.new.s) (λ i p. cleared-el l long i c.clear.ensures (fits_le l (i + 1) ((matrix.d + 1) * (matrix.n + matrix.m)) (omega arith) refl all)),
    )

pub row-requires-clause-d_bound : goal.row-requires-clause-d_bound
row-requires-clause-d_bound c =
    let a = c.args in
    let matrix = a.key.now.matrix in
    let l = level_at matrix.level in
    let w = c.requires.words in
    let p = c.requires.positions_len in
    let i = c.loop-i.i in
    let n = matrix.d + 1 in
    let inside : i < matrix.n = omega (arith, p.0) in
    let all = fits_all l (n * (matrix.n + matrix.m)) w.1 p.2 in (
      w.2,
      inside,
      fits_le l (n * matrix.n + n * matrix.m) (n * (matrix.n + matrix.m)) (omega (arith, mul-add n matrix.n matrix.m)) (c.loop-i.auto.dst ∙ cleared-length (length a.dst.now) c.clear.ensures) all,
      fits_le l (matrix.d * i + matrix.d) (matrix.d * matrix.n) (row-le matrix.d i matrix.n inside) refl (fits_all l (matrix.d * matrix.n) w.1 p.1),
      fits_le l (n * 2 ^ matrix.d) (n * 2 ^ matrix.d) (omega arith) (c.loop-i.auto.work ∙ cleared-length (length a.work.now) c.clear-2.ensures) p.3,
    )

pub loop-i-preserved : goal.loop-i-preserved
loop-i-preserved c =
    let a = c.args in
    let matrix = a.key.now.matrix in
    let l = level_at matrix.level in
    let r = c.loop-i in
    let x = small_of l matrix.x.now in
    let h = entry_of l matrix.n matrix.h.now in
    let d = c.row.ensures.0 in
    let own = subst (λ p. Shared (K l) (el l r.dst) (el l c.row.new.dst) matrix.n matrix.m (matrix.d + 1) (z (K l) matrix.d (digit matrix.d p) (element_of l matrix.d a.offsets.now r.i)) x (λ e. h e r.i)) c.from-position.ensures d.holds in
    (d.words, c.row.ensures.1, rows_more (K l) matrix.n matrix.m (matrix.d + 1) (λ i. z (K l) matrix.d (digit_of matrix.d a.positions.now i) (element_of l matrix.d a.offsets.now i)) x h _ _ r.i r.invariant.2 own)

pub tops-requires : goal.tops-requires
tops-requires c =
    let a = c.args in
    let matrix = a.key.now.matrix in
    let l = level_at matrix.level in
    let n = matrix.d + 1 in
    let all = fits_all l (n * (matrix.n + matrix.m)) c.requires.words.1 c.requires.positions_len.2 in (
      c.loop-i.invariant.0,
      holds-held l c.one.result.words _ c.one.ensures,
      a.key.now.target,
      omega arith,
      fits_le l (n * matrix.n + n * matrix.m) (n * (matrix.n + matrix.m)) (omega (arith, mul-add n matrix.n matrix.m)) (c.loop-i.auto.dst ∙ cleared-length (length a.dst.now) c.clear.ensures) all,
    )

pub returns : goal.returns
unfolding polynomials column check
returns c =
    let a = c.args in
    let matrix = a.key.now.matrix in
    let l = level_at matrix.level in
    let r = c.loop-i in
    let terms = λ (i : ℕ). z (K l) matrix.d (digit_of matrix.d a.positions.now i) (element_of l matrix.d a.offsets.now i) in
    let x = small_of l matrix.x.now in
    let y = small_of l a.key.now.y.now in
    let h = entry_of l matrix.n matrix.h.now in
    let one = (K l).one in
    let t = c.tops.ensures in
    let done : r.i ≡ matrix.n = omega (arith, c.requires.positions_len.0) in
    let size = t.same ∙ r.auto.dst ∙ cleared-length (length a.dst.now) c.clear.ensures ∙ c.requires.positions_len.2 in
    let rows = subst (Rows (K l) matrix.n matrix.m (matrix.d + 1) terms x h (el l r.dst)) done r.invariant.2 in
    rows-content l matrix.n matrix.m (matrix.d + 1) terms x h r.dst c.tops.new.dst matrix.d _ one y y c.requires.words.1 size rows t (holds-value l c.one.result.words one c.one.ensures) (λ e. (K l).mul-one (y e))
