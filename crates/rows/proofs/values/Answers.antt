use Rattle.std.proofs.Common.{◌≡◌, ◌++◌, ℕ, ◌+◌, ◌*◌, length, refl, sym, subst, ap, ◌∙◌, arith}
use Rattle.std.proofs.Math.Nat.{one-mul}
use Rattle.lists.specs.Words.{concat}
use Rattle.field.specs.Level.{level_at, K}
use Rattle.field.specs.Word.{words}
use Rattle.row.specs.Elements.{el, value_of}
use Rattle.row.specs.Lent.{small_of, entry_of, bit_of, element_of}
use Rattle.row.specs.Polynomial.{value, raise, monomial, column_value, check_value}
use Rattle.row.proofs.ElementLaws.{fits_le, fits_all, holds-value, holds-held, cleared-words, cleared-el, cleared-length}
use Rattle.rows.specs.Outcome.{values}
use Rattle.rows.proofs.Content.{rows-content}
use Rattle.rows.proofs.Shares.{Rows, rows_none, rows_more}
use Rattle.rows.proofs.values.Goals as goal

pub loop-i-init : goal.loop-i-init
loop-i-init c =
    let a = c.args in
    let matrix = a.key.now.matrix in
    let l = level_at matrix.level in
    let long = length a.dst.now in
    let all = fits_all l (matrix.n + matrix.m) c.requires.words.3 c.requires.bits_len.3 in (
      cleared-words l long c.clear.ensures,
      cleared-words l (length a.work.now) c.clear-2.ensures,
      rows_none (K l) matrix.n matrix.m 1 _ (small_of l matrix.x.now) (entry_of l matrix.n matrix.h.now) (el l c.clear.new.s) (λ i p. cleared-el l long i c.clear.ensures (fits_le l (i + 1) (matrix.n + matrix.m) (omega arith) refl all)),
    )

pub value_row-requires-clause-words : goal.value_row-requires-clause-words
value_row-requires-clause-words c =
    let w = c.requires.words in
    (c.loop-i.invariant.0, c.loop-i.invariant.1, w.0, w.2, holds-held (level_at c.args.key.now.matrix.level) c.get-challenge.result.words _ c.get-challenge.ensures)

pub loop-i-preserved : goal.loop-i-preserved
loop-i-preserved c =
    let matrix = c.args.key.now.matrix in
    let l = level_at matrix.level in
    let r = c.loop-i in
    let d = c.value_row.ensures in
    (d.0.words, d.1, rows_more (K l) matrix.n matrix.m 1 _ (small_of l matrix.x.now) (entry_of l matrix.n matrix.h.now) _ _ r.i r.invariant.2 d.0.holds)

pub raised-power-requires : goal.raised-power-requires
raised-power-requires c = holds-held (level_at c.args.key.now.matrix.level) c.get-challenge.result.words _ c.get-challenge.ensures

pub tops-requires : goal.tops-requires
tops-requires c =
    let a = c.args in
    let matrix = a.key.now.matrix in
    let l = level_at matrix.level in (
      c.loop-i.invariant.0,
      holds-held l c.raised-power.result.words _ c.raised-power.ensures,
      a.key.now.target,
      omega arith,
      fits_le l (1 * matrix.n + 1 * matrix.m) (matrix.n + matrix.m) (omega arith) (c.loop-i.auto.dst ∙ cleared-length (length a.dst.now) c.clear.ensures) (fits_all l (matrix.n + matrix.m) c.requires.words.3 c.requires.bits_len.3),
    )

pub returns : goal.returns
unfolding values column_value check_value concat monomial
returns c =
    let a = c.args in
    let matrix = a.key.now.matrix in
    let l = level_at matrix.level in
    let r = c.loop-i in
    let x = small_of l matrix.x.now in
    let y = small_of l a.key.now.y.now in
    let h = entry_of l matrix.n matrix.h.now in
    let bits = bit_of matrix.d a.bits.now in
    let numbers = element_of l matrix.d a.numbers.now in
    let Δ = value_of l c.get-challenge.result.words in
    let power = raise (K l) Δ matrix.d in
    let terms = λ (i j k : ℕ). value (K l) matrix.d (bits i) (numbers i) Δ j in
    let t = c.tops.ensures in
    let done : r.i ≡ matrix.n = omega arith in
    let size = t.same ∙ r.auto.dst ∙ cleared-length (length a.dst.now) c.clear.ensures ∙ c.requires.bits_len.3 ∙ ap (λ n. l.coordinates * n) (sym (one-mul (matrix.n + matrix.m))) in
    let rows = subst (Rows (K l) matrix.n matrix.m 1 terms x h (el l r.dst)) done r.invariant.2 in
    subst (λ e. c.tops.new.dst ≡ concat matrix.n (λ j. words l (column_value (K l) matrix.n matrix.d h x y bits numbers e j)) ++ concat matrix.m (λ k. words l (check_value (K l) matrix.n matrix.d h x y bits numbers e k)))
    (holds-value l c.get-challenge.result.words (el l a.delta.now 0) c.get-challenge.ensures)
    (rows-content l matrix.n matrix.m 1 terms x h r.dst c.tops.new.dst 0 _ power y (λ e. (K l).mul (y e) power) c.requires.words.3 size rows t (holds-value l c.raised-power.result.words power c.raised-power.ensures) (λ e. refl))
