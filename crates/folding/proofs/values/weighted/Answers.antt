use Rattle.std.proofs.Common.{◌≡◌, ℕ, ◌+◌, ◌*◌, length, refl, subst, arith}
use Rattle.field.specs.Level.{level_at, K}
use Rattle.field.specs.Packed.{Holds}
use Rattle.row.specs.Elements.{el}
use Rattle.row.specs.Lent.{small_of, entry_of, bit_of, element_of}
use Rattle.row.specs.Polynomial.{sum, raise}
use Rattle.row.proofs.ElementLaws.{fits_le, holds-value, holds-held, cleared-words, cleared-length}
use Rattle.folding.proofs.RowLaws.{values-total}
use Rattle.folding.proofs.values.weighted.Goals as goal

pub scale-requires : goal.scale-requires
scale-requires c =
    let a = c.args in
    let matrix = a.key.now.matrix in
    let l = level_at matrix.level in (
      cleared-words l (length a.scaled.now) c.clear.ensures,
      c.requires.words.2,
      record { factor = el l a.delta.now 0; table = c.of-multiples.ensures _ c.get-challenge.ensures },
      fits_le l matrix.n matrix.n (omega arith) (cleared-length (length a.scaled.now) c.clear.ensures) c.requires.bits_len.5,
      fits_le l matrix.n (matrix.n + matrix.m) (omega arith) refl c.requires.bits_len.3,
    )

pub all_rows-shares-requires-clause-words : goal.all_rows-shares-requires-clause-words
all_rows-shares-requires-clause-words c =
    let a = c.args in
    let matrix = a.key.now.matrix in
    let l = level_at matrix.level in
    let w = c.requires.words in
    let table = c.of-multiples.ensures _ c.get-challenge.ensures in (
      w.0,
      w.2,
      (c.scale.ensures _ table).words,
      c.multipliers.ensures.words,
      cleared-words l (length a.work.now) c.clear-2.ensures,
      cleared-words l (length a.second.now) c.clear-3.ensures,
      w.3,
      record { factor = el l a.delta.now 0; table = table },
    )

pub raised-power-requires : goal.raised-power-requires
raised-power-requires c = holds-held (level_at c.args.key.now.matrix.level) c.get-challenge.result.words _ c.get-challenge.ensures

pub returns : goal.returns
returns c =
    let a = c.args in
    let matrix = a.key.now.matrix in
    let l = level_at matrix.level in
    let Δ = el l a.delta.now 0 in
    let alpha = el l a.alpha.now in
    let y = small_of l a.key.now.y.now in
    let power = subst (λ e. Holds l c.raised-power.result.words (raise (K l) e matrix.d)) (holds-value l c.get-challenge.result.words Δ c.get-challenge.ensures) c.raised-power.ensures in
    let checks = subst (λ f. Holds l c.mix-checks.result.words (sum (K l) matrix.m f)) (λ t e. (K l).mul (y e) (alpha (place matrix.n e t))) c.mix-checks.ensures in
    let tops = c.times-tops.ensures _ _ (c.plus.ensures _ _ c.total-columns.ensures checks) power in
    let rows = c.all_rows-shares.ensures Δ (c.of-multiples.ensures _ c.get-challenge.ensures) in
    subst (Holds l c.plus-2.result.words)
    (values-total (K l) matrix.n matrix.m matrix.d alpha (small_of l matrix.x.now) y (entry_of l matrix.n matrix.h.now) (bit_of matrix.d a.bits.now) (element_of l matrix.d a.numbers.now) Δ (el l c.multipliers.new.dst) c.multipliers.ensures.holds)
    (c.plus-2.ensures _ _ rows tops)
  where
    place : (n e : ℕ) → n + 1 * e + 0 ≡ n + e
    place n e = omega arith
