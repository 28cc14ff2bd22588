use Rattle.std.proofs.Common.{◌≡◌, ℕ, ◌+◌, ◌-◌, ◌*◌, ◌^◌, ◌≤◌, get_or, refl, ap, subst, ◌∙◌, arith}
use Rattle.std.proofs.Math.Nat.{add-zero, one-mul}
use Rattle.field.specs.Level.{level_at, K}
use Rattle.field.specs.Packed.{Holds}
use Rattle.field.specs.Word.{odd}
use Rattle.row.specs.Elements.{el, value_of}
use Rattle.row.specs.Lent.{small_of}
use Rattle.row.proofs.ElementLaws.{fits_le}
use Rattle.row.proofs.NumberLaws.{pow_double}
use Rattle.folding.proofs.RowLaws.{digit-le, exponent_lt, total_first}
use Rattle.folding.proofs.values.row.Goals as goal

pub power-half-requires : goal.power-half-requires
power-half-requires c = omega (arith, exponent_lt c.args.matrix.now.d (omega (arith, c.requires.le_d.5.1)))

-- twice half the columns are all
whole : (d h : ℕ) → 1 ≤ d → h ≡ 2 ^ (d - 1) → h + h ≡ 2 ^ d
whole d h l e =
    let more : d - 1 + 1 ≡ d = omega arith in
    ap (λ i. i + i) e ∙ pow_double (d - 1) ∙ ap (λ i. 2 ^ i) more

pub leaves-requires-2 : goal.leaves-requires-2
leaves-requires-2 c =
    let a = c.args in
    let matrix = a.matrix.now in
    let l = level_at matrix.level in
    let w = c.requires.words in
    let p = c.requires.le_d in
    let h = c.power-half.result in
    let room = whole matrix.d h p.0 c.power-half.ensures in (
      w.4,
      w.2,
      record { factor = (K l).mul w.7.factor (value_of l a.beta.words); table = c.of-product.ensures _ (c.times.ensures _ _ w.7.table w.6) },
      matrix.lent.x-within,
      omega (arith, matrix.lent.x-length),
      omega arith,
      digit-le (get_or a.bits.now a.at 0) h (w.5 a.at),
      fits_le l (1 * h) (2 ^ matrix.d) (omega (arith, one-mul h)) refl p.6,
      p.4,
    )

pub first_digit-requires : goal.first_digit-requires
first_digit-requires c =
    let a = c.args in
    let matrix = a.matrix.now in
    let l = level_at matrix.level in
    let w = c.requires.words in
    let p = c.requires.le_d in
    let h = c.power-half.result in
    let room = whole matrix.d h p.0 c.power-half.ensures in
    let first = c.leaves.ensures _ (c.of-own.ensures _ w.6) in
    let second = c.leaves-2.ensures _ (c.of-product.ensures _ (c.times.ensures _ _ w.7.table w.6)) in (
      first.words,
      second.words,
      record { factor = el l a.numbers.now a.at; table = c.of-q.ensures _ c.get.ensures },
      fits_le l (h + h) (2 ^ matrix.d) (omega arith) first.same p.5,
      fits_le l h (2 ^ matrix.d) (omega arith) second.same p.6,
    )

pub returns : goal.returns
returns c =
    let a = c.args in
    let matrix = a.matrix.now in
    let l = level_at matrix.level in
    let w = c.requires.words in
    let p = c.requires.le_d in
    let first = c.leaves.ensures _ (c.of-own.ensures _ w.6) in
    let folded = c.first_digit.ensures _ (c.of-q.ensures _ c.get.ensures) in
    let bits = λ (e : ℕ). odd (get_or a.bits.now (a.at + e) 0) in
    let numbers = λ (e : ℕ). el l a.numbers.now (a.at + e) in (
      λ Δ t.
          let second = c.leaves-2.ensures _ (c.of-product.ensures _ (c.times.ensures _ _ t w.6)) in
          subst (Holds l c.digits.result.words)
          (total_first (K l) c.power-half.result matrix.n (get_or a.bits.now a.at 0) (el l a.alpha.now) (el l a.scaled.now) (small_of l matrix.x.now) (value_of l a.beta.words) Δ (p.7 Δ t) matrix.d bits numbers (el l a.numbers.now a.at) _ _ _
          p.0 c.power-half.ensures (w.5 a.at) matrix.columns (ap (λ i. odd (get_or a.bits.now i 0)) (add-zero a.at)) (ap (el l a.numbers.now) (add-zero a.at)) first.holds second.holds folded.holds) (c.digits.ensures.0 Δ t),
      c.digits.ensures.1,
      (c.leaves-2.ensures _ (c.of-product.ensures _ (c.times.ensures _ _ w.7.table w.6))).words,
    )
