use Rattle.std.proofs.Common.{◌≡◌, ℕ, ◌+◌, ◌-◌, ◌*◌, ◌/◌, ◌^◌, ◌<◌, get_or, ap, subst, sym, refl, ◌∙◌, arith}
use Rattle.field.specs.Level.{level_at, K}
use Rattle.field.specs.Packed.{Holds}
use Rattle.field.specs.Word.{odd}
use Rattle.row.specs.Elements.{el}
use Rattle.row.proofs.ElementLaws.{fits_le}
use Rattle.row.proofs.NumberLaws.{pow_double, pow_room}
use Rattle.folding.specs.Steps.{Folded, row_total}
use Rattle.folding.proofs.RowLaws.{digit-le, total-none, total-digit}
use Rattle.folding.proofs.values.digits.Goals as goal

-- half the columns are left
halved : (d k h : ℕ) → k < d → h ≡ 2 ^ (d - k) → h / 2 ≡ 2 ^ (d - 1 - k)
halved d k h l e =
    let same : d - k ≡ d - 1 - k + 1 = omega arith in
    omega (arith, ap (λ n. 2 ^ n) same, pow_double (d - 1 - k))

pub digit-requires : goal.digit-requires
digit-requires c =
    let a = c.args in
    let l = level_at a.level in
    let r = c.loop-k in
    let half = halved a.d r.k r.h (omega arith) r.invariant.0 in (
      r.invariant.1,
      record { factor = el l a.numbers.now (a.at + r.k); table = c.of.ensures _ c.get-q.ensures },
      c.requires.3,
      digit-le (get_or a.bits.now (a.at + r.k) 0) (r.h / 2) (c.requires.2 (a.at + r.k)),
      fits_le l (r.h / 2 + r.h / 2) a.half (omega (arith, c.requires.5, pow_room (a.d - 1) (a.d - 1 - r.k) (omega arith))) r.auto.work c.requires.6,
    )

pub loop-k-preserved : goal.loop-k-preserved
loop-k-preserved c =
    let a = c.args in
    let l = level_at a.level in
    let r = c.loop-k in
    let inside : r.k < a.d = omega arith in
    let half = halved a.d r.k r.h inside r.invariant.0 in
    let next : a.d - 1 - r.k ≡ a.d - (r.k + 1) = omega arith in
    let w = get_or a.bits.now (a.at + r.k) 0 in
    let q = λ (e : ℕ). el l a.numbers.now (a.at + e) in
    let bits = λ (e : ℕ). odd (get_or a.bits.now (a.at + e) 0) in
    let f = el l r.work in
    let g = el l c.digit.new.work in
    let table = c.of.ensures _ c.get-q.ensures in (
      half ∙ ap (λ n. 2 ^ n) next,
      (c.digit.ensures _ _ table c.requires.3.table).words,
      λ Δ t.
          let d = subst (λ h. Folded (K l) f g h (q r.k) (λ p. (K l).mul Δ (f (p + w * h))) h) half (c.digit.ensures _ Δ table t).holds in
          r.invariant.2 Δ t
          ∙ total-digit (K l) a.d bits q Δ r.k w inside (c.requires.2 (a.at + r.k)) refl f g (λ p. (K l).mul Δ (f (p + w * 2 ^ (a.d - 1 - r.k)))) d (λ p m. refl)
          ∙ ap (row_total (K l) a.d bits q Δ g) next,
    )

pub returns : goal.returns
returns c =
    let a = c.args in
    let l = level_at a.level in
    let r = c.loop-k in
    let q = λ (e : ℕ). el l a.numbers.now (a.at + e) in
    let bits = λ (e : ℕ). odd (get_or a.bits.now (a.at + e) 0) in
    let done : a.d - r.k ≡ 0 = omega arith in
    (λ Δ t. subst (Holds l c.get.result.words) (sym (r.invariant.2 Δ t ∙ ap (row_total (K l) a.d bits q Δ (el l r.work)) done ∙ total-none (K l) a.d bits q Δ (el l r.work))) c.get.ensures, r.invariant.1)
