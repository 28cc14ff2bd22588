use mathlib.Core.Path.{◌≡◌, sym, ap, ◌∙◌}
use Prim.Native.Nat.{◌%◌, ◌^◌}
use native.Mathlib.Nat.{mod-one, mod-eq_of_lt}
use native.Mathlib.Omega.{arith}
use Rattle.field.proofs.Fields.{bounded}
use Rattle.field.proofs.ShiftAdd.{more}
use Rattle.field.proofs.Number.{multiple, multiple-none, multiple-one, number_digits}
use Rattle.field.specs.Word.{digits, small, word}
use Rattle.field.specs.Level.{F, level_at}
use Rattle.field.specs.declared.Level.{Level}
use Rattle.field.proofs.small.product.Goals as goal

pub loop-k-init : goal.loop-k-init
loop-k-init c =
    let s = c.args in
    let l = level_at s.level in
    (omega arith, ap (λ (l : Level). l.width) c.of-l.ensures, λ h. (sym (ap (multiple l.width l.tap (digits l.width s.b)) (mod-one s.a) ∙ multiple-none l.width l.tap (digits l.width s.b)), λ _. sym (multiple-one l.width l.tap (digits l.width s.b) ∙ number_digits l.width s.b h)))

pub overflow_cast-z : goal.overflow_cast-z
overflow_cast-z c = omega (arith, c.loop-k.invariant.1, (bounded c.args.level).short)

pub overflow_shr-z : goal.overflow_shr-z
overflow_shr-z c = omega (arith, c.loop-k.invariant.1, (bounded c.args.level).short)

pub loop-k-preserved : goal.loop-k-preserved
loop-k-preserved c =
    let l = c.loop-k in
    let s = c.args in
    let m = level_at s.level in (
      omega arith,
      l.invariant.1,
      λ h. more m.width m.tap s.a s.b l.z l.y l.k c.times_z-y.result (bounded s.level).width (omega (arith, (bounded s.level).short)) (omega (arith, l.invariant.1)) (l.invariant.2 h).0 ((l.invariant.2 h).1 (omega (arith, l.invariant.1))) c.times_z-y.ensures,
    )

pub returns : goal.returns
unfolding F small word
returns c ha hb =
    let s = c.args in
    let m = level_at s.level in
    let done : c.loop-k.k ≡ m.width = omega (arith, c.loop-k.invariant.1) in
    (c.loop-k.invariant.2 (omega (arith, (bounded s.level).limit))).0 ∙ ap (multiple m.width m.tap (digits m.width s.b)) (ap (λ n. s.a % 2 ^ n) done ∙ mod-eq_of_lt (omega (arith, (bounded s.level).limit)))
