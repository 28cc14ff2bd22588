use mathlib.Core.Path.{subst, ◌≡◌, sym, ap}
use Prim.Native.Nat.{◌+◌, ◌^◌, ◌<◌}
use native.Mathlib.Nat.{mul-le-mul, lt_of_le_of_lt}
use native.Mathlib.Omega.{arith}
use Rattle.field.proofs.Rules.{shifted, turned, number, small_16}
use Rattle.field.proofs.Fields.{bounded}
use Rattle.field.specs.Word.{digits}
use Rattle.field.specs.Quotient.{times_x}
use Rattle.field.specs.Binary.{binary}
use Rattle.field.specs.Level.{level_at}
use Rattle.field.specs.declared.Level.{Level}
use Rattle.field.proofs.small.times_z.Goals as goal

pub overflow_cast-rule : goal.overflow_cast-rule
overflow_cast-rule c = omega (arith, ap (λ (l : Level). l.width) c.of-l.ensures, (bounded c.args.level).short)

pub overflow_shl-rule : goal.overflow_shl-rule
overflow_shl-rule c = omega (arith, ap (λ (l : Level). l.width) c.of-l.ensures, (bounded c.args.level).short)

pub overflow_cast-rule-2 : goal.overflow_cast-rule-2
overflow_cast-rule-2 c = omega (arith, ap (λ (l : Level). l.tap) c.of-l.ensures, (bounded c.args.level).tap, (bounded c.args.level).short)

pub overflow_shl-rule-2 : goal.overflow_shl-rule-2
overflow_shl-rule-2 c = omega (arith, ap (λ (l : Level). l.tap) c.of-l.ensures, (bounded c.args.level).tap, (bounded c.args.level).short)

pub overflow_add-rule : goal.overflow_add-rule
overflow_add-rule c = record { fits = omega (arith, subst (λ (l : Level). shifted 16 l.width + shifted 16 l.tap < 8192) (sym c.of-l.ensures) (small_16 c.args.level)) }

pub overflow_add-rule-2 : goal.overflow_add-rule-2
overflow_add-rule-2 c = record { fits = omega (arith, subst (λ (l : Level). shifted 16 l.width + shifted 16 l.tap < 8192) (sym c.of-l.ensures) (small_16 c.args.level)) }

pub overflow_sub-result : goal.overflow_sub-result
overflow_sub-result c = omega (arith, ap (λ (l : Level). l.width) c.of-l.ensures, (bounded c.args.level).width)

pub overflow_cast-result : goal.overflow_cast-result
overflow_cast-result c = omega (arith, ap (λ (l : Level). l.width) c.of-l.ensures, (bounded c.args.level).short)

pub overflow_shr-result : goal.overflow_shr-result
overflow_shr-result c = omega (arith, ap (λ (l : Level). l.width) c.of-l.ensures, (bounded c.args.level).short)

pub overflow_mul-result : goal.overflow_mul-result
overflow_mul-result c = record { fits = lt_of_le_of_lt (mul-le-mul {n₂ = 1} {m₂ = 16384} (omega arith) (omega (arith, subst (λ (l : Level). shifted 16 l.width + shifted 16 l.tap < 8192) (sym c.of-l.ensures) (small_16 c.args.level)))) (omega arith) }

pub returns : goal.returns
returns c small =
    let a = c.args in
    let m = level_at a.level in
    subst (λ (l : Level). (turned l a.x < 2 ^ m.width) × (digits m.width (turned l a.x) ≡ times_x binary m.width m.tap (digits m.width a.x))) (sym c.of-l.ensures) (number a.level a.x small)
