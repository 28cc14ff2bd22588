use mathlib.Core.Path.{subst, sym, ap}
use Prim.Native.Nat.{◌+◌, ◌-◌, ◌*◌, ◌/◌, ◌%◌, ◌^◌, ◌<◌}
use native.Mathlib.Omega.{arith}
use lib.Bits.{bit_xor, bit_and, and_le_r}
use Rattle.field.proofs.Rules.{rule_of, shifted, lanes, lanes_fit, small_64}
use Rattle.field.proofs.Fields.{bounded}
use Rattle.field.specs.Packed.{TimesZ}
use Rattle.field.specs.Level.{level_at}
use Rattle.field.specs.declared.Level.{Level}
use Rattle.field.proofs.packed.times_z.Goals as goal

pub overflow_shl-rule : goal.overflow_shl-rule
overflow_shl-rule c = omega (arith, ap (λ (l : Level). l.width) c.of-l.ensures, (bounded c.args.level).short)

pub overflow_shl-rule-2 : goal.overflow_shl-rule-2
overflow_shl-rule-2 c = omega (arith, ap (λ (l : Level). l.tap) c.of-l.ensures, (bounded c.args.level).short, (bounded c.args.level).tap)

pub overflow_add-rule : goal.overflow_add-rule
overflow_add-rule c = record { fits = omega (arith, subst (λ (l : Level). shifted 64 l.width + shifted 64 l.tap < 8192) (sym c.of-l.ensures) (small_64 c.args.level)) }

pub overflow_add-rule-2 : goal.overflow_add-rule-2
overflow_add-rule-2 c = record { fits = omega (arith, subst (λ (l : Level). shifted 64 l.width + shifted 64 l.tap < 8192) (sym c.of-l.ensures) (small_64 c.args.level)) }

pub overflow_sub-highest : goal.overflow_sub-highest
overflow_sub-highest c = omega (arith, ap (λ (l : Level). l.width) c.of-l.ensures, (bounded c.args.level).width)

pub overflow_shr-highest : goal.overflow_shr-highest
overflow_shr-highest c = omega (arith, ap (λ (l : Level). l.width) c.of-l.ensures, (bounded c.args.level).short)

pub overflow_mul-result : goal.overflow_mul-result
overflow_mul-result c = record { fits = lanes_fit _ _ (and_le_r (c.args.x / 2 ^ (c.of-l.result.width - 1)) 281479271743489) (omega (arith, subst (λ (l : Level). shifted 64 l.width + shifted 64 l.tap < 8192) (sym c.of-l.ensures) (small_64 c.args.level))) }

pub returns : goal.returns
returns c =
    let a = c.args in
    subst (λ (l : Level). TimesZ (level_at a.level).width (level_at a.level).tap a.x (bit_xor (a.x * 2 % 2 ^ 64) (bit_and (a.x / 2 ^ (l.width - 1)) 281479271743489 * rule_of 64 l))) (sym c.of-l.ensures) (lanes a.level a.x)
