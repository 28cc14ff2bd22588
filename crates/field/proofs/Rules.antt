-- The number 2^width + 2^tap + 1 of the level named, by shifts of 1 in words of B digits.
use mathlib.Core.Path.{◌≡◌, refl, sym, ap₂, subst}
use Prim.Native.Nat.{ℕ, ◌+◌, ◌-◌, ◌*◌, ◌/◌, ◌%◌, ◌^◌, ◌<◌, ◌≤◌}
use native.Mathlib.Nat.{mul-le-mul, lt_of_le_of_lt}
use native.Mathlib.Omega.{arith}
use lib.Bits.{bit_xor, bit_and}
use Rattle.field.specs.Binary.{binary}
use Rattle.field.specs.Vector.{sum, unit, zeros}
use Rattle.field.specs.Quotient.{rule, times_x}
use Rattle.field.specs.declared.Level.{Level}
use Rattle.field.specs.Level.{level_at, first, second}
use Rattle.field.specs.Word.{digits}
use Rattle.field.specs.Packed.{TimesZ}
use Rattle.field.proofs.Number.{times_x-number}
use Rattle.field.proofs.Packing.{times-Z}
use Rattle.field.proofs.Named.{every}

abbrev pub shifted : ℕ → ℕ → ℕ
shifted B e = 1 * 2 ^ e % 2 ^ B

abbrev pub rule_of : ℕ → Level → ℕ
rule_of B l = shifted B l.width + shifted B l.tap + 1

first-rule : digits 11 5 ≡ rule binary 11 2
unfolding digits rule sum unit zeros
first-rule = refl

second-rule : digits 12 9 ≡ rule binary 12 3
unfolding digits rule sum unit zeros
second-rule = refl

-- z times four lanes
pub lanes : (number x : ℕ) → TimesZ (level_at number).width (level_at number).tap x (bit_xor (x * 2 % 2 ^ 64) (bit_and (x / 2 ^ ((level_at number).width - 1)) 281479271743489 * rule_of 64 (level_at number)))
lanes number x = every (λ l. TimesZ l.width l.tap x (bit_xor (x * 2 % 2 ^ 64) (bit_and (x / 2 ^ (l.width - 1)) 281479271743489 * rule_of 64 l))) number
    (times-Z 11 2 5 x (omega arith) (omega arith) (omega arith) first-rule)
    (times-Z 12 3 9 x (omega arith) (omega arith) (omega arith) second-rule)

-- no sum or product of it leaves the words
pub small_16 : (number : ℕ) → shifted 16 (level_at number).width + shifted 16 (level_at number).tap < 8192
small_16 number = every (λ (l : Level). shifted 16 l.width + shifted 16 l.tap < 8192) number (omega arith) (omega arith)

pub small_64 : (number : ℕ) → shifted 64 (level_at number).width + shifted 64 (level_at number).tap < 8192
small_64 number = every (λ (l : Level). shifted 64 l.width + shifted 64 l.tap < 8192) number (omega arith) (omega arith)

pub lanes_fit : (h r : ℕ) → h ≤ 281479271743489 → r ≤ 16384 → h * r < 2 ^ 64
lanes_fit h r k m = lt_of_le_of_lt (mul-le-mul {n₂ = 281479271743489} {m₂ = 16384} k m) (omega arith)

-- z times a number of F
abbrev pub turned : Level → ℕ → ℕ
turned l x = bit_xor (x * 2 % 2 ^ 16) (x / 2 ^ (l.width - 1) % 2 * rule_of 16 l)

abbrev Turned : ℕ → ℕ → ℕ → ℕ → Type 0
Turned w t x y = (y < 2 ^ w) × (digits w y ≡ times_x binary w t (digits w x))

pub number : (level x : ℕ) → x < 2 ^ (level_at level).width
    → (turned (level_at level) x < 2 ^ (level_at level).width) × (digits (level_at level).width (turned (level_at level) x) ≡ times_x binary (level_at level).width (level_at level).tap (digits (level_at level).width x))
number level x = every (λ l. x < 2 ^ l.width → Turned l.width l.tap x (turned l x)) level at_first at_second
  where
    at_first : x < 2 ^ 11 → Turned 11 2 x (turned first x)
    at_first h = subst (Turned 11 2 x) (sym (ap₂ bit_xor one two)) (times_x-number 11 2 5 x (omega arith) first-rule (omega arith) h)
      where
        one : x * 2 % 65536 ≡ 2 * x
        one = omega arith

        two : x / 1024 % 2 * 2053 ≡ (2 ^ 11 + 5) * (x / 2 ^ (11 - 1))
        two = omega arith

    at_second : x < 2 ^ 12 → Turned 12 3 x (turned second x)
    at_second h = subst (Turned 12 3 x) (sym (ap₂ bit_xor one two)) (times_x-number 12 3 9 x (omega arith) second-rule (omega arith) h)
      where
        one : x * 2 % 65536 ≡ 2 * x
        one = omega arith

        two : x / 2048 % 2 * 4105 ≡ (2 ^ 12 + 9) * (x / 2 ^ (12 - 1))
        two = omega arith
