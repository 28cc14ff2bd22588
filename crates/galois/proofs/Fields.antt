-- F and K are fields at every level whose rules are irreducible; the rules of the first level and of the second are.
use mathlib.Core.Path.{refl}
use Prim.Native.Nat.{ℕ, ◌<◌}
use native.Mathlib.Omega.{arith}
use Rattle.field.specs.Binary.{binary}
use Rattle.field.specs.declared.Level.{Level}
use Rattle.field.specs.Level.{first, second, level_at, F, K}
use Rattle.field.proofs.Named.{every}
use Rattle.galois.specs.Field.{NoZeroDivisors, Field}
use Rattle.galois.specs.Rules.{IrreducibleRules}
use Rattle.galois.proofs.FieldLaws.{no_zero_divisors, binary_field}
use Rattle.galois.proofs.Frobenius.{Galois, galois_field}
use Rattle.galois.proofs.Certificate.{binary-galois, galois}
use Rattle.galois.proofs.Computed.{rule_11, rule_12, rule_23}
use Rattle.galois.proofs.Irreducible.{field_irreducible, irreducible_field}

module _ (l : Level) (I : IrreducibleRules l) where
  pub F_field : Field (F l)
  unfolding F
  F_field = irreducible_field binary l.width l.tap binary_field I.small

  pub K_field : Field (K l)
  unfolding K
  K_field = irreducible_field (F l) l.coordinates l.power F_field I.large

  pub F_no_zero_divisors : NoZeroDivisors (F l)
  F_no_zero_divisors = no_zero_divisors (F l) F_field

  pub K_no_zero_divisors : NoZeroDivisors (K l)
  K_no_zero_divisors = no_zero_divisors (K l) K_field

-- the other way: where F and K are fields of 2^m and 2^n elements, the rules are irreducible
irreducible : (l : Level) (m n : ℕ) → 0 < l.width → 0 < l.coordinates → Galois (F l) m → Galois (K l) n → 0 < m → 0 < n → IrreducibleRules l
unfolding F K
irreducible l m n h k G H hm hn = record {
  small = field_irreducible binary l.width l.tap binary_field.distinct h (no_zero_divisors (F l) (galois_field (F l) m hm G));
  large = field_irreducible (F l) l.coordinates l.power G.distinct k (no_zero_divisors (K l) (galois_field (K l) n hn H));
}

-- 11 * 11 = 1 + 10 * 12: 11 and 12 have no common factor
pub first_irreducible : IrreducibleRules first
unfolding F K
first_irreducible = irreducible first 11 132 (omega arith) (omega arith) G (galois 12 3 rule_12 (F first) 11 G 11 10 refl) (omega arith) (omega arith)
  where
    G : Galois (F first) 11
    G = galois 11 2 rule_11 binary 1 binary-galois 1 0 refl

-- 2 * 12 = 1 + 1 * 23: 12 and 23 have no common factor
pub second_irreducible : IrreducibleRules second
unfolding F K
second_irreducible = irreducible second 12 276 (omega arith) (omega arith) G (galois 23 5 rule_23 (F second) 12 G 2 1 refl) (omega arith) (omega arith)
  where
    G : Galois (F second) 12
    G = galois 12 3 rule_12 binary 1 binary-galois 1 0 refl

-- every level that a number names
pub level_irreducible : (number : ℕ) → IrreducibleRules (level_at number)
level_irreducible number = every IrreducibleRules number first_irreducible second_irreducible

module _ (number : ℕ) where
  pub level_F_field : Field (F (level_at number))
  level_F_field = F_field (level_at number) (level_irreducible number)

  pub level_K_field : Field (K (level_at number))
  level_K_field = K_field (level_at number) (level_irreducible number)

  pub level_F_no_zero_divisors : NoZeroDivisors (F (level_at number))
  level_F_no_zero_divisors = F_no_zero_divisors (level_at number) (level_irreducible number)

  pub level_K_no_zero_divisors : NoZeroDivisors (K (level_at number))
  level_K_no_zero_divisors = K_no_zero_divisors (level_at number) (level_irreducible number)
