-- The inverse in F, at every level whose rules are irreducible.
use mathlib.Core.Path.{◌≡◌, ◌∙◌, ap}
use Prim.Native.Nat.{ℕ, suc, ◌-◌, ◌^◌}
use native.Mathlib.Omega.{arith}
use lib.Pow.{pow_pos, pow-lt}
use Rattle.field.specs.Sums.{pow}
use Rattle.field.specs.Binary.{binary}
use Rattle.field.specs.Extension.{extend}
use Rattle.field.specs.Word.{digits, number}
use Rattle.field.specs.declared.Level.{Level}
use Rattle.field.specs.Level.{level_at, F}
use Rattle.field.proofs.Number.{digits-zero, digits_number, number_digits, number_lt}
use Rattle.galois.specs.Rules.{IrreducibleRules}
use Rattle.galois.specs.Inverse.{inverse, Inverts}
use Rattle.galois.proofs.Irreducible.{positive}
use Rattle.galois.proofs.Fermat.{Numbered, fermat}
use Rattle.galois.proofs.Fields.{F_field, level_irreducible}

-- polynomials of w coefficients over two elements are numbered by their digits
numbered : (w t : ℕ) → Numbered (extend binary w t) (2 ^ w - 1)
numbered w t = record {
  element = digits w;
  index = number w;
  below = λ a. omega (arith, number_lt w a);
  element-index = digits_number w;
  index-element = λ x h. number_digits w x (omega (arith, pow_pos w));
  element-zero = digits-zero w;
}

module _ (l : Level) (I : IrreducibleRules l) where
  -- a times its inverse is one power more
  inverse-pow : (a : (F l).Carrier) → (F l).mul a (inverse l a) ≡ pow (F l) a (2 ^ l.width - 1)
  unfolding inverse pow
  inverse-pow a = ap (pow (F l) a) more
    where
      more : suc (2 ^ l.width - 2) ≡ 2 ^ l.width - 1
      more = omega (arith, pow-lt (positive binary l.width l.tap I.small))

  pub F-inverts : Inverts l
  unfolding F
  F-inverts a d = inverse-pow a ∙ fermat (F l) (2 ^ l.width - 1) (numbered l.width l.tap) (F_field l I) a d

pub level_inverts : (number : ℕ) → Inverts (level_at number)
level_inverts number = F-inverts (level_at number) (level_irreducible number)
