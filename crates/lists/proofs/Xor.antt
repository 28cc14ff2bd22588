-- Laws of exclusive or that the kit's lack.
use mathlib.Core.Path.{◌≡◌, refl, sym, ap, ap₂, ◌∙◌}
use Prim.Native.Nat.{ℕ, zero, suc, ◌+◌, ◌*◌, ◌/◌, ◌%◌, ◌<◌}
use native.Mathlib.Omega.{arith}
use lib.Arith.{bin_ind}
use lib.Bits.{bit_xor, differ, xor_step, xor_zero_l, xor_shr}

-- of numbers of one digit
differ_assoc : (x y z : ℕ) → x < 2 → y < 2 → z < 2 → differ (differ x y) z ≡ differ x (differ y z)
differ_assoc zero y z a b c = refl
differ_assoc (suc zero) zero z a b c = refl
differ_assoc (suc zero) (suc zero) zero a b c = refl
differ_assoc (suc zero) (suc zero) (suc zero) a b c = refl
differ_assoc (suc zero) (suc zero) (suc (suc z)) a b c = absurd (omega arith)
differ_assoc (suc zero) (suc (suc y)) z a b c = absurd (omega arith)
differ_assoc (suc (suc x)) y z a b c = absurd (omega arith)

one-digit : (a b : ℕ) → bit_xor a b % 2 ≡ differ (a % 2) (b % 2)
one-digit a b = omega (arith, xor_step a b, small (a % 2) (b % 2) (omega arith) (omega arith))
  where
    small : (x y : ℕ) → x < 2 → y < 2 → differ x y < 2
    small zero y p q = q
    small (suc zero) zero p q = omega arith
    small (suc zero) (suc zero) p q = omega arith
    small (suc zero) (suc (suc y)) p q = absurd (omega arith)
    small (suc (suc x)) y p q = absurd (omega arith)

pub xor_assoc : (a b c : ℕ) → bit_xor (bit_xor a b) c ≡ bit_xor a (bit_xor b c)
xor_assoc = bin_ind (λ a. (b c : ℕ) → bit_xor (bit_xor a b) c ≡ bit_xor a (bit_xor b c)) (λ b c. ap (λ x. bit_xor x c) (xor_zero_l b) ∙ sym (xor_zero_l (bit_xor b c))) more
  where
    more : (a : ℕ) → ((b c : ℕ) → bit_xor (bit_xor (a / 2) b) c ≡ bit_xor (a / 2) (bit_xor b c)) → (b c : ℕ) → bit_xor (bit_xor a b) c ≡ bit_xor a (bit_xor b c)
    more a h b c =
        xor_step (bit_xor a b) c
        ∙ ap₂ (λ (x y : ℕ). x * 2 + y)
        (ap (λ x. bit_xor x (c / 2)) (xor_shr a b 1) ∙ h (b / 2) (c / 2) ∙ ap (bit_xor (a / 2)) (sym (xor_shr b c 1)))
        (ap (λ x. differ x (c % 2)) (one-digit a b) ∙ differ_assoc (a % 2) (b % 2) (c % 2) (omega arith) (omega arith) (omega arith) ∙ ap (differ (a % 2)) (sym (one-digit b c)))
        ∙ sym (xor_step a (bit_xor b c))
