-- One turn of the product in F by shift and add, of numbers of sixteen digits at most.
use mathlib.Core.Path.{◌≡◌, sym, ◌∙◌, ap, ap₂, subst}
use Prim.Native.Nat.{ℕ, zero, suc, ◌+◌, ◌*◌, ◌/◌, ◌%◌, ◌^◌, ◌<◌, ◌≤◌}
use native.Mathlib.Nat.{zero-mul, one-mul, mod-eq_of_lt, lt_of_lt_of_le}
use native.Mathlib.Numerals.{add-one}
use native.Mathlib.Omega.{arith}
use lib.Bits.{bit_xor, bit_and, and_zero_r, and_mask}
use lib.Pow.{pow_mono}
use Rattle.field.specs.Binary.{binary}
use Rattle.field.specs.Quotient.{times_x}
use Rattle.field.specs.Word.{digits}
use Rattle.field.proofs.Number.{multiple, multiple_more, multiple-next, number_lt}

-- all digits of y, or none
pub masked : (e y : ℕ) → e < 2 → y < 2 ^ 16 → bit_and y (e * 65535) ≡ e * y
masked zero y h l = ap (bit_and y) (zero-mul 65535) ∙ and_zero_r y ∙ sym (zero-mul y)
masked (suc zero) y h l = and_mask y 16 ∙ mod-eq_of_lt l ∙ sym (one-mul y)
masked (suc (suc e)) y h l = absurd (omega arith)

pub more : (w t a b z y k v : ℕ) → 0 < w → w ≤ 16 → k < w → z ≡ multiple w t (digits w b) (a % 2 ^ k) → y ≡ multiple w t (digits w b) (2 ^ k) → (y < 2 ^ w → (v < 2 ^ w) × (digits w v ≡ times_x binary w t (digits w y)))
    → (bit_xor z (bit_and y (a / 2 ^ k % 2 * 65535)) ≡ multiple w t (digits w b) (a % 2 ^ (k + 1))) × (k + 1 < w → v ≡ multiple w t (digits w b) (2 ^ (k + 1)))
more w t a b z y k v p r h hz hy next = (
  ap₂ bit_xor hz (masked (a / 2 ^ k % 2) y (omega arith) (lt_of_lt_of_le small (pow_mono {i = w} {j = 16} r)) ∙ ap (λ m. a / 2 ^ k % 2 * m) hy) ∙ sym (multiple_more w t (digits w b) a k) ∙ ap (λ m. multiple w t (digits w b) (a % 2 ^ m)) (sym (add-one k)),
  λ l. multiple-next w t (digits w b) k y v (omega arith) hy (next small).0 (next small).1 ∙ ap (λ m. multiple w t (digits w b) (2 ^ m)) (sym (add-one k)),
)
  where
    small : y < 2 ^ w
    small = subst (λ y. y < 2 ^ w) (sym hy) (number_lt w _)
