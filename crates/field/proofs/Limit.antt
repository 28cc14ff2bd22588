-- Words joined by bitwise or, to test them all against a limit of 2^w - 1 at once.
use mathlib.Core.Path.{◌≡◌, sym, ap, ap₂, ◌∙◌}
use mathlib.Core.Bool.{◌&&◌}
use Prim.Native.Nat.{ℕ, ◌*◌, ◌/◌, ◌^◌, ◌<◌, ◌≤◌}
use native.Mathlib.Decide.{dec_lt}
use native.Mathlib.Nat.{div-eq_of_lt, mod-lt, zero-mul}
use native.Mathlib.Omega.{arith}
use borrow.Author.Tests.{lt-ltb, le-ltb, eq-eqb, ne_eqb}
use lib.Bits.{bit_or, or_lt, or_comm, or_add_and, and_le_r}
use lib.Dec.{ltb, eqb}
use lib.Pow.{pow_pos, split}

or_above : (a b : ℕ) → a ≤ bit_or a b
or_above a b = omega (arith, or_add_and a b, and_le_r a b)

-- one word more
pub or-below : (w a x : ℕ) → ltb (bit_or a x) (2 ^ w) ≡ (ltb a (2 ^ w) && ltb x (2 ^ w))
or-below w a x = go (dec_lt a (2 ^ w)) (dec_lt x (2 ^ w))
  where
    go : Dec (a < 2 ^ w) → Dec (x < 2 ^ w) → ltb (bit_or a x) (2 ^ w) ≡ (ltb a (2 ^ w) && ltb x (2 ^ w))
    go (yes p) (yes q) = lt-ltb (bit_or a x) (2 ^ w) (or_lt w a x p q) ∙ sym (ap₂ ◌&&◌ (lt-ltb a (2 ^ w) p) (lt-ltb x (2 ^ w) q))
    go (yes p) (no q) = le-ltb (bit_or a x) (2 ^ w) (omega (arith, or_above x a, or_comm a x)) ∙ sym (ap₂ ◌&&◌ (lt-ltb a (2 ^ w) p) (le-ltb x (2 ^ w) (omega arith)))
    go (no p) q = le-ltb (bit_or a x) (2 ^ w) (omega (arith, or_above a x)) ∙ sym (ap (λ b. b && ltb x (2 ^ w)) (le-ltb a (2 ^ w) (omega arith)))

-- the digits from 2^w up are zero
pub high-none : (w a : ℕ) → eqb (a / 2 ^ w) 0 ≡ ltb a (2 ^ w)
high-none w a = go (dec_lt a (2 ^ w))
  where
    go : Dec (a < 2 ^ w) → eqb (a / 2 ^ w) 0 ≡ ltb a (2 ^ w)
    go (yes p) = eq-eqb (a / 2 ^ w) 0 (div-eq_of_lt p) ∙ sym (lt-ltb a (2 ^ w) p)
    go (no q) = ne_eqb (a / 2 ^ w) 0 (λ e. omega (arith, split a w, mod-lt a (pow_pos w), ap (λ n. n * 2 ^ w) e, zero-mul (2 ^ w))) ∙ sym (le-ltb a (2 ^ w) (omega arith))
