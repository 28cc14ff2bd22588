-- Numbers joined by or, zero exactly when all are; and lengths as they are stated.
use mathlib.Core.Path.{◌≡◌, refl, sym, ap, ap₂, ◌∙◌}
use mathlib.Core.Bool.{Bool, true, false, ◌&&◌, and-eq-true_iff}
use mathlib.Core.List.{List, [], ◌∷◌}
use Prim.Native.Nat.{ℕ}
use native.Mathlib.Decide.{ℕ_discrete}
use native.Mathlib.Omega.{arith}
use borrow.Author.Tests.{eq-eqb, ne_eqb, eqb-true}
use lib.Bits.{bit_xor, bit_or, xor_self, or_add_and, and_le_l, and_le_r, xor_add_and}
use lib.Dec.{eqb}
use lib.ListN.{length}
use Rattle.lists.specs.Lent.{long}

-- no digit differs
pub xor-none : (a b : ℕ) → eqb (bit_xor a b) 0 ≡ eqb a b
xor-none a b = go (ℕ_discrete a b)
  where
    go : Dec (a ≡ b) → eqb (bit_xor a b) 0 ≡ eqb a b
    go (yes e) = eq-eqb (bit_xor a b) 0 (ap (λ x. bit_xor x b) e ∙ xor_self b) ∙ sym (eq-eqb a b e)
    go (no d) = ne_eqb (bit_xor a b) 0 (λ e. d (omega (arith, xor_add_and a b, and_le_l a b, and_le_r a b, e))) ∙ sym (ne_eqb a b d)

-- neither has a digit
pub or-none : (a b : ℕ) → eqb (bit_or a b) 0 ≡ (eqb a 0 && eqb b 0)
or-none a b = go (ℕ_discrete a 0) (ℕ_discrete b 0)
  where
    go : Dec (a ≡ 0) → Dec (b ≡ 0) → eqb (bit_or a b) 0 ≡ (eqb a 0 && eqb b 0)
    go (yes p) (yes q) = eq-eqb (bit_or a b) 0 (omega (arith, or_add_and a b)) ∙ sym (ap₂ ◌&&◌ (eq-eqb a 0 p) (eq-eqb b 0 q))
    go (yes p) (no q) = ne_eqb (bit_or a b) 0 (λ e. q (omega (arith, or_add_and a b, and_le_l a b))) ∙ sym (ap₂ ◌&&◌ (eq-eqb a 0 p) (ne_eqb b 0 q))
    go (no p) q = ne_eqb (bit_or a b) 0 (λ e. p (omega (arith, or_add_and a b, and_le_r a b))) ∙ sym (ap (λ t. t && eqb b 0) (ne_eqb a 0 p))

-- each slice has its length
abbrev pub Long : List (List ℕ × ℕ) → Type 0
Long [] = Unit {0}
Long ((s, n) ∷ others) = (length s ≡ n) × Long others

pub each_long : (slices : List (List ℕ × ℕ)) → long slices ≡ true → Long slices
each_long [] e = tt
each_long ((s, n) ∷ others) e = let b = (and-eq-true_iff (eqb (length s) n) (long others)).0 e in (eqb-true (length s) n b.0, each_long others b.1)

pub long-each : (slices : List (List ℕ × ℕ)) → Long slices → long slices ≡ true
long-each [] h = refl
long-each ((s, n) ∷ others) h = ap₂ ◌&&◌ (eq-eqb (length s) n h.0) (long-each others h.1)
