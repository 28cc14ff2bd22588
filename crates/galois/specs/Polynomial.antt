-- Polynomials over a ring, by their coefficients, that of X^0 first: products, and irreducible polynomials.
use Rattle.std.specs.Prelude.{◌≡◌, ℕ, zero, suc, ◌+◌}
use Rattle.field.specs.Ring.{Ring}
use Rattle.field.specs.Vector.{Vector, zeros, sum, scale}
use Rattle.field.specs.VectorLaws.{pad}
use Rattle.field.specs.Quotient.{rule}

module _ (R : Ring) where
  open R use {Carrier, zero as 𝟘, one as 𝟙}

  -- the product of polynomials with m and n coefficients, as l coefficients, l at least m + n:
  -- a (b₀ + b₁ X + ..) = b₀ a + X (a (b₁ + ..)); `pad` puts zeros at the end
  unfoldable pub product : (l m n : ℕ) → Vector Carrier m → Vector Carrier n → Vector Carrier l
  product zero m n a b = tt
  product (suc l) m zero a b = zeros R (suc l)
  product (suc l) m (suc n) a b = sum R (suc l) (pad R m (suc l) (scale R m b.0 a)) (𝟘, product l m n a b.1)

  -- c₀ + c₁ X + .. + X^k
  unfoldable pub monic : (k : ℕ) → Vector Carrier k → Vector Carrier (suc k)
  monic zero c = (𝟙, tt)
  monic (suc k) c = (c.0, monic k c.1)

  -- X^w + X^t + 1, for t below w: zero in the ring with X^w = X^t + 1
  abbrev pub modulus : (w t : ℕ) → Vector Carrier (suc w)
  modulus w t = monic w (rule R w t)

  -- p, of degree w, is no product of two polynomials of smaller degree, which have w coefficients each
  abbrev pub Irreducible : (w : ℕ) → Vector Carrier (suc w) → Type 0
  Irreducible w p = (a b : Vector Carrier w) → product (w + w) w w a b ≡ pad R (suc w) (w + w) p → ⊥
