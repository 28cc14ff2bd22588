-- R[X] with X^w = X^t + 1: an element is the vector of its w coefficients, that of X^0 first.
use Rattle.std.specs.Prelude.{ℕ, zero, suc}
use Rattle.field.specs.Ring.{Ring}
use Rattle.field.specs.Vector.{Vector, zeros, unit, sum, scale, push, top}

module _ (R : Ring) (w t : ℕ) where
  open R use {Carrier, zero as 𝟘}

  -- X^w
  unfoldable pub rule : Vector Carrier w
  rule = sum R w (unit R w 0) (unit R w t)

  -- X times v: each coefficient moves up by one power, and the last one becomes a multiple of X^w
  unfoldable pub times_x : Vector Carrier w → Vector Carrier w
  times_x v = sum R w (push R w 𝟘 v) (scale R w (top R w 𝟘 v) rule)

  -- (c₀ + c₁ X + c₂ X² + ..) v = c₀ v + X (c₁ v + X (c₂ v + ..)), of n coefficients c
  unfoldable pub horner : (n : ℕ) → Vector Carrier n → Vector Carrier w → Vector Carrier w
  horner zero c v = zeros R w
  horner (suc n) c v = sum R w (scale R w c.0 v) (times_x (horner n c.1 v))

  unfoldable pub times : Vector Carrier w → Vector Carrier w → Vector Carrier w
  times u v = horner w u v

  -- r as the element with it at X^0
  unfoldable pub constant : Carrier → Vector Carrier w
  constant r = scale R w r (unit R w 0)

  -- X itself
  unfoldable pub generator : Vector Carrier w
  generator = times_x (unit R w 0)
