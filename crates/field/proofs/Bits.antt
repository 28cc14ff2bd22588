-- Sums and products of the two elements, in any ring.
use mathlib.Core.Path.{◌≡◌, sym}
use mathlib.Core.Bool.{Bool, true, false, ◌&&◌}
use Rattle.field.specs.Ring.{Ring}
use Rattle.field.specs.RingLaws.{zero-add, zero-mul, one-mul}
use Rattle.field.specs.Binary.{xor, bit}

module _ (R : Ring) where
  pub bit-add : (a b : Bool) → bit R (xor a b) ≡ R.add (bit R a) (bit R b)
  bit-add false b = sym (zero-add R (bit R b))
  bit-add true false = sym (R.add-zero R.one)
  bit-add true true = sym (R.add_self R.one)

  pub bit-mul : (a b : Bool) → bit R (a && b) ≡ R.mul (bit R a) (bit R b)
  bit-mul false b = sym (zero-mul R (bit R b))
  bit-mul true b = sym (one-mul R (bit R b))
