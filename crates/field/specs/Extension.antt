-- The ring R[X] with X^w = X^t + 1, over any ring, width and tap, and R in it.
use Rattle.std.specs.Prelude.{ℕ}
use Rattle.field.specs.Ring.{Ring, Hom}
use Rattle.field.specs.Vector.{Vector, zeros, unit, sum}
use Rattle.field.specs.VectorLaws.{sum_assoc, sum_comm, sum_zeros, sum_self}
use Rattle.field.specs.Quotient.{times, constant}
use Rattle.field.specs.QuotientLaws.{times_assoc, times_comm, times-unit, times-sum, constant-one, constant-add, constant-mul}

abbrev pub extend : Ring → ℕ → ℕ → Ring
extend R w t = record {
  Carrier = Vector R.Carrier w;
  zero = zeros R w;
  one = unit R w 0;
  add = sum R w;
  mul = times R w t;
  add_assoc = sum_assoc R w;
  add_comm = sum_comm R w;
  add-zero = sum_zeros R w;
  add_self = sum_self R w;
  mul_assoc = times_assoc R w t;
  mul_comm = times_comm R w t;
  mul-one = times-unit R w t;
  mul-add = times-sum R w t;
}

-- an element of R is the one with it at X^0
abbrev pub constants : (R : Ring) (w t : ℕ) → Hom R (extend R w t)
constants R w t = record { map = constant R w t; map-one = constant-one R w t; map-add = constant-add R w t; map-mul = constant-mul R w t }
