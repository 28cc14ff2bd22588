-- The definitions on small polynomials over two elements.
use mathlib.Core.Path.{◌≡◌, refl}
use mathlib.Core.Bool.{true, false}
use Rattle.field.specs.Sums.{pow}
use Rattle.field.specs.Vector.{zeros, unit, sum, scale, push, top}
use Rattle.field.specs.VectorLaws.{pad}
use Rattle.field.specs.Binary.{binary}
use Rattle.field.specs.Quotient.{rule, times_x, horner, times}
use Rattle.field.specs.declared.Level.{Level}
use Rattle.field.specs.Level.{F}
use Rattle.field.specs.Word.{digits, small}
use Rattle.galois.specs.Polynomial.{product, monic, modulus, Irreducible}
use Rattle.galois.specs.Inverse.{inverse}

-- (X + 1) (X^2 + X + 1) = X^3 + 1
three : product binary 5 2 3 (true, (true, tt)) (true, (true, (true, tt))) ≡ (true, (false, (false, (true, (false, tt)))))
unfolding product zeros sum scale pad
three = refl

-- X^4 + X^2 + 1
four : modulus binary 4 2 ≡ (true, (false, (true, (false, (true, tt)))))
unfolding monic rule unit zeros sum
four = refl

-- it is (X^2 + X + 1)^2
four_reducible : Irreducible binary 4 (modulus binary 4 2) → ⊥
unfolding product monic rule unit zeros sum scale pad
four_reducible I = I (true, (true, (true, (false, tt)))) (true, (true, (true, (false, tt)))) refl

-- z^3 = z + 1, so that the inverse of z is z^2 + 1
abbrev eight : Level
eight = record { width = 3; tap = 1; limit = 7; coordinates = 2; power = 1; most = 2 }

z-inverse : inverse eight (small eight 2) ≡ small eight 5
unfolding F inverse pow small digits times horner times_x rule zeros unit sum scale push top
z-inverse = refl
