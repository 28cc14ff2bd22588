-- The starred examples hold, all together.
use mathlib.Core.Path.{◌≡◌, refl}
use mathlib.Core.List.{map}
use lib.Count.{count_leading_zeros}
use Rattle.lists.specs.Words.{concat}
use Rattle.field.specs.Vector.{zeros as 𝟘s, unit, sum, scale, push, top}
use Rattle.field.specs.Quotient.{rule, times_x, horner, times}
use Rattle.field.specs.Level.{F, K}
use Rattle.field.specs.Word.{digits, number, vector, list, small, word, element, words, small_at}
use Rattle.key.specs.Key.{degree}
use Rattle.constraints.specs.Graded.{product, power, coefficient, raised, linear_times}
use Rattle.field.specs.Sums.{summed}
use Rattle.constraints.specs.System.{masked, polynomial, value}
use Rattle.constraints.specs.Digits.{digit_in, witness, factor, z, column, x', row, join, constraint}
use Rattle.constraints.specs.Slices.{bits, masked_bytes}
use Rattle.examples.specs.Starred.{Example, in_f, in_k, bares, t_of, column_tops, starred}
use Rattle.examples.proofs.Carried.{numbers_at, polynomials-carried, values-carried}
use Rattle.examples.proofs.Decided.{three_16}
use Rattle.examples.proofs.KeyA.{A-done, A-a, A-accepted, A-rejected}

-- the words that are written for bare numbers, computed over F
pub hold : map (λ (e : Example). e.given) starred ≡ map (λ (e : Example). e.stated) starred
unfolding column_tops
hold = simp (polynomials-carried, values-carried, A-done, A-a, A-accepted, A-rejected, three_16) (unfold in_f in_k bares t_of concat degree count_leading_zeros bits masked_bytes small_at numbers_at masked polynomial value constraint join column row x' z factor
    witness digit_in summed product power coefficient raised linear_times small word element words digits number vector list F K times horner times_x rule 𝟘s unit sum scale push top in refl)
