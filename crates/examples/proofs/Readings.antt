-- d, digits and spare codes are as the specification says.
use mathlib.Core.Path.{◌≡◌, refl, ap}
use Prim.Native.Nat.{ℕ, suc, ◌-◌, ◌*◌, ◌^◌, ◌≤◌, ◌<◌}
use native.Mathlib.Decide.{dec_lt}
use native.Mathlib.Nat.{pow-suc}
use native.Mathlib.Omega.{arith}
use lib.Count.{count_leading_zeros}
use Rattle.key.specs.Key.{degree, code_of, codes_of}
use Rattle.key.proofs.Sized.{degree-fits, degree-lt, degree-some}
use Rattle.constraints.specs.Digits.{digit_in}
use Rattle.examples.specs.Readings.{Readings}

half : (d : ℕ) → 1 ≤ d → 2 ^ d ≡ 2 * 2 ^ (d - 1)
half d p =
    let one : suc (d - 1) ≡ d = omega arith in
    omega (arith, pow-suc 2 (d - 1), ap (λ k. 2 ^ k) one)

above : (n : ℕ) → 2 ≤ n → n < 2 ^ 64 → 2 ^ (degree n - 1) < n
above n p h = pick (dec_lt (2 ^ (degree n - 1)) n)
  where
    pick : Dec (2 ^ (degree n - 1) < n) → 2 ^ (degree n - 1) < n
    pick (yes l) = l
    pick (no g) = absurd (omega (arith, degree-lt n (degree n) (omega arith) h (omega (arith, half (degree n) (degree-some n p h)))))

pub readings : Readings
readings = record {
  two = unfold degree count_leading_zeros in refl;
  three = unfold degree count_leading_zeros in refl;
  most = unfold degree count_leading_zeros in refl;
  fewest = above;
  enough = degree-fits;
  written = unfold digit_in in refl;
  columns = unfold codes_of code_of degree count_leading_zeros in refl;
  spare = unfold code_of degree count_leading_zeros in refl;
  too_large = unfold code_of degree count_leading_zeros in refl;
  highest = unfold codes_of code_of degree count_leading_zeros in refl;
  none-spare = unfold code_of degree count_leading_zeros in refl;
}
