-- The content of field 05: the bytes that a serial is written in, and the serial that they make.
use mathlib.Core.Path.{◌≡◌, refl, sym, ap, ap₂, ◌∙◌, subst}
use mathlib.Core.Bool.{Bool, true, false, cond, ◌&&◌}
use mathlib.Core.List.{List, [], ◌∷◌, ◌++◌}
use Prim.Native.Nat.{ℕ, ◌/◌, ◌%◌, ◌≤◌, ◌<◌}
use native.Mathlib.Decide.{dec_lt}
use native.Mathlib.Omega.{arith}
use borrow.Author.Tests.{lt-ltb, le-ltb, ltb-false}
use lib.Dec.{eqb, ltb}
use lib.ListN.{length}
use Rattle.copying.specs.Words.{Bytes, two_bytes, four_bytes, from_bytes_after, from_bytes}
use Rattle.copying.proofs.Bytes.{two_bytes_lem, bytes-append}
use Rattle.refusal.proofs.Answers.{None}
use Rattle.field.specs.declared.Level.{Level}
use Rattle.layout.specs.declared.Kind.TheVariants.{Serial}
use Rattle.layout.specs.Layout.{serial_length}
use Rattle.layout.specs.Tests.{value_tests}
use Rattle.package.specs.Written.{serial_bytes}

-- either form
pub in_two : (x : ℕ) → x < 65536 → serial_bytes x ≡ two_bytes x
in_two x h = ap (λ b. cond b (two_bytes x) (four_bytes x)) (lt-ltb x 65536 h)

pub in_four : (x : ℕ) → 65536 ≤ x → serial_bytes x ≡ four_bytes x
in_four x h = ap (λ b. cond b (two_bytes x) (four_bytes x)) (le-ltb x 65536 h)

-- what holds of the two bytes of a serial that fits them, and of the four of any other, holds of its bytes
by_form : (P : List ℕ → Type 0) (x : ℕ) → (x < 65536 → P (two_bytes x)) → (65536 ≤ x → P (four_bytes x)) → P (serial_bytes x)
by_form P x two four = pick (dec_lt x 65536)
  where
    pick : Dec (x < 65536) → P (serial_bytes x)
    pick (yes h) = subst P (sym (in_two x h)) (two h)
    pick (no h) = let big : 65536 ≤ x = omega arith in subst P (sym (in_four x big)) (four big)

from_four : (x : ℕ) → from_bytes (four_bytes x) ≡ x
unfolding from_bytes_after
from_four x = omega arith

-- the bytes make the serial
pub from_serial : (x : ℕ) → from_bytes (serial_bytes x) ≡ x
unfolding from_bytes_after
from_serial x = by_form (λ c. from_bytes c ≡ x) x (λ h. omega arith) (λ h. from_four x)

pub serial-short : (x : ℕ) → length (serial_bytes x) < 65536
serial-short x = by_form (λ c. length c < 65536) x (λ h. omega arith) (λ h. omega arith)

pub serial-bytes : (x : ℕ) → x < 4294967296 → Bytes (serial_bytes x)
serial-bytes x h = by_form Bytes x (two_bytes_lem x) (λ big. bytes-append (two_bytes (x / 65536)) (two_bytes (x % 65536)) (two_bytes_lem (x / 65536) (omega arith)) (two_bytes_lem (x % 65536) (omega arith)))

-- their number, where it is stated, is judged against itself
pub serial-judged : (x : ℕ) → serial_length (length (serial_bytes x)) ≡ length (serial_bytes x)
serial-judged x = by_form (λ c. serial_length (length c) ≡ length c) x (λ h. refl) (λ h. refl)

-- 19 does not apply to them
pub serial-passes : (l : Level) (x : ℕ) → None (value_tests l Serial (serial_bytes x))
serial-passes l x = by_form (λ c. None (value_tests l Serial c)) x (λ h. (refl, tt)) (λ h. (le-ltb (from_bytes (four_bytes x)) 65536 (omega (arith, from_four x)), tt))

-- bytes of a length that is judged against, to which 19 does not apply, are those of the serial that they make
of_two : (c : List ℕ) → Bytes c → length c ≡ 2 → serial_bytes (from_bytes c) ≡ c
unfolding from_bytes_after
of_two [] b h = absurd (omega arith)
of_two (x ∷ []) b h = absurd (omega arith)
of_two (x ∷ y ∷ []) b h =
    let bx : x < 256 = b 0 in
    let by : y < 256 = b 1 in
    let n = from_bytes (x ∷ y ∷ []) in
    let high : n / 256 ≡ x = omega arith in
    let low : n % 256 ≡ y = omega arith in
    in_two n (omega arith) ∙ ap₂ (λ (p q : ℕ). p ∷ q ∷ []) high low
of_two (x ∷ y ∷ z ∷ c) b h = absurd (omega arith)

of_four : (c : List ℕ) → Bytes c → length c ≡ 4 → 65536 ≤ from_bytes c → serial_bytes (from_bytes c) ≡ c
unfolding from_bytes_after
of_four [] b h big = absurd (omega arith)
of_four (x ∷ []) b h big = absurd (omega arith)
of_four (x ∷ y ∷ []) b h big = absurd (omega arith)
of_four (x ∷ y ∷ z ∷ []) b h big = absurd (omega arith)
of_four (x ∷ y ∷ z ∷ u ∷ []) b h big =
    let bx : x < 256 = b 0 in
    let by : y < 256 = b 1 in
    let bz : z < 256 = b 2 in
    let bu : u < 256 = b 3 in
    let n = from_bytes (x ∷ y ∷ z ∷ u ∷ []) in
    let first : n / 65536 / 256 ≡ x = omega arith in
    let second : n / 65536 % 256 ≡ y = omega arith in
    let third : n % 65536 / 256 ≡ z = omega arith in
    let last : n % 65536 % 256 ≡ u = omega arith in
    in_four n big ∙ ap₂ (λ (p q : List ℕ). p ++ q) (ap₂ (λ (p q : ℕ). p ∷ q ∷ []) first second) (ap₂ (λ (p q : ℕ). p ∷ q ∷ []) third last)
of_four (x ∷ y ∷ z ∷ u ∷ v ∷ c) b h big = absurd (omega arith)

pub serial_of_lem : (l : Level) (stated : ℕ) (c : List ℕ) → Bytes c → length c ≡ serial_length stated → None (value_tests l Serial c) → serial_bytes (from_bytes c) ≡ c
serial_of_lem l stated c b h v = pick (eqb stated 4) h
  where
    pick : (four : Bool) → length c ≡ cond four 4 2 → serial_bytes (from_bytes c) ≡ c
    pick false h = of_two c b h
    pick true h = of_four c b h (ltb-false (from_bytes c) 65536 (subst (λ n. (eqb n 4 && ltb (from_bytes c) 65536) ≡ false) h v.0))
