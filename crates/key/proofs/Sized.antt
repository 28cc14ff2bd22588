-- What holds of a key whose sizes are not refused, and of d.
use Rattle.refusal.specs.declared.Refusal.TheVariants.{SizeN, SizeM}
use mathlib.Core.Path.{◌≡◌, ap}
use Prim.Native.Nat.{ℕ, ◌+◌, ◌-◌, ◌*◌, ◌^◌, ◌≤◌, ◌<◌}
use native.Mathlib.Decide.{dec_lt}
use native.Mathlib.Nat.{mul-le-mul}
use native.Mathlib.Omega.{arith}
use mathlib.Core.List.{[], ◌∷◌}
use borrow.Author.Tests.{le-ltb, lt-leb, ne_eqb, ltb-false, leb-false, eqb-false}
use lib.Count.{count_leading_zeros, leading_length}
use lib.Pow.{pow_mono}
use Rattle.refusal.specs.Answer.{first_of, Done}
use Rattle.refusal.proofs.Answers.{None}
use Rattle.field.specs.declared.Level.{Level}
use Rattle.field.specs.Level.{FIRST, level_at}
use Rattle.field.proofs.Fields.{first-most}
use Rattle.key.specs.declared.Key.{Key}
use Rattle.key.specs.Key.{degree, sizes, Sized}

pub sized : (l : Level) (key : Key) → None (sizes l key) → Sized l key
sized l key e = record {
  two = ltb-false key.n 2 e.0;
  most = ltb-false l.most key.n e.1.0;
  some = omega (arith, eqb-false key.m 0 e.1.1.0);
  fewer = leb-false key.n key.m e.1.1.1.0;
}

pub sizes-done : (l : Level) (key : Key) → Sized l key → first_of (sizes l key) ≡ Done
sizes-done l key s = λ t. first_of ((le-ltb key.n 2 s.two t, SizeN) ∷ (le-ltb l.most key.n s.most t, SizeN) ∷ (ne_eqb key.m 0 (omega (arith, s.some)) t, SizeM) ∷ (lt-leb key.n key.m s.fewer t, SizeM) ∷ [])

-- H fits the memory in which its rows are tested
pub first-matrix : (key : Key) → Sized (level_at FIRST) key → key.m * key.n ≤ 4032
first-matrix key s = mul-le-mul {n₂ = 63} {m₂ = 64} (omega (arith, s.fewer, s.most, first-most)) (omega (arith, s.most, first-most))

-- n - 1 has d digits
digits : (n : ℕ) → n < 2 ^ 64 → (n - 1 < 2 ^ degree n) × (2 ^ degree n ≤ 2 * (n - 1) + 1)
unfolding degree
digits n h = (omega (arith, found.2, ap (λ s. 2 ^ s) power), omega (arith, found.3, ap (λ s. 2 ^ s) power))
  where
    found : (m : ℕ) × (count_leading_zeros 64 (n - 1) + m ≡ 64) × (n - 1 < 2 ^ m) × (2 ^ m ≤ 2 * (n - 1) + 1)
    found = leading_length 64 (n - 1) (omega arith)

    power : 64 - count_leading_zeros 64 (n - 1) ≡ found.0
    power = omega (arith, found.1)

pub degree-fits : (n : ℕ) → n < 2 ^ 64 → n ≤ 2 ^ degree n
degree-fits n h = omega (arith, digits n h)

-- d is below k where n is at most 2^(k - 1)
pub degree-lt : (n k : ℕ) → 0 < n → n < 2 ^ 64 → 2 * n ≤ 2 ^ k → degree n < k
degree-lt n k p h b = pick (dec_lt (degree n) k)
  where
    pick : Dec (degree n < k) → degree n < k
    pick (yes l) = l
    pick (no g) = absurd (omega (arith, digits n h, pow_mono {i = k} {j = degree n} (omega arith)))

-- a key has at least one digit
pub degree-some : (n : ℕ) → 2 ≤ n → n < 2 ^ 64 → 1 ≤ degree n
degree-some n p h = pick (dec_lt 0 (degree n))
  where
    pick : Dec (0 < degree n) → 1 ≤ degree n
    pick (yes l) = l
    pick (no g) = let none : degree n ≡ 0 = omega arith in absurd (omega (arith, degree-fits n h, ap (λ k. 2 ^ k) none))
