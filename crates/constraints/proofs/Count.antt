-- n positions that are the numbers 0 to n - 1, each once.
use mathlib.Core.Path.{◌≡◌, refl, ap}
use mathlib.Core.Bool.{Bool, true, false, not, cond, false≢true}
use Prim.Native.Nat.{ℕ, zero, suc, ◌+◌, ◌-◌, ◌≤◌, ◌<◌}
use native.Mathlib.Omega.{arith}
use lib.Dec.{eqb, ltb}
use borrow.Author.Tests.{ltb-true, ltb-false, eqb-true, eqb-false, lt-ltb, le-ltb}
use Rattle.lists.specs.Count.{count}
use Rattle.lists.proofs.Count.{count-le, count-all}
use Rattle.constraints.specs.Order.{Order}

unfoldable pub parity : ℕ → Bool
parity zero = false
parity (suc n) = not (parity n)

-- the tests of a against m + 1, below m and equal to m, by cases
pub below_cases : (a m : ℕ) (P : Bool → Bool → Bool → Type 0) → (a < m → P true true false) → (a ≡ m → P true false true) → (m < a → P false false false) → P (ltb a (suc m)) (ltb a m) (eqb a m)
below_cases a m P less equal more = cases (ltb a m) (eqb a m) refl refl
  where
    cases : (l e : Bool) → ltb a m ≡ l → eqb a m ≡ e → P (ltb a (suc m)) l e
    cases true true p q = absurd (omega (arith, ltb-true a m p, eqb-true a m q))
    cases true false p q = rw (lt-ltb a (suc m) (omega (arith, ltb-true a m p))) (less (ltb-true a m p))
    cases false true p q = rw (lt-ltb a (suc m) (omega (arith, eqb-true a m q))) (equal (eqb-true a m q))
    cases false false p q = rw (le-ltb a (suc m) (omega (arith, ltb-false a m p, eqb-false a m q))) (more (omega (arith, ltb-false a m p, eqb-false a m q)))

module _ (p : ℕ → ℕ) where
  -- how many of the first n positions are below m, and how many are j
  abbrev below : ℕ → ℕ → ℕ
  below n m = count n (λ i. ltb (p i) m)

  abbrev equal : ℕ → ℕ → ℕ
  equal n j = count n (λ i. eqb (p i) j)

  pub below_suc : (n m : ℕ) → below n (suc m) ≡ below n m + equal n m
  unfolding count
  below_suc zero m = refl
  below_suc (suc n) m = omega (arith, below_suc n m, below_cases (p n) m (λ s l e. cond s 1 0 ≡ cond l 1 0 + cond e 1 0) (λ h. refl) (λ h. refl) (λ h. refl))

  -- where each of the k numbers from j on is a position, at least k positions lie there
  below-add : (n k j : ℕ) → ((i : ℕ) → i < j + k → 1 ≤ equal n i) → below n j + k ≤ below n (j + k)
  below-add n zero j h = omega (arith, ap (below n) step)
    where
      step : j + 0 ≡ j
      step = omega arith
  below-add n (suc k) j h = omega (arith, below-add n k j (λ i l. h i (omega arith)), below_suc n (j + k), h (j + k) (omega arith), ap (below n) step)
    where
      step : j + suc k ≡ suc (j + k)
      step = omega arith

  -- each number below n is a position, and there are n positions: each is one once
  pub order : (n : ℕ) → ((j : ℕ) → j < n → 1 ≤ equal n j) → Order n p
  order n h j l = omega (arith, first, second, below_suc n j, count-le n (λ i. ltb (p i) n), h j l)
    where
      start : 0 + j ≡ j
      start = omega arith

      first : j ≤ below n j
      first = omega (arith, below-add n j 0 (λ i k. h i (omega arith)), ap (below n) start)

      rest : suc j + (n - suc j) ≡ n
      rest = omega arith

      second : below n (suc j) + (n - suc j) ≤ below n n
      second = omega (arith, below-add n (n - suc j) (suc j) (λ i k. h i (omega arith)), ap (below n) rest)

  pub order_below : (n : ℕ) → Order n p → (i : ℕ) → i < n → p i < n
  order_below n h i l = ltb-true (p i) n (count-all n (λ i. ltb (p i) n) all i l)
    where
      start : 0 + n ≡ n
      start = omega arith

      all : n ≤ below n n
      all = omega (arith, below-add n n 0 (λ i k. omega (arith, h i (omega arith))), ap (below n) start)

pub parity_pos : (n : ℕ) → parity n ≡ true → 1 ≤ n
unfolding parity
parity_pos zero h = absurd (false≢true h)
parity_pos (suc n) h = omega arith
