-- n positions are an order exactly when each is a column that did not come before.
use mathlib.Core.Path.{◌≡◌, refl, sym, ap, ◌∙◌}
use mathlib.Core.Bool.{Bool, true, false, cond}
use mathlib.Core.Logic.{◌↔◌}
use Prim.Native.Nat.{ℕ, zero, suc, ◌+◌, ◌-◌, ◌≤◌, ◌<◌}
use native.Mathlib.Omega.{arith}
use borrow.Author.Tests.{lt-ltb, le-ltb, eq-eqb, ne_eqb, eqb-true}
use lib.Dec.{ltb, eqb}
use Rattle.lists.specs.Count.{count}
use Rattle.lists.proofs.Count.{count_none, count_full, count_at}
use Rattle.constraints.specs.Order.{Order}
use Rattle.constraints.proofs.Count.{below_suc, order, order_below}

-- no two of the n positions are equal
abbrev pub Distinct : ℕ → (ℕ → ℕ) → Type 0
Distinct n p = (i k : ℕ) → i < k → k < n → p i ≡ p k → ⊥

module _ (p : ℕ → ℕ) where
  equal-le : (n j : ℕ) → Distinct n p → count n (λ i. eqb (p i) j) ≤ 1
  unfolding count
  equal-le zero j h = omega arith
  equal-le (suc n) j h = last (eqb (p n) j) refl (equal-le n j (λ i k l q. h i k l (omega arith)))
    where
      last : (c : Bool) → eqb (p n) j ≡ c → count n (λ i. eqb (p i) j) ≤ 1 → count n (λ i. eqb (p i) j) + cond c 1 0 ≤ 1
      last false e l = omega arith
      last true e l = omega (arith, count_none n (λ i. eqb (p i) j) (λ i q. ne_eqb (p i) j (λ g. h i n q (omega arith) (g ∙ sym (eqb-true (p n) j e)))))

  -- of the k numbers from j on at most k are positions
  below-le : (n k j : ℕ) → Distinct n p → count n (λ i. ltb (p i) (j + k)) ≤ count n (λ i. ltb (p i) j) + k
  below-le n zero j h = omega (arith, ap (λ m. count n (λ i. ltb (p i) m)) step)
    where
      step : j + 0 ≡ j
      step = omega arith
  below-le n (suc k) j h = omega (arith, below-le n k j h, below_suc p n (j + k), equal-le n (j + k) h, ap (λ m. count n (λ i. ltb (p i) m)) step)
    where
      step : j + suc k ≡ suc (j + k)
      step = omega arith

  apart : (n : ℕ) → Order n p → Distinct n p
  apart n h i k l q e = omega (arith, h (p k) (order_below p n h k q), count_at n test k q (eq-eqb (p k) (p k) refl), count_at k test i l (eq-eqb (p i) (p k) e))
    where
      test : ℕ → Bool
      test i = eqb (p i) (p k)

  hit : (n : ℕ) → ((i : ℕ) → i < n → p i < n) → Distinct n p → (j : ℕ) → j < n → 1 ≤ count n (λ i. eqb (p i) j)
  hit n below h j l = omega (arith, below-le n j 0 h, below-le n (n - suc j) (suc j) h, below_suc p n j, full, none, ap (λ m. count n (λ i. ltb (p i) m)) start, ap (λ m. count n (λ i. ltb (p i) m)) rest)
    where
      start : 0 + j ≡ j
      start = omega arith

      rest : suc j + (n - suc j) ≡ n
      rest = omega arith

      none : count n (λ i. ltb (p i) 0) ≡ 0
      none = count_none n (λ i. ltb (p i) 0) (λ i q. le-ltb (p i) 0 (omega arith))

      full : count n (λ i. ltb (p i) n) ≡ n
      full = count_full n (λ i. ltb (p i) n) (λ i q. lt-ltb (p i) n (below i q))

  pub order-distinct : (n : ℕ) → Order n p ↔ (((i : ℕ) → i < n → p i < n) × Distinct n p)
  order-distinct n = (λ h. (order_below p n h, apart n h), λ s. order p n (hit n s.0 s.1))
