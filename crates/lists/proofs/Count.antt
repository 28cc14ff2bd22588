-- Laws of the number of indices that pass a test.
use mathlib.Core.Path.{◌≡◌, refl, sym, ◌∙◌, ap, ap₂}
use mathlib.Core.Bool.{Bool, true, false, cond}
use Prim.Native.Nat.{ℕ, zero, suc, ◌+◌, ◌≤◌, ◌<◌}
use native.Mathlib.Omega.{arith}
use lib.Dec.{eqb}
use borrow.Author.Tests.{eqb-true, eqb-false}
use Rattle.lists.specs.Count.{count}

one-le : (c : Bool) → cond c 1 0 ≤ 1
one-le false = omega arith
one-le true = omega arith

one-true : (c : Bool) → 1 ≤ cond c 1 0 → c ≡ true
one-true false h = absurd (omega arith)
one-true true h = refl

pub count-le : (n : ℕ) (test : ℕ → Bool) → count n test ≤ n
unfolding count
count-le zero test = omega arith
count-le (suc n) test = omega (arith, count-le n test, one-le (test n))

pub count-all : (n : ℕ) (test : ℕ → Bool) → n ≤ count n test → (i : ℕ) → i < n → test i ≡ true
unfolding count
count-all zero test h i l = absurd (omega arith)
count-all (suc n) test h i l = last (eqb i n) refl (count-all n test (omega (arith, one-le (test n))) i)
  where
    last : (c : Bool) → eqb i n ≡ c → (i < n → test i ≡ true) → test i ≡ true
    last false e below = below (omega (arith, eqb-false i n e))
    last true e below = ap test (eqb-true i n e) ∙ one-true (test n) (omega (arith, count-le n test))

-- no index passes the test, or every one
pub count_none : (n : ℕ) (test : ℕ → Bool) → ((i : ℕ) → i < n → test i ≡ false) → count n test ≡ 0
unfolding count
count_none zero test h = refl
count_none (suc n) test h = ap₂ (λ (c : ℕ) (b : Bool). c + cond b 1 0) (count_none n test (λ i l. h i (omega arith))) (h n (omega arith))

pub count_full : (n : ℕ) (test : ℕ → Bool) → ((i : ℕ) → i < n → test i ≡ true) → count n test ≡ n
unfolding count
count_full zero test h = refl
count_full (suc n) test h = ap₂ (λ (c : ℕ) (b : Bool). c + cond b 1 0) (count_full n test (λ i l. h i (omega arith))) (h n (omega arith)) ∙ omega arith

-- an index that passes is counted after those before it
pub count_at : (n : ℕ) (test : ℕ → Bool) (i : ℕ) → i < n → test i ≡ true → count i test + 1 ≤ count n test
unfolding count
count_at zero test i l e = absurd (omega arith)
count_at (suc n) test i l e = last (eqb i n) refl (count_at n test i)
  where
    last : (c : Bool) → eqb i n ≡ c → (i < n → test i ≡ true → count i test + 1 ≤ count n test) → count i test + 1 ≤ count n test + cond (test n) 1 0
    last false h before = omega (arith, before (omega (arith, eqb-false i n h)) e)
    last true h before = omega (arith, ap (λ k. count k test) (eqb-true i n h), ap {B = ℕ} (λ b. cond b 1 0) (ap test (sym (eqb-true i n h)) ∙ e))
