-- The first index that passes a test, and the number of those that do.
use mathlib.Core.Path.{◌≡◌, refl, sym, ◌∙◌, ap, ap₂}
use mathlib.Core.Bool.{Bool, true, false, cond, ◌||◌, or-true, or-false, true≢false}
use Prim.Native.Nat.{ℕ, zero, suc, ◌+◌, ◌<◌, ◌≤◌}
use native.Mathlib.Omega.{arith}
use lib.Dec.{eqb, ltb}
use borrow.Author.Tests.{ltb-true, ltb-false, eqb-true, eqb-false, ne_eqb}
use Rattle.lists.specs.Count.{count}
use Rattle.elimination.specs.Elimination.{lowest}

-- what the first index that passes is
pub record First (m : ℕ) (test : ℕ → Bool) (r : ℕ) : Type 0 where
  pub within : r ≤ m
  pub passes : r < m → test r ≡ true
  pub before : (i : ℕ) → i < r → test i ≡ false

pub first-is : (m : ℕ) (test : ℕ → Bool) → First m test (lowest m test)
unfolding lowest
first-is zero test = record { within = omega arith; passes = λ h. absurd (omega arith); before = λ i h. absurd (omega arith) }
first-is (suc m) test = go (test 0) refl (lowest m (λ i. test (suc i))) (first-is m (λ i. test (suc i)))
  where
    go : (b : Bool) → test 0 ≡ b → (r : ℕ) → First m (λ i. test (suc i)) r → First (suc m) test (cond b 0 (suc r))
    go true e r f = record { within = omega arith; passes = λ h. e; before = λ i h. absurd (omega arith) }
    go false e r f = record { within = omega (arith, f.within); passes = λ h. f.passes (omega arith); before = below }
      where
        below : (i : ℕ) → i < suc r → test i ≡ false
        below zero h = e
        below (suc i) h = f.before i (omega arith)

pub first_unique : (m : ℕ) (test : ℕ → Bool) (r : ℕ) → First m test r → r ≡ lowest m test
first_unique m test r f = go (ltb r q) (ltb q r) refl refl
  where
    q : ℕ
    q = lowest m test

    g : First m test q
    g = first-is m test

    go : (a b : Bool) → ltb r q ≡ a → ltb q r ≡ b → r ≡ q
    go true b d e = absurd (true≢false (sym (f.passes (omega (arith, ltb-true r q d, g.within))) ∙ g.before r (ltb-true r q d)))
    go false true d e = absurd (true≢false (sym (g.passes (omega (arith, ltb-true q r e, f.within))) ∙ f.before q (ltb-true q r e)))
    go false false d e = omega (arith, ltb-false r q d, ltb-false q r e)

pub first_cong : (m : ℕ) (t u : ℕ → Bool) (r : ℕ) → ((i : ℕ) → i < m → t i ≡ u i) → First m t r → First m u r
first_cong m t u r h f = record { within = f.within; passes = λ l. sym (h r l) ∙ f.passes l; before = λ i l. sym (h i (omega (arith, f.within))) ∙ f.before i l }

-- fewer than n pass: one does not
pub count-short : (n : ℕ) (test : ℕ → Bool) → count n test < n → (i : ℕ) × (i < n) × (test i ≡ false)
unfolding count
count-short zero test h = absurd (omega arith)
count-short (suc n) test h = go (test n) refl h (count-short n test)
  where
    go : (b : Bool) → test n ≡ b → count n test + cond b 1 0 < suc n → (count n test < n → (i : ℕ) × (i < n) × (test i ≡ false)) → (i : ℕ) × (i < suc n) × (test i ≡ false)
    go true e l f = let r = f (omega arith) in (r.0, omega (arith, r.1), r.2)
    go false e l f = (n, omega arith, e)

count_cong : (m : ℕ) (t u : ℕ → Bool) → ((i : ℕ) → i < m → t i ≡ u i) → count m t ≡ count m u
unfolding count
count_cong zero t u h = refl
count_cong (suc m) t u h = ap₂ (λ (x : ℕ) (b : Bool). x + cond b 1 0) (count_cong m t u (λ i l. h i (omega arith))) (h m (omega arith))

-- one index more passes
pub count_more : (m p : ℕ) (u : ℕ → Bool) → p < m → u p ≡ false → count m (λ i. u i || eqb i p) ≡ count m u + 1
unfolding count
count_more zero p u l e = absurd (omega arith)
count_more (suc m) p u l e = by (eqb m p) refl (count_more m p u)
  where
    plus : (x : ℕ) → x + 1 ≡ x + 0 + 1
    plus x = omega arith

    by : (b : Bool) → eqb m p ≡ b → (p < m → u p ≡ false → count m (λ i. u i || eqb i p) ≡ count m u + 1) → count m (λ i. u i || eqb i p) + cond (u m || eqb m p) 1 0 ≡ count m u + cond (u m) 1 0 + 1
    by true q more = ap₂ (λ (x : ℕ) (b : Bool). x + cond b 1 0) (count_cong m (λ i. u i || eqb i p) u (λ i k. ap (λ (b : Bool). u i || b) (ne_eqb i p (λ z. omega (arith, eqb-true m p q))) ∙ or-false (u i))) (ap (λ (b : Bool). u m || b) q ∙ or-true (u m))
        ∙ plus (count m u) ∙ ap {B = ℕ} (λ (b : Bool). count m u + cond b 1 0 + 1) {x = false} (sym (ap u (eqb-true m p q) ∙ e))
    by false q more = ap₂ (λ (x : ℕ) (b : Bool). x + cond b 1 0) (more (omega (arith, eqb-false m p q)) e) (ap (λ (b : Bool). u m || b) q ∙ or-false (u m)) ∙ swap (count m u) (cond (u m) 1 0)
      where
        swap : (x y : ℕ) → x + 1 + y ≡ x + y + 1
        swap x y = omega arith
