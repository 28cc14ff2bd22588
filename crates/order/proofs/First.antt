-- The first index that passes a test, and offenders.
use mathlib.Core.Path.{◌≡◌, refl, ap, ◌∙◌}
use mathlib.Core.Bool.{Bool, true, false, cond, ◌||◌}
use mathlib.Core.List.{List}
use Prim.Native.Nat.{ℕ, zero, suc, ◌+◌, ◌-◌, ◌^◌, ◌≤◌, ◌<◌}
use native.Mathlib.Decide.{ℕ_discrete}
use native.Mathlib.Omega.{arith}
use borrow.Author.Tests.{lt-ltb, le-ltb}
use lib.Dec.{ltb, eqb}
use Rattle.lists.specs.Count.{count}
use Rattle.key.specs.declared.Code.TheVariants.{Column, Spare, TooLarge}
use Rattle.key.specs.Key.{degree, code_of}
use Rattle.key.proofs.Codes.{code-column}
use Rattle.constraints.specs.Slices.{position_at}
use Rattle.order.specs.Entry.{no_column, among, offends, first_from}

-- one index more, where i does not pass, and where it does
pub first_next : (test : ℕ → Bool) (n i : ℕ) → i < n → test i ≡ false → first_from test i (n - i) ≡ first_from test (i + 1) (n - (i + 1))
unfolding first_from
first_next test n i h e = ap (first_from test i) {x = n - i} {y = suc (n - suc i)} (omega arith) ∙ ap (λ b. cond b i (first_from test (suc i) (n - suc i))) e
    ∙ ap (λ a. first_from test a (n - suc i)) {x = suc i} {y = i + 1} (omega arith) ∙ ap (first_from test (i + 1)) {x = n - suc i} {y = n - (i + 1)} (omega arith)

pub first-here : (test : ℕ → Bool) (n i : ℕ) → i < n → test i ≡ true → first_from test i (n - i) ≡ i
unfolding first_from
first-here test n i h e = ap (first_from test i) {x = n - i} {y = suc (n - suc i)} (omega arith) ∙ ap (λ b. cond b i (first_from test (suc i) (n - suc i))) e

pub first-none : (test : ℕ → Bool) (n i : ℕ) → n ≤ i → first_from test i (n - i) ≡ i
unfolding first_from
first-none test n i h = ap (first_from test i) {x = n - i} {y = 0} (omega arith)

-- what the index that is found is
pub record Found (test : ℕ → Bool) (i k f : ℕ) : Type 0 where
  pub most : f ≤ i + k
  pub before : (h : ℕ) → i ≤ h → h < f → test h ≡ false
  pub passes : f < i + k → test f ≡ true

pub found : (test : ℕ → Bool) (i k : ℕ) → Found test i k (first_from test i k)
unfolding first_from
found test i zero = record { most = omega arith; before = λ h l q. absurd (omega arith); passes = λ q. absurd (omega arith) }
found test i (suc k) = pick (test i) refl (found test (suc i) k)
  where
    pick : (b : Bool) → test i ≡ b → Found test (suc i) k (first_from test (suc i) k) → Found test i (suc k) (cond b i (first_from test (suc i) k))
    pick true e f = record { most = omega arith; before = λ h l q. absurd (omega arith); passes = λ q. e }
    pick false e f = record { most = omega (arith, f.most); before = λ h l q. later h l q (ℕ_discrete h i); passes = λ q. f.passes (omega arith) }
      where
        later : (h : ℕ) → i ≤ h → h < first_from test (suc i) k → Dec (h ≡ i) → test h ≡ false
        later h l q (yes p) = ap test p ∙ e
        later h l q (no p) = f.before h (omega arith) q

-- the first i positions, and one more
pub among_more : (positions : List ℕ) (i j : ℕ) → among positions (i + 1) j ≡ (eqb (position_at positions i) j || among positions i j)
unfolding count
among_more positions i j = ap (λ k. ltb 0 (count k test)) {x = i + 1} {y = suc i} (omega arith) ∙ pick (eqb (position_at positions i) j)
  where
    test : ℕ → Bool
    test h = eqb (position_at positions h) j

    pick : (b : Bool) → ltb 0 (count i test + cond b 1 0) ≡ (b || ltb 0 (count i test))
    pick true = lt-ltb 0 (count i test + 1) (omega arith)
    pick false = ap (ltb 0) {x = count i test + 0} {y = count i test} (omega arith)

-- a position is an offender where it is no column, and of columns those that came before are
pub offends-large : (n : ℕ) (positions : List ℕ) (i : ℕ) → n ≤ position_at positions i → offends n positions i ≡ true
unfolding offends code_of
offends-large n positions i h = ap (λ b. no_column (cond b Column (cond (ltb p (2 ^ degree n)) Spare TooLarge)) || among positions i p) (le-ltb p n h) ∙ pick (ltb p (2 ^ degree n))
  where
    p : ℕ
    p = position_at positions i

    pick : (b : Bool) → (no_column (cond b Spare TooLarge) || among positions i (position_at positions i)) ≡ true
    pick true = refl
    pick false = refl

pub offends-column : (n : ℕ) (positions : List ℕ) (i : ℕ) → position_at positions i < n → offends n positions i ≡ among positions i (position_at positions i)
unfolding offends
offends-column n positions i h = ap (λ c. no_column c || among positions i (position_at positions i)) (code-column n (position_at positions i) h)
