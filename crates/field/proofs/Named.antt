-- The level that a number names.
use mathlib.Core.Path.{◌≡◌, sym, ap, subst}
use mathlib.Core.Bool.{cond}
use Prim.Native.Nat.{ℕ}
use native.Mathlib.Decide.{ℕ_discrete}
use borrow.Author.Tests.{eq-eqb, ne_eqb}
use Rattle.field.specs.declared.Level.{Level}
use Rattle.field.specs.Level.{first, second, level_at}

pub at_second : {number : ℕ} → number ≡ 2 → level_at number ≡ second
unfolding level_at
at_second {number} e = ap (λ b. cond b second first) (eq-eqb number 2 e)

pub at_first : {number : ℕ} → (number ≡ 2 → ⊥) → level_at number ≡ first
unfolding level_at
at_first {number} d = ap (λ b. cond b second first) (ne_eqb number 2 d)

-- what holds of the level that is named
pub of_second : (P : Level → Type 0) {number : ℕ} → number ≡ 2 → P second → P (level_at number)
of_second P e p = subst P (sym (at_second e)) p

pub of_first : (P : Level → Type 0) {number : ℕ} → (number ≡ 2 → ⊥) → P first → P (level_at number)
of_first P d p = subst P (sym (at_first d)) p

pub every : (P : Level → Type 0) (number : ℕ) → P first → P second → P (level_at number)
every P number p q = pick (ℕ_discrete number 2)
  where
    pick : Dec (number ≡ 2) → P (level_at number)
    pick (yes e) = of_second P e q
    pick (no d) = of_first P d p
