-- Two families under one numbering.
use mathlib.Core.Path.{◌≡◌, refl, sym, ◌∙◌, ap, subst}
use mathlib.Core.Bool.{Bool, true, false, cond}
use mathlib.Core.Logic.{◌↔◌}
use Prim.Native.Nat.{ℕ, ◌+◌, ◌-◌, ◌<◌}
use native.Mathlib.Omega.{arith}
use lib.Dec.{ltb}
use borrow.Author.Tests.{ltb-true, ltb-false, lt-ltb, le-ltb}
use Rattle.constraints.specs.Digits.{join}

module _ {A : Type 0} (n : ℕ) (f g : ℕ → A) where
  pub join-left : (j : ℕ) → j < n → join n f g j ≡ f j
  unfolding join
  join-left j l = ap (λ b. cond b (f j) (g (j - n))) (lt-ltb j n l)

  pub join_right : (e : ℕ) → join n f g (n + e) ≡ g e
  unfolding join
  join_right e = ap (λ b. cond b (f (n + e)) (g (n + e - n))) (le-ltb (n + e) n (omega arith)) ∙ ap g {x = n + e - n} (omega arith)

  -- what holds of all n + m members
  pub join-all : (P : A → Type 0) (m : ℕ) → ((j : ℕ) → j < n + m → P (join n f g j)) ↔ (((j : ℕ) → j < n → P (f j)) × ((e : ℕ) → e < m → P (g e)))
  join-all P m = (λ h. (λ j l. subst P (join-left j l) (h j (omega arith)), λ e l. subst P (join_right e) (h (n + e) (omega arith))), λ s j l. pick s j l (ltb j n) refl)
    where
      pick : ((j : ℕ) → j < n → P (f j)) × ((e : ℕ) → e < m → P (g e)) → (j : ℕ) → j < n + m → (b : Bool) → ltb j n ≡ b → P (join n f g j)
      pick s j l true e = subst P (sym (join-left j (ltb-true j n e))) (s.0 j (ltb-true j n e))
      pick s j l false e = subst P (sym (join_right (j - n)) ∙ ap (join n f g) {x = n + (j - n)} {y = j} (omega (arith, ltb-false j n e))) (s.1 (j - n) (omega (arith, ltb-false j n e)))
