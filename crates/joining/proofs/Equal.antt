-- Lists that are the same, or not.
use mathlib.Core.Path.{◌≡◌, refl, ap, ap₂, ◌∙◌}
use mathlib.Core.Bool.{Bool, true, false, not, ◌&&◌, and-eq-true_iff, false≢true}
use mathlib.Core.List.{List, [], ◌∷◌}
use Prim.Native.Nat.{ℕ, zero, suc, ◌<◌}
use native.Mathlib.Omega.{arith}
use borrow.Author.Tests.{eq-eqb, eqb-true, not-false}
use lib.Dec.{eqb}
use lib.ListN.{length, get_or, take}
use Rattle.package.specs.Written.{Group}
use Rattle.joining.specs.Union.{same, differs}

pub same_refl : (s : List ℕ) → same s s ≡ true
unfolding same
same_refl [] = refl
same_refl (x ∷ s) = ap₂ ◌&&◌ (eq-eqb x x refl) (same_refl s)

pub same_true : (s t : List ℕ) → same s t ≡ true → s ≡ t
unfolding same
same_true [] [] e = refl
same_true [] (y ∷ t) e = absurd (false≢true e)
same_true (x ∷ s) [] e = absurd (false≢true e)
same_true (x ∷ s) (y ∷ t) e = let b = (and-eq-true_iff (eqb x y) (same s t)).0 e in ap₂ ◌∷◌ (eqb-true x y b.0) (same_true s t b.1)

pub same-short : (s t : List ℕ) → (length s ≡ length t → ⊥) → same s t ≡ false
same-short s t n = pick (same s t) refl
  where
    pick : (b : Bool) → same s t ≡ b → b ≡ false
    pick true e = absurd (n (ap length (same_true s t e)))
    pick false e = refl

-- one more of each
pub same_more : (i : ℕ) (s t : List ℕ) → i < length s → i < length t → same (take (suc i) s) (take (suc i) t) ≡ (same (take i s) (take i t) && eqb (get_or s i 0) (get_or t i 0))
unfolding same
same_more i [] t h k = absurd (omega arith)
same_more i (x ∷ s) [] h k = absurd (omega arith)
same_more zero (x ∷ s) (y ∷ t) h k = and-true (eqb x y)
  where
    and-true : (b : Bool) → (b && true) ≡ b
    and-true true = refl
    and-true false = refl
same_more (suc i) (x ∷ s) (y ∷ t) h k = ap (λ b. eqb x y && b) (same_more i s t (omega arith) (omega arith)) ∙ and_assoc (eqb x y)
  where
    and_assoc : (b : Bool) → (b && (same (take i s) (take i t) && eqb (get_or s i 0) (get_or t i 0))) ≡ ((b && same (take i s) (take i t)) && eqb (get_or s i 0) (get_or t i 0))
    and_assoc true = refl
    and_assoc false = refl

-- groups that are the same do not differ, and those with one serial that do not differ are the same
pub differs-same : (g : Group) → differs g g ≡ false
differs-same g = rw (eq-eqb g.serial g.serial refl, same_refl g.t, same_refl g.a)

same-fields : (s t u v : List ℕ) → not (same s t && same u v) ≡ false → (s ≡ t) × (u ≡ v)
same-fields s t u v d = let b = (and-eq-true_iff (same s t) (same u v)).0 (not-false (same s t && same u v) d) in (same_true s t b.0, same_true u v b.1)

of_true : (b c : Bool) → b ≡ true → (b && c) ≡ false → c ≡ false
of_true true c e d = d
of_true false c e d = absurd (false≢true e)

pub same-group : (g h : Group) → g.serial ≡ h.serial → differs g h ≡ false → g ≡ h
same-group g h e d =
    let f = same-fields g.t h.t g.a h.a (of_true (eqb g.serial h.serial) _ (eq-eqb g.serial h.serial e) d) in
    λ i. record { serial = e i; t = f.0 i; a = f.1 i }
