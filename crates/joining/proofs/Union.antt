-- Groups of rising serials joined, by two cursors; and which of them differ.
use mathlib.Core.Path.{◌≡◌, refl, sym, ap, ap₂, ◌∙◌, subst}
use mathlib.Core.Bool.{Bool, true, false, ◌||◌}
use mathlib.Core.List.{List, [], ◌∷◌}
use Prim.Native.Nat.{ℕ, ◌+◌, ◌≤◌, ◌<◌}
use native.Mathlib.Omega.{arith}
use native.Mathlib.Decide.{dec_lt}
use borrow.Author.Tests.{lt-ltb, le-ltb, ne_eqb}
use Rattle.package.specs.Written.{Group}
use Rattle.bundle.specs.Written.{Rising}
use Rattle.joining.specs.Union.{insert, union, differs, differs_from, differ}

-- a lower bound that is lower
pub lower : (k j : ℕ) (gs : List Group) → j ≤ k → Rising k gs → Rising j gs
lower k j [] h r = tt
lower k j (g ∷ gs) h r = (omega (arith, r.0), r.1)

-- a group before, after and beside the first of others
insert-first : (g : Group) (gs : List Group) → Rising (g.serial + 1) gs → insert g gs ≡ g ∷ gs
unfolding insert
insert-first g [] r = refl
insert-first g (h ∷ gs) r = let e : g.serial < h.serial = omega (arith, r.0) in rw (lt-ltb g.serial h.serial e)

insert-past : (g h : Group) (gs : List Group) → h.serial < g.serial → insert g (h ∷ gs) ≡ h ∷ insert g gs
unfolding insert
insert-past g h gs e = rw (le-ltb g.serial h.serial (omega arith), lt-ltb h.serial g.serial e)

insert-same : (g h : Group) (gs : List Group) → g.serial ≡ h.serial → insert g (h ∷ gs) ≡ h ∷ gs
unfolding insert
insert-same g h gs e = rw (le-ltb g.serial h.serial (omega arith), le-ltb h.serial g.serial (omega arith))

-- by the order of two serials
pub by_order : {P : Type 0} (a b : ℕ) → (a < b → P) → (b < a → P) → (a ≡ b → P) → P
by_order {P} a b less more equal = pick (dec_lt a b) (dec_lt b a)
  where
    pick : Dec (a < b) → Dec (b < a) → P
    pick (yes e) f = less e
    pick (no e) (yes f) = more f
    pick (no e) (no f) = equal (omega arith)

insert-rises : (low : ℕ) (g : Group) (gs : List Group) → low ≤ g.serial → Rising low gs → Rising low (insert g gs)
unfolding insert
insert-rises low g [] b r = (b, tt)
insert-rises low g (h ∷ gs) b r =
    let later : h.serial < g.serial → Rising (h.serial + 1) (insert g gs) = λ e. insert-rises (h.serial + 1) g gs (omega (arith, e)) r.1 in
    by_order g.serial h.serial
    (λ e. subst (Rising low) (sym (insert-first g (h ∷ gs) (omega (arith, e), r.1))) (b, (omega (arith, e), r.1)))
    (λ e. subst (Rising low) (sym (insert-past g h gs e)) (r.0, later e))
    (λ e. subst (Rising low) (sym (insert-same g h gs e)) r)

pub union-rises : (low : ℕ) (xs ys : List Group) → Rising low xs → Rising low ys → Rising low (union xs ys)
unfolding union
union-rises low [] ys r s = s
union-rises low (x ∷ xs) ys r s = insert-rises low x (union xs ys) r.0 (union-rises low xs ys (lower (x.serial + 1) low xs (omega (arith, r.0)) r.1) s)

-- the first of the second list, where it is below all of the first
union-past : (y : Group) (xs ys : List Group) → Rising (y.serial + 1) xs → union xs (y ∷ ys) ≡ y ∷ union xs ys
unfolding union
union-past y [] ys r = refl
union-past y (x ∷ xs) ys r = ap (insert x) (union-past y xs ys (lower (x.serial + 1) (y.serial + 1) xs (omega (arith, r.0)) r.1)) ∙ insert-past x y (union xs ys) (omega (arith, r.0))

pub union-nil : (low : ℕ) (xs : List Group) → Rising low xs → union xs [] ≡ xs
unfolding union
union-nil low [] r = refl
union-nil low (x ∷ xs) r = ap (insert x) (union-nil (x.serial + 1) xs r.1) ∙ insert-first x xs r.1

-- the three steps of two cursors
module _ (x y : Group) (xs ys : List Group) (r : Rising (x.serial + 1) xs) (s : Rising (y.serial + 1) ys) where
  pub step_first : x.serial < y.serial → union (x ∷ xs) (y ∷ ys) ≡ x ∷ union xs (y ∷ ys)
  unfolding union
  step_first e = insert-first x (union xs (y ∷ ys)) (union-rises (x.serial + 1) xs (y ∷ ys) r (omega (arith, e), s))

  pub step_second : y.serial < x.serial → union (x ∷ xs) (y ∷ ys) ≡ y ∷ union (x ∷ xs) ys
  step_second e = union-past y (x ∷ xs) ys (omega (arith, e), r)

  pub step_both : x.serial ≡ y.serial → union (x ∷ xs) (y ∷ ys) ≡ y ∷ union xs ys
  unfolding union
  step_both e = ap (insert x) (union-past y xs ys (subst (λ k. Rising (k + 1) xs) e r)) ∙ insert-same x y (union xs ys) e

-- a serial of its own
differs-not : (g h : Group) → (g.serial ≡ h.serial → ⊥) → differs g h ≡ false
differs-not g h n = rw (ne_eqb g.serial h.serial n)

-- a group below all others differs from none of them
from_above : (g : Group) (gs : List Group) → Rising (g.serial + 1) gs → differs_from g gs ≡ false
unfolding differs_from
from_above g [] r = refl
from_above g (h ∷ gs) r = ap₂ ◌||◌ (differs-not g h (λ e. omega (arith, e, r.0))) (from_above g gs (lower (h.serial + 1) (g.serial + 1) gs (omega (arith, r.0)) r.1))

past-below : (y : Group) (xs ys : List Group) → Rising (y.serial + 1) xs → differ xs (y ∷ ys) ≡ differ xs ys
unfolding differ differs_from
past-below y [] ys r = refl
past-below y (x ∷ xs) ys r =
    ap₂ (λ b c. (b || differs_from x ys) || c) (differs-not x y (λ e. omega (arith, e, r.0))) (past-below y xs ys (lower (x.serial + 1) (y.serial + 1) xs (omega (arith, r.0)) r.1))

pub differ-nil : (xs : List Group) → differ xs [] ≡ false
unfolding differ differs_from
differ-nil [] = refl
differ-nil (x ∷ xs) = differ-nil xs

module _ (x y : Group) (xs ys : List Group) (r : Rising (x.serial + 1) xs) (s : Rising (y.serial + 1) ys) where
  pub differ-first : x.serial < y.serial → differ (x ∷ xs) (y ∷ ys) ≡ differ xs (y ∷ ys)
  unfolding differ
  differ-first e = ap (λ b. b || differ xs (y ∷ ys)) (from_above x (y ∷ ys) (omega (arith, e), s))

  pub differ-second : y.serial < x.serial → differ (x ∷ xs) (y ∷ ys) ≡ differ (x ∷ xs) ys
  differ-second e = past-below y (x ∷ xs) ys (omega (arith, e), r)

  pub differ_both : x.serial ≡ y.serial → differ (x ∷ xs) (y ∷ ys) ≡ (differs x y || differ xs ys)
  unfolding differ differs_from
  differ_both e =
      ap₂ (λ b c. (differs x y || b) || c) (from_above x ys (subst (λ k. Rising (k + 1) ys) (sym e) s)) (past-below y xs ys (subst (λ k. Rising (k + 1) xs) e r))
      ∙ ap (λ b. b || differ xs ys) (or-false (differs x y))
    where
      or-false : (b : Bool) → (b || false) ≡ b
      or-false true = refl
      or-false false = refl
