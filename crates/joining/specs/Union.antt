-- The groups of two bundles joined, without the code: "every group of either, once, in rising serial."
use Rattle.std.specs.Prelude.{Bool, true, false, not, cond, ◌&&◌, ◌||◌, List, [], ◌∷◌, ℕ, ltb, eqb}
use Rattle.package.specs.Written.{Group}

-- a group into groups of rising serial, where one with its serial stays alone
unfoldable pub insert : Group → List Group → List Group
insert g [] = g ∷ []
insert g (h ∷ groups) = cond (ltb g.serial h.serial) (g ∷ h ∷ groups) (cond (ltb h.serial g.serial) (h ∷ insert g groups) (h ∷ groups))

-- "every group of either"
unfoldable pub union : List Group → List Group → List Group
union [] ys = ys
union (x ∷ xs) ys = insert x (union xs ys)

-- whether two lists are the same
unfoldable pub same : List ℕ → List ℕ → Bool
same [] [] = true
same [] (y ∷ t) = false
same (x ∷ s) [] = false
same (x ∷ s) (y ∷ t) = eqb x y && same s t

-- "groups with one serial differ in field 06 or 07"
abbrev pub differs : Group → Group → Bool
differs g h = eqb g.serial h.serial && not (same g.t h.t && same g.a h.a)

-- a group and one of these, and one of some and one of others
unfoldable pub differs_from : Group → List Group → Bool
differs_from g [] = false
differs_from g (h ∷ groups) = differs g h || differs_from g groups

unfoldable pub differ : List Group → List Group → Bool
differ [] ys = false
differ (x ∷ xs) ys = differs_from x ys || differ xs ys
