-- The fields F and K of a level.
use Rattle.std.specs.Prelude.{cond, ℕ, eqb}
use Rattle.field.specs.Ring.{Ring, Hom}
use Rattle.field.specs.Binary.{binary}
use Rattle.field.specs.Quotient.{generator}
use Rattle.field.specs.Extension.{extend, constants}
use Rattle.field.specs.declared.Level.{Level}

-- "The small field F has 2,048 elements, written as numbers 0 to 2047 .. z^11 = z^2 + 1";
-- "The large field K has elements of 12 coordinates from F .. Y^12 = Y^3 + 1"; "n is 2 to 64"
abbrev pub first : Level
first = record { width = 11; tap = 2; limit = 2047; coordinates = 12; power = 3; most = 64 }

-- "There F has 4,096 elements with z^12 = z^3 + 1, K has 23 coordinates with Y^23 = Y^5 + 1, n goes to 128 and elements to 4095."
abbrev pub second : Level
second = record { width = 12; tap = 3; limit = 4095; coordinates = 23; power = 5; most = 128 }

-- the numbers of the levels
abbrev pub FIRST : ℕ
FIRST = 1

abbrev pub SECOND : ℕ
SECOND = 2

-- the level with number l: the second for SECOND, and the first for every other number
unfoldable pub level_at : ℕ → Level
level_at l = cond (eqb l SECOND) second first

-- F: polynomials over two elements, with z^width = z^tap + 1
unfoldable pub F : Level → Ring
F l = extend binary l.width l.tap

-- K: polynomials in Y over F, with Y^coordinates = Y^power + 1
unfoldable pub K : Level → Ring
K l = extend (F l) l.coordinates l.power

-- "An element of F is also the element of K with it in coordinate 0."
unfoldable pub embed : (l : Level) → Hom (F l) (K l)
unfolding K
embed l = constants (F l) l.coordinates l.power

unfoldable pub Y : (l : Level) → (K l).Carrier
unfolding K
Y l = generator (F l) l.coordinates l.power
