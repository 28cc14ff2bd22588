-- F and K of every level: one is not zero in either, and F lies in K injectively. The ring laws are part of F and K.
use mathlib.Core.Path.{◌≡◌, sym}
use mathlib.Core.Bool.{false≢true}
use Prim.Native.Nat.{ℕ, ◌+◌, ◌^◌, ◌≤◌, ◌<◌}
use native.Mathlib.Omega.{arith}
use Rattle.field.specs.Binary.{binary}
use Rattle.field.specs.QuotientLaws.{one_not_zero, constant-injective}
use Rattle.field.specs.declared.Level.{Level}
use Rattle.field.specs.Level.{FIRST, level_at, first, second, F, K, embed}
use Rattle.field.proofs.Named.{every}

module _ (l : Level) where
  pub F-distinct : 0 < l.width → (F l).one ≡ (F l).zero → ⊥
  unfolding F
  F-distinct h = one_not_zero binary l.width l.tap h (λ e. false≢true (sym e))

  pub K-distinct : 0 < l.width → 0 < l.coordinates → (K l).one ≡ (K l).zero → ⊥
  unfolding K
  K-distinct h k = one_not_zero (F l) l.coordinates l.power k (F-distinct h)

  pub embed-injective : 0 < l.coordinates → (a b : (F l).Carrier) → (embed l).map a ≡ (embed l).map b → a ≡ b
  unfolding K embed
  embed-injective k = constant-injective (F l) l.coordinates l.power k

-- bounds that hold at every level
pub record Bounded (l : Level) : Type 0 where
  pub width : 0 < l.width
  pub digits : 1 < l.width
  pub short : l.width < 16
  pub tap : l.tap < l.width
  pub inner : l.power < l.coordinates
  pub coordinates : 0 < l.coordinates
  pub most : l.most ≤ 128
  pub narrow : l.coordinates ≤ 23
  pub limit : l.limit < 2 ^ l.width
  pub whole : 2 ^ l.width ≤ l.limit + 1

pub bounded : (number : ℕ) → Bounded (level_at number)
bounded number = every Bounded number one two
  where
    one : Bounded first
    one = record { width = omega arith; digits = omega arith; short = omega arith; tap = omega arith; inner = omega arith; coordinates = omega arith; most = omega arith; narrow = omega arith; limit = omega arith; whole = omega arith }

    two : Bounded second
    two = record { width = omega arith; digits = omega arith; short = omega arith; tap = omega arith; inner = omega arith; coordinates = omega arith; most = omega arith; narrow = omega arith; limit = omega arith; whole = omega arith }

-- no level has fewer coordinates than the first
pub twelve : (number : ℕ) → 12 ≤ (level_at number).coordinates
twelve number = every (λ (l : Level). 12 ≤ l.coordinates) number (omega arith) (omega arith)

-- bounds of the first level alone
pub first-most : (level_at FIRST).most ≤ 64
unfolding level_at
first-most = omega arith

pub first-narrow : (level_at FIRST).coordinates ≤ 12
unfolding level_at
first-narrow = omega arith
