-- Vectors of n elements of a ring: sums, multiples, and the move up by one place.
use Rattle.std.specs.Prelude.{ℕ, zero, suc}
use Rattle.field.specs.Ring.{Ring}

abbrev pub Vector : Type 0 → ℕ → Type 0
Vector A zero = Unit {0}
Vector A (suc n) = A × Vector A n

module _ (R : Ring) where
  open R use {Carrier, zero as 𝟘, one as 𝟙, add as ◌⊕◌, mul as ◌⊗◌}

  infixl 60 ◌⊕◌
  infixl 70 ◌⊗◌
  unfoldable pub zeros : (n : ℕ) → Vector Carrier n
  zeros zero = tt
  zeros (suc n) = (𝟘, zeros n)

  -- one at place i, zero at every other
  unfoldable pub unit : (n i : ℕ) → Vector Carrier n
  unit zero i = tt
  unit (suc n) zero = (𝟙, zeros n)
  unit (suc n) (suc i) = (𝟘, unit n i)

  unfoldable pub sum : (n : ℕ) → Vector Carrier n → Vector Carrier n → Vector Carrier n
  sum zero u v = tt
  sum (suc n) u v = (u.0 ⊕ v.0, sum n u.1 v.1)

  -- c times each place
  unfoldable pub scale : (n : ℕ) → Carrier → Vector Carrier n → Vector Carrier n
  scale zero c v = tt
  scale (suc n) c v = (c ⊗ v.0, scale n c v.1)

  -- each place moved up by one, with c at place 0
  unfoldable pub push : (n : ℕ) → Carrier → Vector Carrier n → Vector Carrier n
  push zero c v = tt
  push (suc n) c v = (c, push n v.0 v.1)

  -- what that moves out at the end: the last place
  unfoldable pub top : (n : ℕ) → Carrier → Vector Carrier n → Carrier
  top zero c v = c
  top (suc n) c v = top n v.0 v.1
