-- The inverse in F, as a power.
use Rattle.std.specs.Prelude.{◌≡◌, ◌-◌, ◌^◌}
use Rattle.field.specs.Sums.{pow}
use Rattle.field.specs.declared.Level.{Level}
use Rattle.field.specs.Level.{F}

-- the inverse in F: a to the power 2^width - 2
unfoldable pub inverse : (l : Level) → (F l).Carrier → (F l).Carrier
inverse l a = pow (F l) a (2 ^ l.width - 2)

-- what it owes: for every element that is not zero
abbrev pub Inverts : Level → Type 0
Inverts l = (a : (F l).Carrier) → (a ≡ (F l).zero → ⊥) → (F l).mul a (inverse l a) ≡ (F l).one
