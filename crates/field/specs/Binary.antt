-- The ring of two elements: sums are exclusive or, products are conjunction.
use Rattle.std.specs.Prelude.{◌≡◌, refl, Bool, true, false, not, ◌&&◌}
use Rattle.field.specs.Ring.{Ring}

-- exclusive or
abbrev pub xor : Bool → Bool → Bool
xor false b = b
xor true b = not b

pub xor_assoc : (a b c : Bool) → xor (xor a b) c ≡ xor a (xor b c)
xor_assoc false b c = refl
xor_assoc true false c = refl
xor_assoc true true false = refl
xor_assoc true true true = refl

pub xor_comm : (a b : Bool) → xor a b ≡ xor b a
xor_comm false false = refl
xor_comm false true = refl
xor_comm true false = refl
xor_comm true true = refl

pub xor-false : (a : Bool) → xor a false ≡ a
xor-false false = refl
xor-false true = refl

pub xor_self : (a : Bool) → xor a a ≡ false
xor_self false = refl
xor_self true = refl

pub and_assoc : (a b c : Bool) → ((a && b) && c) ≡ (a && (b && c))
and_assoc false b c = refl
and_assoc true b c = refl

pub and_comm : (a b : Bool) → (a && b) ≡ (b && a)
and_comm false false = refl
and_comm false true = refl
and_comm true false = refl
and_comm true true = refl

pub and-true : (a : Bool) → (a && true) ≡ a
and-true false = refl
and-true true = refl

pub and_xor : (a b c : Bool) → (a && xor b c) ≡ xor (a && b) (a && c)
and_xor false b c = refl
and_xor true b c = refl

abbrev pub binary : Ring
binary = record {
  Carrier = Bool;
  zero = false;
  one = true;
  add = xor;
  mul = ◌&&◌;
  add_assoc = xor_assoc;
  add_comm = xor_comm;
  add-zero = xor-false;
  add_self = xor_self;
  mul_assoc = and_assoc;
  mul_comm = and_comm;
  mul-one = and-true;
  mul-add = and_xor;
}

-- the two elements in any ring
abbrev pub bit : (R : Ring) → Bool → R.Carrier
bit R false = R.zero
bit R true = R.one
