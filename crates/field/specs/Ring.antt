-- Commutative rings in which x + x is zero, and the maps between them.
use Rattle.std.specs.Prelude.{◌≡◌, refl}

pub record Ring : Type 1 where
  pub Carrier : Type 0
  pub zero : Carrier
  pub one : Carrier
  pub add : Carrier → Carrier → Carrier
  pub mul : Carrier → Carrier → Carrier
  pub add_assoc : (a b c : Carrier) → add (add a b) c ≡ add a (add b c)
  pub add_comm : (a b : Carrier) → add a b ≡ add b a
  pub add-zero : (a : Carrier) → add a zero ≡ a
  pub add_self : (a : Carrier) → add a a ≡ zero
  pub mul_assoc : (a b c : Carrier) → mul (mul a b) c ≡ mul a (mul b c)
  pub mul_comm : (a b : Carrier) → mul a b ≡ mul b a
  pub mul-one : (a : Carrier) → mul a one ≡ a
  pub mul-add : (a b c : Carrier) → mul a (add b c) ≡ add (mul a b) (mul a c)

-- a map that keeps one, sums and products
pub record Hom (R S : Ring) : Type 0 where
  pub map : R.Carrier → S.Carrier
  pub map-one : map R.one ≡ S.one
  pub map-add : (a b : R.Carrier) → map (R.add a b) ≡ S.add (map a) (map b)
  pub map-mul : (a b : R.Carrier) → map (R.mul a b) ≡ S.mul (map a) (map b)

abbrev pub identity : (R : Ring) → Hom R R
identity R = record { map = λ a. a; map-one = refl; map-add = λ a b. refl; map-mul = λ a b. refl }
