-- The digits modelling as a system of constraints.
use Rattle.std.specs.Prelude.{refl, ℕ, ◌+◌}
use Rattle.field.specs.Ring.{Ring, Hom, identity}
use Rattle.constraints.specs.System.{System}
use Rattle.constraints.specs.Digits.{Instance, z, constraint}
use Rattle.constraints.specs.DigitsLaws.{map-digits, digits_cong}

-- n + m constraints of degree d, for d digits in each of n rows
abbrev pub digits : {F K : Ring} (φ : Hom F K) (key : Instance F) (d : ℕ) → System K
digits {K} φ key d = record {
  degree = d;
  size = key.n + key.m;
  rows = key.n;
  places = d;
  constraint = λ G f j. constraint φ key G d (z G d f) j;
  natural = λ A B g. map-digits φ φ {h = identity K} (λ a. refl) key g d;
  local = digits_cong φ key d;
}
