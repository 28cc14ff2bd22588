-- The digits modelling: the specification, 'Key, positions, correlations' and 'Polynomials and values'.
use Rattle.std.specs.Prelude.{Bool, not, cond, ℕ, ◌-◌, ◌/◌, ◌%◌, ◌^◌, ltb}
use Rattle.field.specs.Ring.{Ring, Hom}
use Rattle.field.specs.Word.{odd}
use Rattle.constraints.specs.Graded.{Graded, total, product, power}

-- "The key is n, m, H and x", and y: H(e,i) for e below m and i below n, x(i) for i below n, and y(e) for e below m
pub record Instance (F : Ring) : Type 0 where
  pub n : ℕ
  pub m : ℕ
  pub H : ℕ → ℕ → F.Carrier
  pub x : ℕ → F.Carrier
  pub y : ℕ → F.Carrier

-- digit k of j, of d digits in base b, "k from 0 to d - 1, highest digit first"
unfoldable pub digit_in : (b d k j : ℕ) → ℕ
digit_in b d k j = j / b ^ (d - 1 - k) % b

-- the same in base 2, as a bit
abbrev pub digit : (d k j : ℕ) → Bool
digit d k j = odd (digit_in 2 d k j)

-- "w(i,k) is digit k of position i"
unfoldable pub witness : (d : ℕ) → (ℕ → ℕ) → ℕ → ℕ → Bool
witness d position i k = digit d k (position i)

module _ {K : Ring} (G : Graded K) (d : ℕ) where
  -- "For row i, column j and digit k, let b be w(i,k) exclusive-or the complement of digit k of j": its factor
  unfoldable pub factor : (ℕ → ℕ → Bool → G.Value 1) → (i j k : ℕ) → G.Value 1
  factor f i j k = f i k (not (digit d k j))

  -- "z(i,j) is the product of its d factors."
  unfoldable pub z : (ℕ → ℕ → Bool → G.Value 1) → (i j : ℕ) → G.Value d
  z f i j = product G d (factor f i j)

module _ {F K : Ring} (φ : Hom F K) (key : Instance F) (G : Graded K) (d : ℕ) where
  open key use {n, H, x, y}

  -- "the sum of z(i,j) over all rows i, minus X^d": minus is plus, as a + a is zero
  unfoldable pub column : (ℕ → ℕ → G.Value d) → ℕ → G.Value d
  column z j = G.plus d (total G d n (λ i. z i j)) (power G d)

  -- "x'(i) is the sum over j of z(i,j) times x(j)"
  unfoldable pub x' : (ℕ → ℕ → G.Value d) → ℕ → G.Value d
  x' z i = total G d n (λ j. G.scaled d (φ.map (x j)) (z i j))

  -- "the sum over i of H(e,i) times x'(i)", which "loses y(e) times X^d"
  unfoldable pub row : (ℕ → ℕ → G.Value d) → ℕ → G.Value d
  row z e = G.plus d (total G d n (λ i. G.scaled d (φ.map (H e i)) (x' z i))) (G.scaled d (φ.map (y e)) (power G d))

-- f j for j below n, and g e for n + e
unfoldable pub join : {A : Type 0} (n : ℕ) (f g : ℕ → A) → ℕ → A
join n f g j = cond (ltb j n) (f j) (g (j - n))

-- "Polynomial j, for j below n" is column j, and "polynomial n + e, for e below m" is row e
unfoldable pub constraint : {F K : Ring} (φ : Hom F K) (key : Instance F) (G : Graded K) (d : ℕ) → (ℕ → ℕ → G.Value d) → ℕ → G.Value d
constraint φ key G d z j = join key.n (column φ key G d z) (row φ key G d z) j
