-- Polynomials over a ring K by their coefficients, and elements of K with a value for X: one set of operations for both.
use Rattle.std.specs.Prelude.{ℕ, zero, suc}
use Rattle.field.specs.Ring.{Ring}
use Rattle.field.specs.Sums.{summed, sigma, pow}
use Rattle.field.specs.Vector.{Vector, zeros, sum, scale}
use Rattle.field.specs.Word.{vector}

-- What constraints are made with. `Value d` holds the polynomials of degree at most d, or what stands for them:
-- sums, multiples by elements of K, one, X, and products with a value of degree at most 1.
pub record Graded (K : Ring) : Type 1 where
  pub Value : ℕ → Type 0
  pub nil : (d : ℕ) → Value d
  pub plus : (d : ℕ) → Value d → Value d → Value d
  pub scaled : (d : ℕ) → K.Carrier → Value d → Value d
  pub unit : Value 0
  pub X : Value 1
  pub times : (d : ℕ) → Value 1 → Value d → Value (suc d)

module _ {K : Ring} (G : Graded K) where
  -- the sum of f i over i below n
  abbrev pub total : (d n : ℕ) → (ℕ → G.Value d) → G.Value d
  total d n f = summed (G.nil d) (G.plus d) n f

  -- the product of the d factors f 0, f 1, .., f (d - 1)
  unfoldable pub product : (d : ℕ) → (ℕ → G.Value 1) → G.Value d
  product zero f = G.unit
  product (suc d) f = G.times d (f d) (product d f)

  -- X^d
  unfoldable pub power : (d : ℕ) → G.Value d
  power d = product d (λ k. G.X)

module _ (K : Ring) where
  open K use {Carrier, zero as 𝟘, one as 𝟙, add as ◌⊕◌, mul as ◌⊗◌}

  infixl 60 ◌⊕◌
  infixl 70 ◌⊗◌
  -- "d + 1 coefficients, lowest power first": a polynomial of degree at most d
  abbrev pub Polynomial : ℕ → Type 0
  Polynomial d = Vector Carrier (suc d)

  -- of n coefficients, the one of X^k; zero for k from n on
  unfoldable pub coefficient : (n : ℕ) → Vector Carrier n → ℕ → Carrier
  coefficient zero p k = 𝟘
  coefficient (suc n) p zero = p.0
  coefficient (suc n) p (suc k) = coefficient n p.1 k

  -- "the last, that of X^d, is its top coefficient"
  abbrev pub top : (d : ℕ) → Polynomial d → Carrier
  top d p = coefficient (suc d) p d

  -- "A polynomial at Δ is the sum of each coefficient times its power of Δ; the power 0 is one, for Δ zero too", of n coefficients
  unfoldable pub eval : (n : ℕ) → Vector Carrier n → Carrier → Carrier
  eval n p Δ = sigma K n (λ k. coefficient n p k ⊗ pow K Δ k)

  -- b X + v
  abbrev pub linear : Carrier → Carrier → Polynomial 1
  linear b v = (v, (b, tt))

  -- coefficient k of X p, from the coefficients of p
  unfoldable pub raised : (ℕ → Carrier) → ℕ → Carrier
  raised p zero = 𝟘
  raised p (suc k) = p k

  -- (b X + v) p
  unfoldable pub linear_times : (d : ℕ) → Polynomial 1 → Polynomial d → Polynomial (suc d)
  linear_times d (v, (b, tt)) p = vector (suc (suc d)) (λ k. b ⊗ raised (coefficient (suc d) p) k ⊕ v ⊗ coefficient (suc d) p k)

  abbrev pub polynomials : Graded K
  polynomials = record {
    Value = Polynomial;
    nil = λ d. zeros K (suc d);
    plus = λ d. sum K (suc d);
    scaled = λ d. scale K (suc d);
    unit = (𝟙, tt);
    X = linear 𝟙 𝟘;
    times = linear_times;
  }

  -- elements of K, with x for X
  abbrev pub point : Carrier → Graded K
  point x = record {
    Value = λ d. Carrier;
    nil = λ d. 𝟘;
    plus = λ d. ◌⊕◌;
    scaled = λ d. ◌⊗◌;
    unit = 𝟙;
    X = x;
    times = λ d. ◌⊗◌;
  }
