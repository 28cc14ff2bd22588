-- CheckZero: the prover's masked sum of the polynomials, and the equation by which the verifier accepts, for any modelling.
use Rattle.std.specs.Prelude.{◌≡◌, Bool, cond, ℕ, suc, ◌-◌, ◌<◌, eqb}
use Rattle.field.specs.Ring.{Ring}
use Rattle.field.specs.Vector.{Vector}
use Rattle.field.specs.Word.{vector}
use Rattle.constraints.specs.Graded.{Graded, total, Polynomial, polynomials, point, coefficient, eval}
use Rattle.field.specs.Sums.{sigma, pow}
use Rattle.constraints.specs.System.{System, polynomial, value}

module _ (K : Ring) where
  open K use {Carrier, zero as 𝟘, add as ◌⊕◌, mul as ◌⊗◌}

  infixl 60 ◌⊕◌
  infixl 70 ◌⊗◌
  -- coefficient i of "X^k times (s(k) X + r(k))"
  unfoldable pub shifted : (k : ℕ) (s r : Carrier) → ℕ → Carrier
  shifted k s r i = cond (eqb i k) r 𝟘 ⊕ cond (eqb i (suc k)) s 𝟘

  -- coefficient i of the mask, "the sum over k below d - 1 of X^k times (s(k) X + r(k))", for `count` masks
  unfoldable pub mask : (count : ℕ) (r s : ℕ → Carrier) → ℕ → Carrier
  mask count r s i = sigma K count (λ k. shifted k (s k) (r k) i)

  -- "the sum of Δ^k times its mask numbers", for `count` of them
  unfoldable pub mask_sum : (count : ℕ) (Δ : Carrier) (numbers : ℕ → Carrier) → Carrier
  mask_sum count Δ numbers = sigma K count (λ k. pow K Δ k ⊗ numbers k)

module _ {K : Ring} (S : System K) where
  open K use {Carrier, add as ◌⊕◌, mul as ◌⊗◌}

  infixl 60 ◌⊕◌
  infixl 70 ◌⊗◌
  abbrev d : ℕ
  d = S.degree

  -- the sum of α(j) times constraint j
  unfoldable pub weighted : (G : Graded K) (α : ℕ → Carrier) → (ℕ → G.Value S.degree) → G.Value S.degree
  weighted G α c = total G d S.size (λ j. G.scaled d (α j) (c j))

  -- "f is the sum of α(j) times polynomial j"
  unfoldable pub f : (w : ℕ → ℕ → Bool) (v : ℕ → ℕ → Carrier) (α : ℕ → Carrier) → Polynomial K S.degree
  f w v α = weighted (polynomials K) α (polynomial S w v)

  -- "The proof a is the d coefficients, lowest first, of f plus mask, below X^d."
  unfoldable pub proof : (w : ℕ → ℕ → Bool) (v : ℕ → ℕ → Carrier) (r s α : ℕ → Carrier) → Vector Carrier S.degree
  proof w v r s α = vector d (λ i. coefficient K (suc d) (f w v α) i ⊕ mask K (d - 1) r s i)

  -- "the weighted sum of its values plus the sum of Δ^k times its mask numbers"
  unfoldable pub expected : (t : ℕ → ℕ → Bool) (q : ℕ → ℕ → Carrier) (Δ : Carrier) (numbers α : ℕ → Carrier) → Carrier
  expected t q Δ numbers α = weighted (point K Δ) α (value S t q Δ) ⊕ mask_sum K (d - 1) Δ numbers

  -- "The verifier accepts exactly when a at Δ equals" it
  abbrev pub Accepts : (t : ℕ → ℕ → Bool) (q : ℕ → ℕ → Carrier) (Δ : Carrier) (numbers α : ℕ → Carrier) (a : Vector Carrier S.degree) → Type 0
  Accepts t q Δ numbers α a = eval K d a Δ ≡ expected t q Δ numbers α

  -- "an honest verifier's number is s times Δ plus r"
  abbrev pub HonestMasks : (r s : ℕ → Carrier) (Δ : Carrier) (numbers : ℕ → Carrier) → Type 0
  HonestMasks r s Δ numbers = (k : ℕ) → k < S.degree - 1 → numbers k ≡ s k ⊗ Δ ⊕ r k
