-- A modelling of a key as constraints, which give the prover's polynomials and the verifier's values at once.
use Rattle.std.specs.Prelude.{◌≡◌, Bool, ℕ, ◌<◌}
use Rattle.field.specs.Ring.{Ring, identity}
use Rattle.field.specs.Binary.{xor, bit}
use Rattle.constraints.specs.Graded.{Graded, Polynomial, linear, polynomials, point}
use Rattle.constraints.specs.GradedLaws.{Morphism}

-- `size` constraints of degree at most `degree`, for witness bits (i,k) with i below `rows` and k below `places`.
-- They are made of X and of the factors f i k c, where f i k c is that of the bit (i,k) exclusive-or c.
-- Two laws: constraints go along with each map that keeps the operations, and only the factors of these bits count.
pub record System (K : Ring) : Type 1 where
  pub degree : ℕ
  pub size : ℕ
  pub rows : ℕ
  pub places : ℕ
  pub constraint : (G : Graded K) → (ℕ → ℕ → Bool → G.Value 1) → ℕ → G.Value degree
  pub natural : (A B : Graded K) (g : Morphism (identity K) A B) (f : ℕ → ℕ → Bool → A.Value 1) (j : ℕ)
      → g.map degree (constraint A f j) ≡ constraint B (λ i k c. g.map 1 (f i k c)) j
  pub local : (G : Graded K) (e f : ℕ → ℕ → Bool → G.Value 1) → ((i k : ℕ) → i < rows → k < places → (c : Bool) → e i k c ≡ f i k c)
      → (j : ℕ) → constraint G e j ≡ constraint G f j

-- "The masked witness t(i,k) is w(i,k) exclusive-or u(i,k)."
unfoldable pub masked : (w u : ℕ → ℕ → Bool) → ℕ → ℕ → Bool
masked w u i k = xor (w i k) (u i k)

module _ {K : Ring} (S : System K) where
  open K use {Carrier, add as ◌⊕◌, mul as ◌⊗◌}

  infixl 60 ◌⊕◌
  infixl 70 ◌⊗◌
  -- polynomial j: "the factor is b times X plus v(i,k)", for the bit b = w(i,k) exclusive-or c
  unfoldable pub polynomial : (w : ℕ → ℕ → Bool) (v : ℕ → ℕ → Carrier) → ℕ → Polynomial K S.degree
  polynomial w v j = S.constraint (polynomials K) (λ i k c. linear K (bit K (xor (w i k) c)) (v i k)) j

  -- value j: "The verifier replaces w by t, each factor by q plus that bit times Δ, and X^d by Δ^d"
  unfoldable pub value : (t : ℕ → ℕ → Bool) (q : ℕ → ℕ → Carrier) (Δ : Carrier) → ℕ → Carrier
  value t q Δ j = S.constraint (point K Δ) (λ i k c. q i k ⊕ bit K (xor (t i k) c) ⊗ Δ) j

  -- "An honest q is u times Δ plus v"
  abbrev pub Honest : (u : ℕ → ℕ → Bool) (v q : ℕ → ℕ → Carrier) → Carrier → Type 0
  Honest u v q Δ = (i k : ℕ) → i < S.rows → k < S.places → q i k ≡ bit K (u i k) ⊗ Δ ⊕ v i k
