-- The top coefficients of the digits modelling.
use mathlib.Core.Path.{◌≡◌, refl, sym, ◌∙◌, ap}
use mathlib.Core.Bool.{Bool, not}
use mathlib.Core.Logic.{◌↔◌}
use Prim.Native.Nat.{ℕ, zero, suc, ◌+◌, ◌^◌, ◌<◌, ◌≤◌}
use native.Mathlib.Omega.{arith}
use lib.Dec.{eqb}
use Rattle.field.specs.Ring.{Ring, Hom}
use Rattle.field.specs.RingLaws.{ring}
use Rattle.field.specs.Binary.{xor, bit}
use Rattle.field.specs.Word.{odd}
use Rattle.constraints.specs.Graded.{product, top, linear, polynomials, point}
use Rattle.constraints.specs.System.{polynomial}
use Rattle.constraints.specs.Digits.{Instance, digit_in, digit, witness, factor, z, column, row, join, constraint}
use Rattle.constraints.specs.DigitsLaws.{map-z, constraint_cong}
use Rattle.constraints.specs.Modelling.{digits}
use Rattle.constraints.specs.Order.{Order, Solves}
use Rattle.constraints.proofs.Evaluation.{at-point, at-linear, at_top}
use Rattle.constraints.proofs.Agreement.{at-polynomial}
use Rattle.constraints.proofs.Place.{digit_lt, compose-digits, digits-agree}
use Rattle.constraints.proofs.Join.{join-all}
use Rattle.constraints.proofs.Solving.{picks, solving}

module _ {F K : Ring} (φ : Hom F K) (key : Instance F) (d : ℕ) (position : ℕ → ℕ) (v : ℕ → ℕ → K.Carrier) (fits : key.n ≤ 2 ^ d) (small : (i : ℕ) → i < key.n → position i < 2 ^ d) where
  open key use {n, m}
  open K use {Carrier, zero as 𝟘, one as 𝟙, add as ◌⊕◌, mul as ◌⊗◌}

  infixl 60 ◌⊕◌
  infixl 70 ◌⊗◌
  -- the factors at X = 1, without their offsets
  abbrev bare : ℕ → ℕ → Bool → Carrier
  bare i k c = bit K (xor (witness d position i k) c) ⊗ 𝟙 ⊕ v i k ⊗ 𝟘

  z-one : (i j : ℕ) → i < n → j < n → z (point K 𝟙) d bare i j ≡ picks K position i j
  unfolding z factor witness
  z-one i j l r = ap (product (point K 𝟙) d) (λ t k. (inner (bit K (xor (digit d k (position i)) (not (digit d k j)))) (v i k) ∙ ap (bit K) (agree (digit_in 2 d k (position i)) (digit_in 2 d k j) (binary k (position i)) (binary k j))) t)
      ∙ digits-agree K 𝟙 2 d (λ k. digit_in 2 d k (position i)) j (omega arith) (λ k q. binary k (position i)) (omega arith)
      ∙ ap (λ p. bit K (eqb p j)) (compose-digits 2 d (position i) (omega arith) (small i l))
    where
      inner : (b a : Carrier) → b ⊗ 𝟙 ⊕ a ⊗ 𝟘 ≡ b
      inner b a = simp ring

      binary : (k j : ℕ) → digit_in 2 d k j < 2
      binary k j = digit_lt 2 d k j (omega arith)

      agree : (p c : ℕ) → p < 2 → c < 2 → xor (odd p) (not (odd c)) ≡ eqb p c
      agree zero zero h l = refl
      agree zero (suc zero) h l = refl
      agree (suc zero) zero h l = refl
      agree (suc zero) (suc zero) h l = refl
      agree zero (suc (suc c)) h l = absurd (omega arith)
      agree (suc zero) (suc (suc c)) h l = absurd (omega arith)
      agree (suc (suc p)) c h l = absurd (omega arith)

  -- "Its top coefficient, that of X^d, is 1 when position i is j and 0 otherwise."
  pub top-z : (i j : ℕ) → i < n → j < n → top K d (z (polynomials K) d (λ i k c. linear K (bit K (xor (witness d position i k) c)) (v i k)) i j) ≡ bit K (eqb (position i) j)
  top-z i j l r = sym (at_top K d _) ∙ map-z (at-point K 𝟙 𝟘) d (λ i k c. linear K (bit K (xor (witness d position i k) c)) (v i k)) i j
      ∙ ap (λ f. z (point K 𝟙) d f i j) (λ t i k c. at-linear K 𝟙 𝟘 (bit K (xor (witness d position i k) c)) (v i k) t) ∙ z-one i j l r

  top-polynomial : (j : ℕ) → top K d (polynomial (digits φ key d) (witness d position) v j) ≡ constraint φ key (point K 𝟙) d (picks K position) j
  top-polynomial j = sym (at_top K d (polynomial (digits φ key d) (witness d position) v j)) ∙ at-polynomial (digits φ key d) (witness d position) v 𝟙 𝟘 j
      ∙ constraint_cong φ key (point K 𝟙) d (z (point K 𝟙) d bare) (picks K position) z-one j

  -- all n + m top coefficients are zero exactly when the positions solve the key
  pub tops : (𝟙 ≡ 𝟘 → ⊥) → ((a b : F.Carrier) → φ.map a ≡ φ.map b → a ≡ b)
      → ((j : ℕ) → j < n + m → top K d (polynomial (digits φ key d) (witness d position) v j) ≡ 𝟘) ↔ (Order n position × Solves key position)
  unfolding constraint
  tops distinct injective = (λ h. both.0 (families.0 (λ j l. sym (top-polynomial j) ∙ h j l)), λ s j l. top-polynomial j ∙ families.1 (both.1 s) j l)
    where
      columns : ℕ → Carrier
      columns = column φ key (point K 𝟙) d (picks K position)

      rows : ℕ → Carrier
      rows = row φ key (point K 𝟙) d (picks K position)

      both : (((j : ℕ) → j < n → columns j ≡ 𝟘) × ((e : ℕ) → e < m → rows e ≡ 𝟘)) ↔ (Order n position × Solves key position)
      both = solving φ key d position distinct injective

      families : ((j : ℕ) → j < n + m → join n columns rows j ≡ 𝟘) ↔ (((j : ℕ) → j < n → columns j ≡ 𝟘) × ((e : ℕ) → e < m → rows e ≡ 𝟘))
      families = join-all n columns rows (λ c. c ≡ 𝟘) m
