-- The values are the polynomials at the challenge, in every modelling.
use mathlib.Core.Path.{◌≡◌, sym, ◌∙◌, ap, ap₂}
use mathlib.Core.Bool.{Bool}
use Prim.Native.Nat.{ℕ, suc, ◌<◌}
use Rattle.field.specs.Ring.{Ring}
use Rattle.field.specs.RingLaws.{ring}
use Rattle.field.specs.Binary.{xor, bit}
use Rattle.constraints.specs.Graded.{eval, linear, polynomials, point}
use Rattle.constraints.specs.System.{System, masked, polynomial, value, Honest}
use Rattle.field.proofs.Bits.{bit-add}
use Rattle.constraints.proofs.Evaluation.{at, at-point, at-linear, at-eval}

module _ {K : Ring} (S : System K) where
  open K use {Carrier, zero as 𝟘, one as 𝟙, add as ◌⊕◌, mul as ◌⊗◌}

  infixl 60 ◌⊕◌
  infixl 70 ◌⊗◌
  -- polynomial j with x for X and the offsets multiplied by y
  pub at-polynomial : (w : ℕ → ℕ → Bool) (v : ℕ → ℕ → Carrier) (x y : Carrier) (j : ℕ)
      → at K x y S.degree (polynomial S w v j) ≡ S.constraint (point K x) (λ i k c. bit K (xor (w i k) c) ⊗ x ⊕ v i k ⊗ y) j
  unfolding polynomial
  at-polynomial w v x y j = S.natural (polynomials K) (point K x) (at-point K x y) (λ i k c. linear K (bit K (xor (w i k) c)) (v i k)) j
      ∙ ap (λ f. S.constraint (point K x) f j) (λ t i k c. at-linear K x y (bit K (xor (w i k) c)) (v i k) t)

  -- where the verifier's numbers are honest, value j is polynomial j at the challenge
  pub agreement : (w u : ℕ → ℕ → Bool) (v q : ℕ → ℕ → Carrier) (Δ : Carrier) → Honest S u v q Δ → (j : ℕ)
      → value S (masked w u) q Δ j ≡ eval K (suc S.degree) (polynomial S w v j) Δ
  unfolding masked value
  agreement w u v q Δ h j = S.local (point K Δ) _ _ (λ i k l r c. ap₂ (λ a b. a ⊕ b ⊗ Δ) (h i k l r) (bit-add K (xor (w i k) (u i k)) c ∙ ap (λ b. b ⊕ bit K c) (bit-add K (w i k) (u i k)))
      ∙ unmask (bit K (w i k)) (bit K (u i k)) (bit K c) (v i k) ∙ ap (λ b. b ⊗ Δ ⊕ v i k ⊗ 𝟙) (sym (bit-add K (w i k) c))) j
      ∙ sym (at-polynomial w v Δ 𝟙 j) ∙ at-eval K Δ S.degree (polynomial S w v j)
    where
      unmask : (b c e a : Carrier) → c ⊗ Δ ⊕ a ⊕ (b ⊕ c ⊕ e) ⊗ Δ ≡ (b ⊕ e) ⊗ Δ ⊕ a ⊗ 𝟙
      unmask b c e a = simp ring

  -- only the bits (i,k) in range count
  pub value_cong : (t s : ℕ → ℕ → Bool) (q : ℕ → ℕ → Carrier) (Δ : Carrier) → ((i k : ℕ) → i < S.rows → k < S.places → t i k ≡ s i k) → (j : ℕ) → value S t q Δ j ≡ value S s q Δ j
  unfolding value
  value_cong t s q Δ h = S.local (point K Δ) _ _ (λ i k l r c. ap (λ b. q i k ⊕ bit K (xor b c) ⊗ Δ) (h i k l r))
