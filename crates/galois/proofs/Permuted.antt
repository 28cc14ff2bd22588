-- A product does not depend on the order of its factors.
use mathlib.Core.Path.{◌≡◌, refl, sym, ◌∙◌, ap, ap₂, subst}
use mathlib.Core.Bool.{cond}
use Prim.Native.Nat.{ℕ, zero, suc, ◌<◌}
use native.Mathlib.Decide.{ℕ_discrete}
use native.Mathlib.Omega.{arith}
use lib.Dec.{eqb}
use borrow.Author.Tests.{eq-eqb, ne_eqb}
use Rattle.field.specs.Ring.{Ring}
use Rattle.field.specs.RingLaws.{ring}
use Rattle.field.specs.Sums.{summed}
use Rattle.field.specs.SumLaws.{summed_cong}

-- σ takes the numbers below n to numbers below n, and τ takes each back
pub record Back (n : ℕ) (σ τ : ℕ → ℕ) : Type 0 where
  pub below : (i : ℕ) → i < n → σ i < n
  pub back : (i : ℕ) → i < n → τ (σ i) ≡ i

module _ (n : ℕ) (σ : ℕ → ℕ) where
  -- σ without n: what goes to n by σ goes where n goes
  without : ℕ → ℕ
  without i = cond (eqb (σ i) n) (σ n) (σ i)

  without_yes : (i : ℕ) → σ i ≡ n → without i ≡ σ n
  unfolding without
  without_yes i e = ap (λ b. cond b (σ n) (σ i)) (eq-eqb (σ i) n e)

  without_no : (i : ℕ) → (σ i ≡ n → ⊥) → without i ≡ σ i
  unfolding without
  without_no i d = ap (λ b. cond b (σ n) (σ i)) (ne_eqb (σ i) n d)

without_back : (n : ℕ) (σ τ : ℕ → ℕ) → Back (suc n) σ τ → Back n (without n σ) (without n τ)
without_back n σ τ B = record { below = λ i h. below i h (ℕ_discrete (σ i) n); back = λ i h. back i h (ℕ_discrete (σ i) n) }
  where
    last : τ (σ n) ≡ n
    last = B.back n (omega arith)

    below : (i : ℕ) → i < n → Dec (σ i ≡ n) → without n σ i < n
    below i h (no d) = subst (λ k. k < n) (sym (without_no n σ i d)) (omega (arith, B.below i (omega arith)))
    below i h (yes e) = subst (λ k. k < n) (sym (without_yes n σ i e)) (omega (arith, B.below n (omega arith), apart))
      where
        apart : σ n ≡ n → ⊥
        apart f = omega (arith, sym (B.back i (omega arith)) ∙ ap τ (e ∙ sym f) ∙ last)

    back : (i : ℕ) → i < n → Dec (σ i ≡ n) → without n τ (without n σ i) ≡ i
    back i h (no d) = ap (without n τ) (without_no n σ i d) ∙ without_no n τ (σ i) (λ e. omega (arith, B.back i (omega arith), e)) ∙ B.back i (omega arith)
    back i h (yes e) = ap (without n τ) (without_yes n σ i e) ∙ without_yes n τ (σ n) last ∙ ap τ (sym e) ∙ B.back i (omega arith)

module _ (R : Ring) where
  open R use {Carrier, one as 𝟙, mul as ◌⊗◌}

  infixl 70 ◌⊗◌
  -- f 0 · f 1 · .. · f (n - 1)
  abbrev pub multiplied : (n : ℕ) → (ℕ → Carrier) → Carrier
  multiplied n f = summed 𝟙 ◌⊗◌ n f

  -- two products that differ in one factor
  exchange : (n k : ℕ) → k < n → (f g : ℕ → Carrier) → ((i : ℕ) → i < n → (i ≡ k → ⊥) → f i ≡ g i) → multiplied n f ⊗ g k ≡ multiplied n g ⊗ f k
  unfolding summed
  exchange zero k h f g e = absurd (omega arith)
  exchange (suc n) k h f g e = pick (ℕ_discrete k n) (λ d. exchange n k (omega arith) f g (λ i l. e i (omega arith)))
    where
      swap : (a b c : Carrier) → a ⊗ b ⊗ c ≡ a ⊗ c ⊗ b
      swap a b c = simp ring

      pick : Dec (k ≡ n) → ((k ≡ n → ⊥) → multiplied n f ⊗ g k ≡ multiplied n g ⊗ f k) → multiplied n f ⊗ f n ⊗ g k ≡ multiplied n g ⊗ g n ⊗ f k
      pick (yes s) more = ap₂ (λ x y. x ⊗ f n ⊗ y) (summed_cong 𝟙 ◌⊗◌ n f g (λ i l. e i (omega arith) (λ z. omega (arith, z, s)))) (ap g s)
          ∙ swap (multiplied n g) (f n) (g n) ∙ ap (λ y. multiplied n g ⊗ g n ⊗ y) (ap f (sym s))
      pick (no d) more = swap (multiplied n f) (f n) (g k) ∙ ap₂ ◌⊗◌ (more d) (e n (omega arith) (λ z. d (sym z))) ∙ swap (multiplied n g) (f k) (g n)

  -- the same factors in another order
  pub permuted : (n : ℕ) (σ τ : ℕ → ℕ) → Back n σ τ → Back n τ σ → (f : ℕ → Carrier) → multiplied n (λ i. f (σ i)) ≡ multiplied n f
  unfolding summed
  permuted zero σ τ S T f = refl
  permuted (suc n) σ τ S T f = pick (ℕ_discrete (τ n) n) ∙ ap (λ x. x ⊗ f n) (permuted n (without n σ) (without n τ) (without_back n σ τ S) (without_back n τ σ T) f)
    where
      last : σ (τ n) ≡ n
      last = T.back n (omega arith)

      -- only τ n goes to n
      only : (i : ℕ) → i < n → (i ≡ τ n → ⊥) → f (σ i) ≡ f (without n σ i)
      only i l d = ap f (sym (without_no n σ i (λ e. d (sym (S.back i (omega arith)) ∙ ap τ e))))

      pick : Dec (τ n ≡ n) → multiplied n (λ i. f (σ i)) ⊗ f (σ n) ≡ multiplied n (λ i. f (without n σ i)) ⊗ f n
      pick (yes s) = ap₂ ◌⊗◌ (summed_cong 𝟙 ◌⊗◌ n (λ i. f (σ i)) (λ i. f (without n σ i)) (λ i l. only i l (λ e. omega (arith, e, s)))) (ap f (ap σ (sym s) ∙ last))
      pick (no d) = ap (λ k. multiplied n (λ i. f (σ i)) ⊗ f k) (sym (without_yes n σ (τ n) last))
          ∙ exchange n (τ n) (omega (arith, T.below n (omega arith))) (λ i. f (σ i)) (λ i. f (without n σ i)) only
          ∙ ap (λ k. multiplied n (λ i. f (without n σ i)) ⊗ f k) last
