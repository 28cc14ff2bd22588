-- In a field of n + 1 elements, a^n is one for each a that is not zero: the products a x of the elements x that are not zero are those elements again.
use mathlib.Core.Path.{◌≡◌, refl, sym, ◌∙◌, ap}
use mathlib.Core.Logic.{◌⊎◌, inl, inr, ⊎_elim}
use Prim.Native.Nat.{ℕ, zero, suc, ◌-◌, ◌<◌}
use native.Mathlib.Omega.{arith}
use Rattle.field.specs.Ring.{Ring}
use Rattle.field.specs.RingLaws.{ring, one-mul}
use Rattle.field.specs.Sums.{summed, pow}
use Rattle.field.specs.SumLaws.{summed_cong}
use Rattle.galois.specs.Field.{Field}
use Rattle.galois.proofs.FieldLaws.{no_zero_divisors, cancel}
use Rattle.galois.proofs.Permuted.{Back, multiplied, permuted}

-- the elements of R by numbers up to n, zero by 0
pub record Numbered (R : Ring) (n : ℕ) : Type 0 where
  pub element : ℕ → R.Carrier
  pub index : R.Carrier → ℕ
  pub below : (a : R.Carrier) → index a < suc n
  pub element-index : (a : R.Carrier) → element (index a) ≡ a
  pub index-element : (x : ℕ) → x < suc n → index (element x) ≡ x
  pub element-zero : element 0 ≡ R.zero

module _ (R : Ring) where
  open R use {Carrier, zero as 𝟘, one as 𝟙, mul as ◌⊗◌}

  infixl 70 ◌⊗◌
  -- one factor a in each factor
  multiplied-pow : (n : ℕ) (a : Carrier) (f : ℕ → Carrier) → multiplied R n (λ i. a ⊗ f i) ≡ pow R a n ⊗ multiplied R n f
  unfolding summed pow
  multiplied-pow zero a f = sym (one-mul R 𝟙)
  multiplied-pow (suc n) a f = ap (λ x. x ⊗ (a ⊗ f n)) (multiplied-pow n a f) ∙ inner (pow R a n) (multiplied R n f) (f n)
    where
      inner : (p m x : Carrier) → p ⊗ m ⊗ (a ⊗ x) ≡ a ⊗ p ⊗ (m ⊗ x)
      inner p m x = simp ring

  -- a product is zero only where a factor is
  multiplied-nonzero : Field R → (n : ℕ) (f : ℕ → Carrier) → ((i : ℕ) → i < n → f i ≡ 𝟘 → ⊥) → multiplied R n f ≡ 𝟘 → ⊥
  unfolding summed
  multiplied-nonzero N zero f h e = N.distinct e
  multiplied-nonzero N (suc n) f h e = ⊎_elim (multiplied-nonzero N n f (λ i l. h i (omega arith))) (h n (omega arith)) (no_zero_divisors R N (multiplied R n f) (f n) e)

  module _ (n : ℕ) (E : Numbered R n) where
    -- the elements that are not zero
    abbrev nonzero : ℕ → Carrier
    nonzero i = E.element (suc i)

    nonzero_law : (i : ℕ) → i < n → nonzero i ≡ 𝟘 → ⊥
    nonzero_law i h e = omega (arith, sym (E.index-element (suc i) (omega arith)) ∙ ap E.index (e ∙ sym E.element-zero) ∙ E.index-element 0 (omega arith))

    -- the place of a times nonzero i among them
    moved : Carrier → ℕ → ℕ
    moved a i = E.index (a ⊗ nonzero i) - 1

    module _ (a b : Carrier) (e : a ⊗ b ≡ 𝟙) where
      positive : (i : ℕ) → i < n → 0 < E.index (a ⊗ nonzero i)
      positive i h = go (E.index (a ⊗ nonzero i)) refl
        where
          go : (x : ℕ) → E.index (a ⊗ nonzero i) ≡ x → 0 < x
          go zero z = absurd (nonzero_law i h (cancel R a b (nonzero i) e (sym (E.element-index (a ⊗ nonzero i)) ∙ ap E.element z ∙ E.element-zero)))
          go (suc x) z = omega arith

      moved-element : (i : ℕ) → i < n → nonzero (moved a i) ≡ a ⊗ nonzero i
      unfolding moved
      moved-element i h = ap E.element same ∙ E.element-index (a ⊗ nonzero i)
        where
          same : suc (E.index (a ⊗ nonzero i) - 1) ≡ E.index (a ⊗ nonzero i)
          same = omega (arith, positive i h)

      moved_back : Back n (moved a) (moved b)
      unfolding moved
      moved_back = record { below = λ i h. omega (arith, positive i h, E.below (a ⊗ nonzero i)); back = back }
        where
          inner : (x : Carrier) → b ⊗ (a ⊗ x) ≡ a ⊗ b ⊗ x
          inner x = simp ring

          again : (i : ℕ) → i < n → b ⊗ nonzero (moved a i) ≡ nonzero i
          again i h = ap (λ x. b ⊗ x) (moved-element i h) ∙ inner (nonzero i) ∙ ap (λ x. x ⊗ nonzero i) e ∙ one-mul R (nonzero i)

          back : (i : ℕ) → i < n → E.index (b ⊗ nonzero (moved a i)) - 1 ≡ i
          back i h = ap (λ x. E.index x - 1) (again i h) ∙ ap (λ x. x - 1) (E.index-element (suc i) (omega arith)) ∙ omega arith

    pub fermat : Field R → (a : Carrier) → (a ≡ 𝟘 → ⊥) → pow R a n ≡ 𝟙
    fermat N a d = go (N.inverses a) (N.inverses P)
      where
        P : Carrier
        P = multiplied R n nonzero

        go : (a ≡ 𝟘) ⊎ ((b : Carrier) × (a ⊗ b ≡ 𝟙)) → (P ≡ 𝟘) ⊎ ((q : Carrier) × (P ⊗ q ≡ 𝟙)) → pow R a n ≡ 𝟙
        go (inl z) s = absurd (d z)
        go (inr s) (inl z) = absurd (multiplied-nonzero N n nonzero nonzero_law z)
        go (inr (b, e)) (inr (q, s)) = sym (R.mul-one (pow R a n)) ∙ ap (λ x. pow R a n ⊗ x) (sym s) ∙ sym (R.mul_assoc (pow R a n) P q) ∙ ap (λ x. x ⊗ q) same ∙ s
          where
            same : pow R a n ⊗ P ≡ P
            same = sym (multiplied-pow n a nonzero) ∙ sym (summed_cong 𝟙 ◌⊗◌ n (λ i. nonzero (moved a i)) (λ i. a ⊗ nonzero i) (moved-element a b e))
                ∙ permuted R n (moved a) (moved b) (moved_back a b e) (moved_back b a (R.mul_comm b a ∙ e)) nonzero
