-- The powers a^(2^n), maps of rings; rings in which a^(2^n) is a for each a.
use mathlib.Core.Path.{◌≡◌, refl, sym, ◌∙◌, ap}
use mathlib.Core.Logic.{◌⊎◌, inl, inr, ⊎_elim}
use Prim.Native.Nat.{ℕ, zero, suc, ◌+◌, ◌*◌, ◌<◌}
use native.Mathlib.Nat.{zero-add, zero-mul, suc-add, suc-mul}
use native.Mathlib.Omega.{arith}
use Rattle.field.specs.Ring.{Ring, Hom}
use Rattle.field.specs.RingLaws.{ring, mul_assoc, mul-one, one-mul, zero-mul as 𝟘-mul}
use Rattle.galois.specs.Field.{Field}

module _ (R : Ring) where
  open R use {Carrier, zero as 𝟘, one as 𝟙, add as ◌⊕◌, mul as ◌⊗◌}

  infixl 60 ◌⊕◌
  infixl 70 ◌⊗◌
  -- a^(2^n)
  unfoldable pub frob : ℕ → Carrier → Carrier
  frob zero a = a
  frob (suc n) a = frob n a ⊗ frob n a

  pub frob-add : (n : ℕ) (a b : Carrier) → frob n (a ⊕ b) ≡ frob n a ⊕ frob n b
  unfolding frob
  frob-add zero a b = refl
  frob-add (suc n) a b = ap (λ x. x ⊗ x) (frob-add n a b) ∙ simp ring

  pub frob-mul : (n : ℕ) (a b : Carrier) → frob n (a ⊗ b) ≡ frob n a ⊗ frob n b
  unfolding frob
  frob-mul zero a b = refl
  frob-mul (suc n) a b = ap (λ x. x ⊗ x) (frob-mul n a b) ∙ simp ring

  -- what is its own square is its own power
  pub frob-idem : (n : ℕ) (e : Carrier) → e ⊗ e ≡ e → frob n e ≡ e
  unfolding frob
  frob-idem zero e h = refl
  frob-idem (suc n) e h = ap (λ x. x ⊗ x) (frob-idem n e h) ∙ h

  abbrev pub frobenius : ℕ → Hom R R
  frobenius n = record { map = frob n; map-one = frob-idem n 𝟙 (mul-one R 𝟙); map-add = frob-add n; map-mul = frob-mul n }

  pub frob-frob : (m n : ℕ) (a : Carrier) → frob m (frob n a) ≡ frob (m + n) a
  unfolding frob
  frob-frob zero n a = ap (λ k. frob k a) (sym (zero-add n))
  frob-frob (suc m) n a = ap (λ x. x ⊗ x) (frob-frob m n a) ∙ ap (λ k. frob k a) (sym (suc-add m n))

  -- what a^(2^n) fixes, a^(2^(p n)) fixes
  pub frob-fix : (p n : ℕ) (a : Carrier) → frob n a ≡ a → frob (p * n) a ≡ a
  unfolding frob
  frob-fix zero n a h = ap (λ k. frob k a) (zero-mul n)
  frob-fix (suc p) n a h = ap (λ k. frob k a) (suc-mul p n) ∙ sym (frob-frob (p * n) n a) ∙ ap (frob (p * n)) h ∙ frob-fix p n a h

  -- a^(2^n - 1), as a (a (a ..)²)²
  unfoldable ones : ℕ → Carrier → Carrier
  ones zero a = 𝟙
  ones (suc n) a = a ⊗ (ones n a ⊗ ones n a)

  ones-mul : (n : ℕ) (a : Carrier) → ones n a ⊗ a ≡ frob n a
  unfolding ones frob
  ones-mul zero a = one-mul R a
  ones-mul (suc n) a = shuffle (ones n a) ∙ ap (λ x. x ⊗ x) (ones-mul n a)
    where
      shuffle : (x : Carrier) → a ⊗ (x ⊗ x) ⊗ a ≡ x ⊗ a ⊗ (x ⊗ a)
      shuffle x = simp ring

-- a^(2^m) is a for each a, and only 0 and 1 are their own squares: a field of 2^m elements, or one inside it
pub record Galois (R : Ring) (m : ℕ) : Type 0 where
  pub distinct : R.one ≡ R.zero → ⊥
  pub fix : (a : R.Carrier) → frob R m a ≡ a
  pub idem : (e : R.Carrier) → R.mul e e ≡ e → (e ≡ R.zero) ⊎ (e ≡ R.one)

-- a^(2^m - 1) is its own square, so it is 0 or 1, and a is 0 or a^(2^m - 2) is its inverse
pub galois_field : (R : Ring) (m : ℕ) → 0 < m → Galois R m → Field R
unfolding ones
galois_field R zero h G = absurd (omega arith)
galois_field R (suc m) h G = record {
  distinct = G.distinct;
  inverses = λ a. ⊎_elim (λ (z : ones R (suc m) a ≡ R.zero). inl (zero_case a z))
      (λ (e : ones R (suc m) a ≡ R.one). inr (R.mul (ones R m a) (ones R m a), e)) (G.idem (ones R (suc m) a) (square a));
}
  where
    back : (a : R.Carrier) → R.mul (ones R (suc m) a) a ≡ a
    back a = ones-mul R (suc m) a ∙ G.fix a

    square : (a : R.Carrier) → R.mul (ones R (suc m) a) (ones R (suc m) a) ≡ ones R (suc m) a
    square a = sym (mul_assoc R (ones R (suc m) a) a (R.mul (ones R m a) (ones R m a))) ∙ ap (λ x. R.mul x (R.mul (ones R m a) (ones R m a))) (back a)

    zero_case : (a : R.Carrier) → ones R (suc m) a ≡ R.zero → a ≡ R.zero
    zero_case a z = sym (back a) ∙ ap (λ x. R.mul x a) z ∙ 𝟘-mul R a

pub hom_frob : (R S : Ring) (h : Hom R S) (n : ℕ) (a : R.Carrier) → h.map (frob R n a) ≡ frob S n (h.map a)
unfolding frob
hom_frob R S h zero a = refl
hom_frob R S h (suc n) a = h.map-mul (frob R n a) (frob R n a) ∙ ap (λ x. S.mul x x) (hom_frob R S h n a)
