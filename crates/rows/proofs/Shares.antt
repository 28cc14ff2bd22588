-- The shares of rows, added one after the other.
use mathlib.Core.Path.{◌≡◌, sym, ◌∙◌, ap}
use Prim.Native.Nat.{ℕ, ◌+◌, ◌*◌, ◌<◌}
use native.Mathlib.Nat.{mul-add}
use native.Mathlib.Omega.{arith}
use Rattle.field.specs.Ring.{Ring}
use Rattle.row.specs.Polynomial.{sum, monomial}
use Rattle.row.specs.Step.{Shared, Topped}
use Rattle.row.proofs.NumberLaws.{row-le}
use Rattle.row.proofs.SumLaws.{sum_more, sum_cong}

module _ (R : Ring) where
  open R use {Carrier, zero as 𝟘, one as 𝟙, add as ◌⊕◌, mul as ◌⊗◌}

  infixl 60 ◌⊕◌
  infixl 70 ◌⊗◌
  pub shared_same : (f g : ℕ → Carrier) (n m s : ℕ) (c e : ℕ → ℕ → Carrier) (x h : ℕ → Carrier) → ((j : ℕ) → j < n → (k : ℕ) → k < s → c j k ≡ e j k) → Shared R f g n m s c x h → Shared R f g n m s e x h
  shared_same f g n m s c e x h p r = record {
    column = λ j a k b. r.column j a k b ∙ ap (λ y. f (s * j + k) ⊕ y) (p j a k b);
    check = λ i a k b. r.check i a k b ∙ ap (λ y. f (s * n + s * i + k) ⊕ h i ⊗ y) (sum_cong R n (λ j. x j ⊗ c j k) (λ j. x j ⊗ e j k) (λ j l. ap (λ y. x j ⊗ y) (p j l k b)));
  }

  -- the sums of the shares of the first i rows
  module _ (n m s : ℕ) (c : ℕ → ℕ → ℕ → Carrier) (x : ℕ → Carrier) (h : ℕ → ℕ → Carrier) where
    pub record Rows (g : ℕ → Carrier) (i : ℕ) : Type 0 where
      pub column : (j : ℕ) → j < n → (k : ℕ) → k < s → g (s * j + k) ≡ sum R i (λ r. c r j k)
      pub check : (e : ℕ) → e < m → (k : ℕ) → k < s → g (s * n + s * e + k) ≡ sum R i (λ r. h e r ⊗ sum R n (λ j. x j ⊗ c r j k))

    pub rows_none : (g : ℕ → Carrier) → ((i : ℕ) → i < s * (n + m) → g i ≡ 𝟘) → Rows g 0
    unfolding sum
    rows_none g e = record { column = λ j a k b. e (s * j + k) (omega (arith, row-le s j n a, mul-add s n m)); check = λ i a k b. e (s * n + s * i + k) (omega (arith, row-le s i m a, mul-add s n m)) }

    pub rows_more : (g g₁ : ℕ → Carrier) (i : ℕ) → Rows g i → Shared R g g₁ n m s (c i) x (λ e. h e i) → Rows g₁ (i + 1)
    rows_more g g₁ i t r = record {
      column = λ j a k b. r.column j a k b ∙ ap (λ y. y ⊕ c i j k) (t.column j a k b) ∙ sum_more R i (λ q. c q j k);
      check = λ e a k b. r.check e a k b ∙ ap (λ y. y ⊕ h e i ⊗ sum R n (λ j. x j ⊗ c i j k)) (t.check e a k b) ∙ sum_more R i (λ q. h e q ⊗ sum R n (λ j. x j ⊗ c q j k));
    }

-- rows of one element
pub place_one : (j k : ℕ) → k < 1 → 1 * j + k ≡ j
place_one j k b = omega arith

module _ (R : Ring) where
  open R use {Carrier, zero as 𝟘, one as 𝟙, add as ◌⊕◌, mul as ◌⊗◌}

  infixl 60 ◌⊕◌
  infixl 70 ◌⊗◌
  module _ (f g : ℕ → Carrier) (n m : ℕ) (p : Carrier) (y : ℕ → Carrier) (t : Topped R f g n m 1 0 p y) where
    pub single-column : (j : ℕ) (c : Carrier) → j < n → f (1 * j + 0) ≡ c → g j ≡ c ⊕ p
    unfolding monomial
    single-column j c l h = ap g (sym (place_one j 0 (omega arith))) ∙ t.column j l 0 (omega arith) ∙ ap (λ z. z ⊕ p) h

    pub single-check : (e : ℕ) (c : Carrier) → e < m → f (1 * n + 1 * e + 0) ≡ c → g (n + e) ≡ c ⊕ y e ⊗ p
    unfolding monomial
    single-check e c l h = ap g place ∙ t.check e l 0 (omega arith) ∙ ap (λ z. z ⊕ y e ⊗ p) h
      where
        place : n + e ≡ 1 * n + 1 * e + 0
        place = omega arith
