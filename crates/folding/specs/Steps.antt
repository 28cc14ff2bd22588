-- What the functions of this crate do to the elements of a list: f are those before, g those after.
use Rattle.std.specs.Prelude.{◌≡◌, Bool, not, ℕ, ◌+◌, ◌*◌, ◌^◌, ◌≤◌, ◌<◌}
use Rattle.field.specs.Ring.{Ring}
use Rattle.row.specs.Polynomial.{sum, times, end}
use Rattle.row.specs.Step.{cut, Apart}
use Rattle.folding.specs.Weights.{leaf}

module _ (R : Ring) where
  open R use {Carrier, zero as 𝟘, add as ◌⊕◌, mul as ◌⊗◌}

  infixl 60 ◌⊕◌
  infixl 70 ◌⊗◌
  -- the weights of the `count` columns from `from` on, n columns in all, stand `stride` elements apart
  pub record Leaves (g : ℕ → Carrier) (stride from count n : ℕ) (α x : ℕ → Carrier) (β : Carrier) : Type 0 where
    pub inside : (j : ℕ) → j < count → from + j < n → g (stride * j) ≡ leaf R α x β (from + j)
    pub outside : (j : ℕ) → j < count → n ≤ from + j → g (stride * j) ≡ 𝟘

  -- P times (b X + v), for b the complement of w, plus Q times (w X + v), P and Q of s coefficients
  unfoldable pub joined : (s : ℕ) (w : Bool) (v : Carrier) (P Q : ℕ → Carrier) → ℕ → Carrier
  joined s w v P Q k = times R (not w) v (cut R s P) k ⊕ times R w v (cut R s Q) k

  -- of the polynomials that stood from a and from b on, the first e coefficients of that sum stand from a on
  pub record Joined (f g : ℕ → Carrier) (a b s : ℕ) (w : Bool) (v : Carrier) (e : ℕ) : Type 0 where
    pub low : (k : ℕ) → k < e → g (a + k) ≡ joined s w v (λ i. f (a + i)) (λ i. f (b + i)) k
    pub rest : (j : ℕ) → Apart a e j → g j ≡ f j

  -- the same for the first p of h rows of n elements: the second polynomial stood h rows on
  pub record Halved (f g : ℕ → Carrier) (n h s : ℕ) (w : Bool) (v : Carrier) (p : ℕ) : Type 0 where
    pub low : (q : ℕ) → q < p → (k : ℕ) → k < s + 1 → g (n * q + k) ≡ joined s w v (λ i. f (n * q + i)) (λ i. f (n * (q + h) + i)) k
    pub ahead : (q : ℕ) → p ≤ q → (k : ℕ) → k < n → g (n * q + k) ≡ f (n * q + k)

  -- of h pairs of columns, h apart, the first p are folded: y times their sum, plus c
  pub record Folded (f g : ℕ → Carrier) (h : ℕ) (y : Carrier) (c : ℕ → Carrier) (p : ℕ) : Type 0 where
    pub low : (r : ℕ) → r < p → g r ≡ y ⊗ (f r ⊕ f (r + h)) ⊕ c r
    pub ahead : (r : ℕ) → p ≤ r → g r ≡ f r

  -- the 2^t columns that the last t digits tell apart: each one's weight times its product of factors
  unfoldable pub row_total : (d : ℕ) (w : ℕ → Bool) (q : ℕ → Carrier) (Δ : Carrier) (g : ℕ → Carrier) (t : ℕ) → Carrier
  row_total d w q Δ g t = sum R (2 ^ t) (λ p. g p ⊗ end R d w q Δ p t)
