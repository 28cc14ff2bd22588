-- What the functions of this crate do to the elements of a list: f are those before, g those after.
use Rattle.std.specs.Prelude.{◌≡◌, Bool, not, List, ℕ, zero, suc, ◌+◌, ◌*◌, ◌≤◌, ◌<◌, length}
use Rattle.field.specs.Ring.{Ring}
use Rattle.field.specs.declared.Level.{Level}
use Rattle.field.specs.Level.{K}
use Rattle.field.specs.Word.{Words}
use Rattle.row.specs.Elements.{el}
use Rattle.row.specs.Polynomial.{sum, times, monomial}

-- a list of words became another as long, and P holds of their elements
pub record Step (l : Level) (xs ys : List ℕ) (P : (ℕ → (K l).Carrier) → (ℕ → (K l).Carrier) → Type 0) : Type 0 where
  pub same : length ys ≡ length xs
  pub words : Words l ys
  pub holds : P (el l xs) (el l ys)

-- x was put at i
pub record Put {C : Type 0} (f g : ℕ → C) (i : ℕ) (x : C) : Type 0 where
  pub here : g i ≡ x
  pub other : (j : ℕ) → (j ≡ i → ⊥) → g j ≡ f j

-- x was put at a and y at b
pub record PutTwo {C : Type 0} (f g : ℕ → C) (a : ℕ) (x : C) (b : ℕ) (y : C) : Type 0 where
  pub first : g a ≡ x
  pub second : g b ≡ y
  pub other : (j : ℕ) → (j ≡ a → ⊥) → (j ≡ b → ⊥) → g j ≡ f j

-- j is none of the n numbers from a on
abbrev pub Apart : ℕ → ℕ → ℕ → Type 0
Apart a n j = (k : ℕ) → k < n → j ≡ a + k → ⊥

module _ (R : Ring) where
  open R use {Carrier, zero as 𝟘, one as 𝟙, add as ◌⊕◌, mul as ◌⊗◌}

  infixl 60 ◌⊕◌
  infixl 70 ◌⊗◌
  -- the first s coefficients
  unfoldable pub cut : ℕ → (ℕ → Carrier) → ℕ → Carrier
  cut zero P k = 𝟘
  cut (suc s) P zero = P 0
  cut (suc s) P (suc k) = cut s (λ i. P (suc i)) k

  -- P had s coefficients, from a on: the first e coefficients of (b X + v) P, for b the complement of w, stand from a on,
  -- and those for b = w from b on
  pub record Factored (f g : ℕ → Carrier) (a b s : ℕ) (w : Bool) (v : Carrier) (e : ℕ) : Type 0 where
    pub low : (k : ℕ) → k < e → g (a + k) ≡ times R (not w) v (cut s (λ i. f (a + i))) k
    pub high : (k : ℕ) → k < e → g (b + k) ≡ times R w v (cut s (λ i. f (a + i))) k
    pub rest : (j : ℕ) → Apart a e j → Apart b e j → g j ≡ f j

  -- the same for the first p of h rows of n elements: the second product stands h rows on
  pub record Doubled (f g : ℕ → Carrier) (n h s : ℕ) (w : Bool) (v : Carrier) (p : ℕ) : Type 0 where
    pub low : (q : ℕ) → q < p → (k : ℕ) → k < s + 1 → g (n * q + k) ≡ times R (not w) v (cut s (λ i. f (n * q + i))) k
    pub high : (q : ℕ) → q < p → (k : ℕ) → k < s + 1 → g (n * (q + h) + k) ≡ times R w v (cut s (λ i. f (n * q + i))) k
    pub ahead : (q : ℕ) → p ≤ q → q < h → (k : ℕ) → k < n → g (n * q + k) ≡ f (n * q + k)

  -- of h elements the first p are multiplied by a, in their place, and by b, h places on
  pub record Twofold (f g : ℕ → Carrier) (h : ℕ) (a b : Carrier) (p : ℕ) : Type 0 where
    pub low : (q : ℕ) → q < p → g q ≡ a ⊗ f q
    pub high : (q : ℕ) → q < p → g (q + h) ≡ b ⊗ f q
    pub ahead : (q : ℕ) → p ≤ q → q < h → g q ≡ f q

  -- c is added to the first n elements
  pub record Added (f g : ℕ → Carrier) (c : ℕ → Carrier) (n : ℕ) : Type 0 where
    pub low : (k : ℕ) → k < n → g k ≡ f k ⊕ c k
    pub rest : (k : ℕ) → n ≤ k → g k ≡ f k

  -- c e is added to element k of row e, for the first n rows of s elements from a on
  pub record AddedDown (f g : ℕ → Carrier) (a s k : ℕ) (c : ℕ → Carrier) (n : ℕ) : Type 0 where
    pub place : (e : ℕ) → e < n → g (a + s * e + k) ≡ f (a + s * e + k) ⊕ c e
    pub rest : (j : ℕ) → ((e : ℕ) → e < n → j ≡ a + s * e + k → ⊥) → g j ≡ f j

  -- the share of a row: c j to the column j, of s elements, and to row e of H, whose entry is h e
  pub record Shared (f g : ℕ → Carrier) (n m s : ℕ) (c : ℕ → ℕ → Carrier) (x h : ℕ → Carrier) : Type 0 where
    pub column : (j : ℕ) → j < n → (k : ℕ) → k < s → g (s * j + k) ≡ f (s * j + k) ⊕ c j k
    pub check : (e : ℕ) → e < m → (k : ℕ) → k < s → g (s * n + s * e + k) ≡ f (s * n + s * e + k) ⊕ h e ⊗ sum R n (λ j. x j ⊗ c j k)

  -- p is added at X^d of each of n columns of s coefficients, and y e times p at that of check e, for m checks after them
  pub record Topped (f g : ℕ → Carrier) (n m s d : ℕ) (p : Carrier) (y : ℕ → Carrier) : Type 0 where
    pub column : (j : ℕ) → j < n → (k : ℕ) → k < s → g (s * j + k) ≡ f (s * j + k) ⊕ monomial R p d k
    pub check : (e : ℕ) → e < m → (k : ℕ) → k < s → g (s * n + s * e + k) ≡ f (s * n + s * e + k) ⊕ monomial R (y e ⊗ p) d k
