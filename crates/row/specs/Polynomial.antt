-- The polynomials and values of the specification over any ring. A polynomial is the function of its coefficients.
use Rattle.std.specs.Prelude.{Bool, not, ℕ, zero, suc, ◌-◌, ◌/◌, ◌%◌, ◌^◌}
use Rattle.field.specs.Ring.{Ring}
use Rattle.field.specs.Binary.{xor, bit}
use Rattle.field.specs.Word.{odd}

-- digit k of x, of d binary digits, highest first
unfoldable pub digit : ℕ → ℕ → ℕ → Bool
digit d x k = odd (x / 2 ^ (d - 1 - k) % 2)

-- the row's digit k exclusive-or the complement of digit k of the column j
abbrev pub chosen : (d : ℕ) (w : ℕ → Bool) (j k : ℕ) → Bool
chosen d w j k = xor (w k) (not (digit d j k))

module _ (R : Ring) where
  open R use {Carrier, zero as 𝟘, one as 𝟙, add as ◌⊕◌, mul as ◌⊗◌}

  infixl 60 ◌⊕◌
  infixl 70 ◌⊗◌
  -- c 0 + .. + c (n - 1)
  unfoldable pub sum : ℕ → (ℕ → Carrier) → Carrier
  sum zero c = 𝟘
  sum (suc n) c = sum n c ⊕ c n

  -- X P
  unfoldable pub up : (ℕ → Carrier) → ℕ → Carrier
  up P zero = 𝟘
  up P (suc k) = P k

  -- (b X + v) P
  unfoldable pub times : Bool → Carrier → (ℕ → Carrier) → ℕ → Carrier
  times b v P k = bit R b ⊗ up P k ⊕ v ⊗ P k

  -- 1
  unfoldable pub unit : ℕ → Carrier
  unit zero = 𝟙
  unit (suc k) = 𝟘

  -- y X^d
  unfoldable pub monomial : Carrier → ℕ → ℕ → Carrier
  monomial y zero zero = y
  monomial y zero (suc k) = 𝟘
  monomial y (suc d) zero = 𝟘
  monomial y (suc d) (suc k) = monomial y d k

  -- y^d
  unfoldable pub raise : Carrier → ℕ → Carrier
  raise y zero = 𝟙
  raise y (suc d) = y ⊗ raise y d

  -- the product of the factors of digits d - t to d - 1, for a row's digits w and offsets v and the column j
  unfoldable pub tail : (d : ℕ) (w : ℕ → Bool) (v : ℕ → Carrier) (j t : ℕ) → ℕ → Carrier
  tail d w v j zero = unit
  tail d w v j (suc t) = times (chosen d w j (d - 1 - t)) (v (d - 1 - t)) (tail d w v j t)

  -- z of a row and the column j: the product of its d factors
  unfoldable pub z : (d : ℕ) (w : ℕ → Bool) (v : ℕ → Carrier) (j : ℕ) → ℕ → Carrier
  z d w v j = tail d w v j d

  -- the same for the verifier: each factor is q plus the bit times Δ
  unfoldable pub end : (d : ℕ) (w : ℕ → Bool) (q : ℕ → Carrier) (Δ : Carrier) (j t : ℕ) → Carrier
  end d w q Δ j zero = 𝟙
  end d w q Δ j (suc t) = (q (d - 1 - t) ⊕ bit R (chosen d w j (d - 1 - t)) ⊗ Δ) ⊗ end d w q Δ j t

  unfoldable pub value : (d : ℕ) (w : ℕ → Bool) (q : ℕ → Carrier) (Δ : Carrier) (j : ℕ) → Carrier
  value d w q Δ j = end d w q Δ j d

  -- of n, d, the rows of H, x, y, the digits w and the offsets v: polynomial j, the sum of z(i,j) over all rows i, minus X^d;
  -- polynomial n + e, the sum over i of H(e,i) times x'(i), where x'(i) is the sum over j of x(j) times z(i,j), minus y(e) X^d
  module _ (n d : ℕ) (H : ℕ → ℕ → Carrier) (x y : ℕ → Carrier) (w : ℕ → ℕ → Bool) (v : ℕ → ℕ → Carrier) where
    unfoldable pub column : ℕ → ℕ → Carrier
    column j k = sum n (λ i. z d (w i) (v i) j k) ⊕ monomial 𝟙 d k

    unfoldable pub check : ℕ → ℕ → Carrier
    check e k = sum n (λ i. H e i ⊗ sum n (λ j. x j ⊗ z d (w i) (v i) j k)) ⊕ monomial (y e) d k

  -- the verifier's values, of the digits of t, of q and of Δ
  module _ (n d : ℕ) (H : ℕ → ℕ → Carrier) (x y : ℕ → Carrier) (t : ℕ → ℕ → Bool) (q : ℕ → ℕ → Carrier) (Δ : Carrier) where
    unfoldable pub column_value : ℕ → Carrier
    column_value j = sum n (λ i. value d (t i) (q i) Δ j) ⊕ raise Δ d

    unfoldable pub check_value : ℕ → Carrier
    check_value e = sum n (λ i. H e i ⊗ sum n (λ j. x j ⊗ value d (t i) (q i) Δ j)) ⊕ y e ⊗ raise Δ d
