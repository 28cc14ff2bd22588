-- Weighted sums of the n + m polynomials or values: a reader of the entries need not believe this file.
use Rattle.std.specs.Prelude.{ℕ, ◌+◌}
use Rattle.field.specs.Ring.{Ring}
use Rattle.row.specs.Polynomial.{sum}

module _ (R : Ring) where
  open R use {Carrier, zero as 𝟘, add as ◌⊕◌, mul as ◌⊗◌}

  infixl 60 ◌⊕◌
  infixl 70 ◌⊗◌
  -- the sum of the n columns and the m checks, each times its weight
  unfoldable pub weighted_sum : (n m : ℕ) (α column check : ℕ → Carrier) → Carrier
  weighted_sum n m α column check = sum R n (λ j. α j ⊗ column j) ⊕ sum R m (λ e. α (n + e) ⊗ check e)

  -- the weight of x'(i): the sum over e of H(e,i) times weight n + e
  unfoldable pub multiplier : (n m : ℕ) (H : ℕ → ℕ → Carrier) (α : ℕ → Carrier) → ℕ → Carrier
  multiplier n m H α i = sum R m (λ e. H e i ⊗ α (n + e))

  -- the weight of column j in a row whose x' has weight β
  unfoldable pub leaf : (α x : ℕ → Carrier) (β : Carrier) → ℕ → Carrier
  leaf α x β j = α j ⊕ x j ⊗ β
