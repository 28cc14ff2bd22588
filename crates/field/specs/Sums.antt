-- Sums of any number of summands, and powers.
use Rattle.std.specs.Prelude.{ℕ, zero, suc}
use Rattle.field.specs.Ring.{Ring}

-- f 0 + f 1 + .. + f (n - 1), for a sum `plus` and `nil`, the sum of nothing
unfoldable pub summed : {A : Type 0} → A → (A → A → A) → (n : ℕ) → (ℕ → A) → A
summed nil plus zero f = nil
summed nil plus (suc n) f = plus (summed nil plus n f) (f n)

module _ (R : Ring) where
  open R use {Carrier, zero as 𝟘, one as 𝟙, add as ◌⊕◌, mul as ◌⊗◌}

  infixl 70 ◌⊗◌
  -- the sum of f i over i below n
  abbrev pub sigma : (n : ℕ) → (ℕ → Carrier) → Carrier
  sigma n f = summed 𝟘 ◌⊕◌ n f

  -- x^k
  unfoldable pub pow : Carrier → ℕ → Carrier
  pow x zero = 𝟙
  pow x (suc k) = x ⊗ pow x k
