-- The weights of the rows and of their columns, one more at a time.
use mathlib.Core.Path.{◌≡◌, ◌∙◌}
use Prim.Native.Nat.{ℕ, ◌+◌, ◌*◌, ◌≤◌, ◌<◌}
use native.Mathlib.Omega.{arith}
use borrow.Author.Count.{below_more}
use Rattle.field.specs.Ring.{Ring}
use Rattle.row.specs.Step.{Put}
use Rattle.row.proofs.SumLaws.{sum-none, sum_more}
use Rattle.row.proofs.NumberLaws.{row-le}
use Rattle.folding.specs.Weights.{multiplier, leaf}
use Rattle.folding.specs.Steps.{Leaves}

module _ (R : Ring) where
  open R use {Carrier, zero as 𝟘, add as ◌⊕◌, mul as ◌⊗◌}

  infixl 60 ◌⊕◌
  infixl 70 ◌⊗◌
  pub multiplier-none : (n : ℕ) (H : ℕ → ℕ → Carrier) (α : ℕ → Carrier) (i : ℕ) → multiplier R n 0 H α i ≡ 𝟘
  unfolding multiplier
  multiplier-none n H α i = sum-none R (λ e. H e i ⊗ α (n + e))

  pub multiplier_more : (n e : ℕ) (H : ℕ → ℕ → Carrier) (α : ℕ → Carrier) (i : ℕ) → multiplier R n e H α i ⊕ H e i ⊗ α (n + e) ≡ multiplier R n (e + 1) H α i
  unfolding multiplier
  multiplier_more n e H α i = sum_more R e (λ k. H k i ⊗ α (n + k))

  module _ (stride from n : ℕ) (α x : ℕ → Carrier) (β : Carrier) where
    pub leaves_more : (g g₁ : ℕ → Carrier) (j : ℕ) (v : Carrier) → 0 < stride → Leaves R g stride from j n α x β → Put g g₁ (stride * j) v → (from + j < n → v ≡ leaf R α x β (from + j)) → (n ≤ from + j → v ≡ 𝟘) → Leaves R g₁ stride from (j + 1) n α x β
    leaves_more g g₁ j v h t p a b = record {
      inside = below_more (λ i. from + i < n → g₁ (stride * i) ≡ leaf R α x β (from + i)) j (λ i l m. away i l ∙ t.inside i l m) (λ m. p.here ∙ a m);
      outside = below_more (λ i. n ≤ from + i → g₁ (stride * i) ≡ 𝟘) j (λ i l m. away i l ∙ t.outside i l m) (λ m. p.here ∙ b m);
    }
      where
        away : (i : ℕ) → i < j → g₁ (stride * i) ≡ g (stride * i)
        away i l = p.other (stride * i) (λ e. omega (arith, row-le stride i j l))
