-- The constraints at X = 1 of a matrix that has one where position i is j, and zero elsewhere: all are zero exactly when the positions solve the key.
use mathlib.Core.Path.{◌≡◌, refl, sym, ◌∙◌, ap, ap₂}
use mathlib.Core.Bool.{Bool, true, false, not, cond}
use mathlib.Core.Logic.{◌↔◌}
use Prim.Native.Nat.{ℕ, zero, suc, ◌+◌, ◌<◌}
use native.Mathlib.Omega.{arith}
use lib.Dec.{ltb, eqb}
use borrow.Author.Tests.{lt-ltb, le-ltb}
use Rattle.field.specs.Ring.{Ring, Hom}
use Rattle.field.specs.RingLaws.{ring, zero-add, mul-zero, add-equal, hom_zero}
use Rattle.field.specs.Binary.{bit}
use Rattle.constraints.specs.Graded.{point}
use Rattle.field.specs.Sums.{summed, sigma}
use Rattle.field.specs.SumLaws.{summed_cong, map-summed}
use Rattle.constraints.specs.Digits.{Instance, column, x', row}
use Rattle.constraints.specs.Order.{Order, Solves}
use Rattle.lists.specs.Count.{count}
use Rattle.field.proofs.Bits.{bit-add}
use Rattle.constraints.proofs.Evaluation.{pow-one, power-point}
use Rattle.constraints.proofs.Count.{below_cases, parity, parity_pos, order, order_below}

module _ (K : Ring) where
  open K use {Carrier, zero as 𝟘, one as 𝟙, add as ◌⊕◌, mul as ◌⊗◌}

  infixl 60 ◌⊕◌
  infixl 70 ◌⊗◌
  -- a sum of bits is the parity of their count
  sigma-bits : (n : ℕ) (test : ℕ → Bool) → sigma K n (λ i. bit K (test i)) ≡ bit K (parity (count n test))
  unfolding summed count parity
  sigma-bits zero test = refl
  sigma-bits (suc n) test = ap (λ s. s ⊕ bit K (test n)) (sigma-bits n test) ∙ more (test n)
    where
      next : (c : ℕ) → parity (c + 1) ≡ not (parity c)
      next c = ap parity {x = c + 1} {y = suc c} (omega arith)

      more : (b : Bool) → bit K (parity (count n test)) ⊕ bit K b ≡ bit K (parity (count n test + cond b 1 0))
      more false = K.add-zero (bit K (parity (count n test))) ∙ ap (λ c. bit K (parity c)) {x = count n test} {y = count n test + 0} (omega arith)
      more true = K.add_comm (bit K (parity (count n test))) 𝟙 ∙ sym (bit-add K true (parity (count n test))) ∙ ap (bit K) (sym (next (count n test)))

  -- the summand that a names
  sigma-pick : (n a : ℕ) (c : ℕ → Carrier) → sigma K n (λ j. c j ⊗ bit K (eqb a j)) ≡ c a ⊗ bit K (ltb a n)
  unfolding summed
  sigma-pick zero a c = sym (mul-zero K (c a)) ∙ ap (λ b. c a ⊗ bit K b) (sym (le-ltb a 0 (omega arith)))
  sigma-pick (suc n) a c = ap (λ s. s ⊕ c n ⊗ bit K (eqb a n)) (sigma-pick n a c)
      ∙ below_cases a n (λ s l e. c a ⊗ bit K l ⊕ c n ⊗ bit K e ≡ c a ⊗ bit K s) (λ h. before (c a) (c n)) (λ h. here (c a) (c n) ∙ ap (λ k. c k ⊗ 𝟙) (sym h)) (λ h. none (c a) (c n))
    where
      before : (u v : Carrier) → u ⊗ 𝟙 ⊕ v ⊗ 𝟘 ≡ u ⊗ 𝟙
      before u v = simp ring

      here : (u v : Carrier) → u ⊗ 𝟘 ⊕ v ⊗ 𝟙 ≡ v ⊗ 𝟙
      here u v = simp ring

      none : (u v : Carrier) → u ⊗ 𝟘 ⊕ v ⊗ 𝟘 ≡ u ⊗ 𝟘
      none u v = simp ring

  -- a bit plus one is zero only where the bit is set
  bit-one : (𝟙 ≡ 𝟘 → ⊥) → (b : Bool) → bit K b ⊕ 𝟙 ≡ 𝟘 → b ≡ true
  bit-one h false e = absurd (h (sym (zero-add K 𝟙) ∙ e))
  bit-one h true e = refl

-- one where position i is j
abbrev pub picks : (K : Ring) → (ℕ → ℕ) → ℕ → ℕ → K.Carrier
picks K position i j = bit K (eqb (position i) j)

module _ {F K : Ring} (φ : Hom F K) (key : Instance F) (d : ℕ) (position : ℕ → ℕ) where
  open key use {n, m, H, x, y}
  open K use {Carrier, zero as 𝟘, one as 𝟙, add as ◌⊕◌, mul as ◌⊗◌}

  infixl 60 ◌⊕◌
  infixl 70 ◌⊗◌
  abbrev Columns : Type 0
  Columns = (j : ℕ) → j < n → column φ key (point K 𝟙) d (picks K position) j ≡ 𝟘

  abbrev Rows : Type 0
  Rows = (e : ℕ) → e < m → row φ key (point K 𝟙) d (picks K position) e ≡ 𝟘

  -- entry e of H times x in that order
  abbrev entry : ℕ → F.Carrier
  entry e = sigma F n (λ i. F.mul (H e i) (x (position i)))

  column-one : (j : ℕ) → column φ key (point K 𝟙) d (picks K position) j ≡ bit K (parity (count n (λ i. eqb (position i) j))) ⊕ 𝟙
  unfolding column
  column-one j = ap₂ ◌⊕◌ (sigma-bits K n (λ i. eqb (position i) j)) (power-point K 𝟙 d ∙ pow-one K d)

  products : Order n position → (e : ℕ) → sigma K n (λ i. φ.map (H e i) ⊗ sigma K n (λ j. φ.map (x j) ⊗ picks K position i j)) ≡ φ.map (entry e)
  products ord e = summed_cong 𝟘 ◌⊕◌ n _ _ (λ i l. ap (λ s. φ.map (H e i) ⊗ s) (named i l) ∙ sym (φ.map-mul (H e i) (x (position i))))
      ∙ sym (map-summed F.zero F.add 𝟘 ◌⊕◌ φ.map (hom_zero F K φ) φ.map-add n (λ i. F.mul (H e i) (x (position i))))
    where
      named : (i : ℕ) → i < n → sigma K n (λ j. φ.map (x j) ⊗ picks K position i j) ≡ φ.map (x (position i))
      named i l = sigma-pick K n (position i) (λ j. φ.map (x j)) ∙ ap (λ b. φ.map (x (position i)) ⊗ bit K b) (lt-ltb (position i) n (order_below position n ord i l)) ∙ K.mul-one (φ.map (x (position i)))

  row_one : Order n position → (e : ℕ) → row φ key (point K 𝟙) d (picks K position) e ≡ φ.map (entry e) ⊕ φ.map (y e)
  unfolding row x'
  row_one ord e = ap₂ ◌⊕◌ (products ord e) (ap (λ c. φ.map (y e) ⊗ c) (power-point K 𝟙 d ∙ pow-one K d) ∙ K.mul-one (φ.map (y e)))

  pub solving : (𝟙 ≡ 𝟘 → ⊥) → ((a b : F.Carrier) → φ.map a ≡ φ.map b → a ≡ b) → (Columns × Rows) ↔ (Order n position × Solves key position)
  unfolding parity
  solving distinct injective = (
    λ h. (ord h.0, λ e l. injective (entry e) (y e) (add-equal K (φ.map (entry e)) (φ.map (y e)) (sym (row_one (ord h.0) e) ∙ h.1 e l))),
    λ s. (λ j l. column-one j ∙ ap (λ c. bit K (parity c) ⊕ 𝟙) (s.0 j l) ∙ K.add_self 𝟙, λ e l. row_one s.0 e ∙ ap (λ c. φ.map c ⊕ φ.map (y e)) (s.1 e l) ∙ K.add_self (φ.map (y e))),
  )
    where
      ord : Columns → Order n position
      ord h = order position n (λ j l. parity_pos (count n (λ i. eqb (position i) j)) (bit-one K distinct (parity (count n (λ i. eqb (position i) j))) (sym (column-one j) ∙ h j l)))
