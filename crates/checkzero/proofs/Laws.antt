-- Sums in a ring, elements to which they are added, and slices by their elements.
use mathlib.Core.Path.{◌≡◌, refl, sym, ◌∙◌, ap, ap₂, subst}
use mathlib.Core.Bool.{Bool, true, false, ◌&&◌, cond}
use mathlib.Core.List.{List}
use Prim.Native.Nat.{ℕ, suc, ◌+◌, ◌-◌, ◌*◌, ◌≤◌, ◌<◌}
use native.Mathlib.Decide.{ℕ_discrete}
use native.Mathlib.Numerals.{add-one}
use native.Mathlib.Omega.{arith}
use borrow.Author.Tests.{eq-eqb, ne_eqb}
use lib.Dec.{eqb}
use lib.ListN.{length}
use lib.Seq.{take_all}
use Rattle.lists.specs.Words.{part, concat}
use Rattle.lists.proofs.Concat.{concat_cong}
use Rattle.field.specs.Ring.{Ring}
use Rattle.field.specs.RingLaws.{ring}
use Rattle.field.specs.declared.Level.{Level}
use Rattle.field.specs.Level.{K}
use Rattle.field.specs.Word.{words, Words}
use Rattle.row.specs.Elements.{el}
use Rattle.row.specs.Polynomial.{sum}
use Rattle.row.specs.Step.{Put, Added}
use Rattle.row.proofs.SumLaws.{sum_cong}
use Rattle.row.proofs.ElementLaws.{part-words, fits_le, fits_all}
use Rattle.rows.proofs.BlockLaws.{concat_parts}
use Rattle.folding.specs.Weights.{weighted_sum}
use Rattle.folding.proofs.WeightLaws.{sum_split, added_same, shares_none, shares_more}
use Rattle.field.specs.Sums.{summed, sigma, pow}
use Rattle.constraints.specs.Slices.{element_at}
use Rattle.constraints.proofs.Link.{sum-sigma}
use Rattle.field.proofs.Sums.{sigma-mul, sigma-first}
use Rattle.checkzero.specs.CheckZero.{shifted, mask, mask_sum}
use Rattle.checkzero.specs.Slices.{every}

-- the two readings of an element of a slice
pub el-element : (l : Level) (s : List ℕ) → el l s ≡ element_at l s
unfolding el element_at
el-element l s = refl

pub every-none : (test : ℕ → Bool) → every 0 test ≡ true
unfolding every
every-none test = refl

pub every_more : (n : ℕ) (test : ℕ → Bool) → (every n test && test n) ≡ every (n + 1) test
unfolding every
every_more n test = ap (λ k. every k test) (sym (add-one n))

module _ (R : Ring) where
  open R use {Carrier, zero as 𝟘, one as 𝟙, add as ◌⊕◌, mul as ◌⊗◌}

  infixl 60 ◌⊕◌
  infixl 70 ◌⊗◌
  zero_left : (x : Carrier) → 𝟘 ⊕ x ≡ x
  zero_left x = simp ring

  pub sigma-none : (c : ℕ → Carrier) → sigma R 0 c ≡ 𝟘
  unfolding summed
  sigma-none c = refl

  pub sigma_more : (n : ℕ) (c : ℕ → Carrier) → sigma R n c ⊕ c n ≡ sigma R (n + 1) c
  unfolding summed
  sigma_more n c = ap (λ k. sigma R k c) (sym (add-one n))

  -- the polynomial of coefficients k to n - 1 of a, at Δ
  module _ (a : ℕ → Carrier) (Δ : Carrier) where
    abbrev pub above : ℕ → ℕ → Carrier
    above n k = sigma R (n - k) (λ i. a (k + i) ⊗ pow R Δ i)

    pub above-none : (n : ℕ) → above n n ≡ 𝟘
    unfolding summed
    above-none n = ap (λ m. sigma R m (λ i. a (n + i) ⊗ pow R Δ i)) none
      where
        none : n - n ≡ 0
        none = omega arith

    pub above_more : (n k j : ℕ) → k ≡ suc j → k ≤ n → a j ⊕ Δ ⊗ above n k ≡ above n j
    unfolding pow
    above_more n k j e l =
        ap (λ i. a j ⊕ Δ ⊗ above n i) e
        ∙ ap₂ ◌⊕◌ (sym (R.mul-one (a j)) ∙ ap (λ i. a i ⊗ 𝟙) start) (sigma-mul R (n - suc j) Δ (λ i. a (suc j + i) ⊗ pow R Δ i) ∙ ap (sigma R (n - suc j)) (λ t i. step i t))
        ∙ sym (sigma-first R (n - suc j) (λ i. a (j + i) ⊗ pow R Δ i)) ∙ ap (λ m. sigma R m (λ i. a (j + i) ⊗ pow R Δ i)) count
      where
        start : j ≡ j + 0
        start = omega arith

        count : suc (n - suc j) ≡ n - j
        count = omega arith

        next : (i : ℕ) → suc j + i ≡ j + suc i
        next i = omega arith

        inner : (x y z : Carrier) → x ⊗ (y ⊗ z) ≡ y ⊗ (x ⊗ z)
        inner x y z = simp ring

        step : (i : ℕ) → Δ ⊗ (a (suc j + i) ⊗ pow R Δ i) ≡ a (j + suc i) ⊗ (Δ ⊗ pow R Δ i)
        step i = inner Δ (a (suc j + i)) (pow R Δ i) ∙ ap (λ k. a k ⊗ (Δ ⊗ pow R Δ i)) (next i)

  -- the power and the mask sum, from one mask to the next
  module _ (Δ : Carrier) where
    pub pow-none : 𝟙 ≡ pow R Δ 0
    unfolding pow
    pow-none = refl

    pub pow_more : (k : ℕ) → pow R Δ k ⊗ Δ ≡ pow R Δ (k + 1)
    unfolding pow
    pow_more k = R.mul_comm (pow R Δ k) Δ ∙ ap (pow R Δ) (sym (add-one k))

    pub mask-sum-none : (numbers : ℕ → Carrier) → 𝟘 ≡ mask_sum R 0 Δ numbers
    unfolding mask_sum
    mask-sum-none numbers = sym (sigma-none (λ k. pow R Δ k ⊗ numbers k))

    pub mask-sum_more : (numbers : ℕ → Carrier) (k : ℕ) → mask_sum R k Δ numbers ⊕ pow R Δ k ⊗ numbers k ≡ mask_sum R (k + 1) Δ numbers
    unfolding mask_sum
    mask-sum_more numbers k = sigma_more k (λ k. pow R Δ k ⊗ numbers k)

  -- the sum of the c i of i below j is added
  module _ (f : ℕ → Carrier) (c : ℕ → ℕ → Carrier) (n : ℕ) where
    as_sum : (j k : ℕ) → sum R j (λ i. c i k) ≡ sigma R j (λ i. c i k)
    as_sum j k = sum-sigma R j (λ i. c i k)

    sums_none : Added R f f (λ k. sigma R 0 (λ i. c i k)) n
    sums_none = added_same R f f (λ k. sum R 0 (λ i. c i k)) (λ k. sigma R 0 (λ i. c i k)) n (λ k l. as_sum 0 k) (shares_none R f c n)

    sums_more : (g g₁ : ℕ → Carrier) (j : ℕ) → Added R f g (λ k. sigma R j (λ i. c i k)) n → Added R g g₁ (c j) n → Added R f g₁ (λ k. sigma R (j + 1) (λ i. c i k)) n
    sums_more g g₁ j t u = added_same R f g₁ (λ k. sum R (j + 1) (λ i. c i k)) (λ k. sigma R (j + 1) (λ i. c i k)) n (λ k l. as_sum (j + 1) k) (shares_more R f c n g g₁ j (added_same R f g (λ k. sigma R j (λ i. c i k)) (λ k. sum R j (λ i. c i k)) n (λ k l. sym (as_sum j k)) t) u)

  -- the columns and the checks are the first n and the next m of all results
  pub weighted-all : (n m : ℕ) (α column check c : ℕ → Carrier) → ((j : ℕ) → j < n → column j ≡ c j) → ((e : ℕ) → e < m → check e ≡ c (n + e)) → weighted_sum R n m α column check ≡ sigma R (n + m) (λ j. α j ⊗ c j)
  unfolding weighted_sum
  weighted-all n m α column check c h l =
      ap₂ ◌⊕◌ (sum_cong R n (λ j. α j ⊗ column j) (λ j. α j ⊗ c j) (λ j a. ap (λ y. α j ⊗ y) (h j a))) (sum_cong R m (λ e. α (n + e) ⊗ check e) (λ e. α (n + e) ⊗ c (n + e)) (λ e a. ap (λ y. α (n + e) ⊗ y) (l e a)))
      ∙ sym (sum_split R n m (λ j. α j ⊗ c j)) ∙ sum-sigma R (n + m) (λ j. α j ⊗ c j)

  -- r is added at k, then s at k + 1
  shifted_added : (f g h : ℕ → Carrier) (k n : ℕ) (r s : Carrier) → k + 1 < n → Put f g k (f k ⊕ r) → Put g h (k + 1) (g (k + 1) ⊕ s) → Added R f h (shifted R k s r) n
  unfolding shifted
  shifted_added f g h k n r s l p q = record { low = λ i m. pick i (ℕ_discrete i k) (ℕ_discrete i (suc k)); rest = λ i m. q.other i (omega arith) ∙ p.other i (omega arith) }
    where
      zeros : (x : Carrier) → x ≡ x ⊕ (𝟘 ⊕ 𝟘)
      zeros x = simp ring

      both : (i : ℕ) (a b : Bool) → eqb i k ≡ a → eqb i (suc k) ≡ b → h i ≡ f i ⊕ (cond a r 𝟘 ⊕ cond b s 𝟘) → h i ≡ f i ⊕ (cond (eqb i k) r 𝟘 ⊕ cond (eqb i (suc k)) s 𝟘)
      both i a b e d y = y ∙ sym (ap₂ (λ (x y : Bool). f i ⊕ (cond x r 𝟘 ⊕ cond y s 𝟘)) e d)

      first : (i : ℕ) → i ≡ k → h i ≡ f i ⊕ r
      first i e = q.other i (omega arith) ∙ subst (λ j. g j ≡ f j ⊕ r) (sym e) p.here

      second : (i : ℕ) → i ≡ k + 1 → h i ≡ f i ⊕ s
      second i e = subst (λ j. h j ≡ g j ⊕ s) (sym e) q.here ∙ ap (λ y. y ⊕ s) (p.other i (omega arith))

      pick : (i : ℕ) → Dec (i ≡ k) → Dec (i ≡ suc k) → h i ≡ f i ⊕ (cond (eqb i k) r 𝟘 ⊕ cond (eqb i (suc k)) s 𝟘)
      pick i (yes e) d = both i true false (eq-eqb i k e) (ne_eqb i (suc k) (λ x. omega arith)) (first i e ∙ ap (λ y. f i ⊕ y) (sym (R.add-zero r)))
      pick i (no e) (yes d) = both i false true (ne_eqb i k e) (eq-eqb i (suc k) d) (second i (omega arith) ∙ ap (λ y. f i ⊕ y) (sym (zero_left s)))
      pick i (no e) (no d) = both i false false (ne_eqb i k e) (ne_eqb i (suc k) d) (q.other i (omega arith) ∙ p.other i e ∙ zeros (f i))

  pub mask-none : (f r s : ℕ → Carrier) (n : ℕ) → Added R f f (mask R 0 r s) n
  unfolding mask
  mask-none f r s n = sums_none f (λ k i. shifted R k (s k) (r k) i) n

  pub mask_more : (f g g₁ h r s : ℕ → Carrier) (n k : ℕ) → k + 1 < n → Added R f g (mask R k r s) n → Put g g₁ k (g k ⊕ r k) → Put g₁ h (k + 1) (g₁ (k + 1) ⊕ s k) → Added R f h (mask R (k + 1) r s) n
  unfolding mask
  mask_more f g g₁ h r s n k l t p q = sums_more f (λ k i. shifted R k (s k) (r k) i) n g h k t (shifted_added g g₁ h k n (r k) (s k) l p q)

-- a slice by its n elements
pub written : (l : Level) (n : ℕ) (ys : List ℕ) (c : ℕ → (K l).Carrier) → Words l ys → 0 < l.coordinates → length ys ≡ l.coordinates * n → ((k : ℕ) → k < n → el l ys k ≡ c k) → ys ≡ concat n (λ k. words l (c k))
written l n ys c h pos size e =
    sym (take_all (l.coordinates * n) ys (omega arith)) ∙ concat_parts l.coordinates n ys
    ∙ concat_cong n (λ i. part (l.coordinates * i) l.coordinates ys) (λ k. words l (c k)) (λ i p. part-words l ys i h (fits_le l (i + 1) n (omega arith) refl (fits_all l n pos size)) ∙ ap (words l) (e i p))
