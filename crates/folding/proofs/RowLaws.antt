-- The columns of one row, weights times values, folded a digit at a time.
use mathlib.Core.Path.{◌≡◌, sym, ◌∙◌, ap, ap₂, subst, subst₂}
use mathlib.Core.Bool.{Bool, not}
use Prim.Native.Nat.{ℕ, zero, suc, ◌+◌, ◌-◌, ◌*◌, ◌^◌, ◌≤◌, ◌<◌}
use native.Mathlib.Decide.{dec_lt}
use native.Mathlib.Nat.{add_comm, pow-le-pow_right, one-mul, zero-mul}
use native.Mathlib.Numerals.{add-one}
use native.Mathlib.Omega.{arith}
use borrow.Author.Count.{below_more}
use Rattle.field.specs.Binary.{bit}
use Rattle.field.specs.Ring.{Ring}
use Rattle.field.specs.RingLaws.{ring}
use Rattle.field.specs.Word.{odd}
use Rattle.row.specs.Polynomial.{sum, end, value, raise, column_value, check_value}
use Rattle.row.specs.Step.{Put}
use Rattle.row.proofs.SumLaws.{sum_cong}
use Rattle.row.proofs.ValueLaws.{end_below}
use Rattle.row.proofs.NumberLaws.{pow_double, chosen-low, chosen-high}
use Rattle.folding.specs.Weights.{weighted_sum, multiplier, leaf}
use Rattle.folding.specs.Steps.{Leaves, Folded, row_total}
use Rattle.folding.proofs.WeightLaws.{sum-add, sum_split, leaves_sum, weighted-rows}

-- a digit times h
pub digit-le : (u h : ℕ) → u < 2 → u * h ≤ h
digit-le zero h l = omega (arith, zero-mul h)
digit-le (suc zero) h l = omega (arith, one-mul h)
digit-le (suc (suc u)) h l = absurd (omega arith)

-- the exponent of a power in range
pub exponent_lt : (d : ℕ) → 2 ^ d < 2 ^ 64 → d < 64
exponent_lt d h = pick (dec_lt d 64)
  where
    pick : Dec (d < 64) → d < 64
    pick (yes l) = l
    pick (no l) = let far : 64 ≤ d = omega arith in absurd (omega (arith, pow-le-pow_right {n = 2} (omega arith) far))

module _ (R : Ring) where
  open R use {Carrier, zero as 𝟘, one as 𝟙, add as ◌⊕◌, mul as ◌⊗◌}

  infixl 60 ◌⊕◌
  infixl 70 ◌⊗◌
  pub folded_more : (f g g₁ : ℕ → Carrier) (h : ℕ) (y : Carrier) (c : ℕ → Carrier) (p : ℕ) (v : Carrier) → Folded R f g h y c p → Put g g₁ p (y ⊗ (g p ⊕ g (p + h)) ⊕ v) → v ≡ c p → Folded R f g₁ h y c (p + 1)
  folded_more f g g₁ h y c p v t u e = record {
    low = below_more (λ r. g₁ r ≡ y ⊗ (f r ⊕ f (r + h)) ⊕ c r) p (λ r l. u.other r (omega arith) ∙ t.low r l) (u.here ∙ ap₂ ◌⊕◌ (ap₂ (λ a b. y ⊗ (a ⊕ b)) (t.ahead p (omega arith)) (t.ahead (p + h) (omega arith))) e);
    ahead = λ r l. u.other r (omega arith) ∙ t.ahead r (omega arith);
  }

  -- the weights of two columns times their factors of one digit u: the one that u names gets Δ
  two : (u h p : ℕ) → u < 2 → (f : ℕ → Carrier) (y Δ E : Carrier) → f p ⊗ ((y ⊕ bit R (not (odd u)) ⊗ Δ) ⊗ E) ⊕ f (p + h) ⊗ ((y ⊕ bit R (odd u) ⊗ Δ) ⊗ E) ≡ (y ⊗ (f p ⊕ f (p + h)) ⊕ Δ ⊗ f (p + u * h)) ⊗ E
  two zero h p l f y Δ E = inner (f p) (f (p + h)) ∙ ap (λ i. (y ⊗ (f p ⊕ f (p + h)) ⊕ Δ ⊗ f i) ⊗ E) place
    where
      inner : (a b : Carrier) → a ⊗ ((y ⊕ 𝟙 ⊗ Δ) ⊗ E) ⊕ b ⊗ ((y ⊕ 𝟘 ⊗ Δ) ⊗ E) ≡ (y ⊗ (a ⊕ b) ⊕ Δ ⊗ a) ⊗ E
      inner a b = simp ring

      place : p ≡ p + 0 * h
      place = omega (arith, zero-mul h)
  two (suc zero) h p l f y Δ E = inner (f p) (f (p + h)) ∙ ap (λ i. (y ⊗ (f p ⊕ f (p + h)) ⊕ Δ ⊗ f i) ⊗ E) place
    where
      inner : (a b : Carrier) → a ⊗ ((y ⊕ 𝟘 ⊗ Δ) ⊗ E) ⊕ b ⊗ ((y ⊕ 𝟙 ⊗ Δ) ⊗ E) ≡ (y ⊗ (a ⊕ b) ⊕ Δ ⊗ b) ⊗ E
      inner a b = simp ring

      place : p + h ≡ p + 1 * h
      place = omega (arith, one-mul h)
  two (suc (suc u)) h p l f y Δ E = absurd (omega arith)

  module _ (d : ℕ) (w : ℕ → Bool) (q : ℕ → Carrier) (Δ : Carrier) where
    end_low : (p t : ℕ) → t < d → p < 2 ^ t → end R d w q Δ p (t + 1) ≡ (q (d - 1 - t) ⊕ bit R (not (w (d - 1 - t))) ⊗ Δ) ⊗ end R d w q Δ p t
    unfolding end
    end_low p t h l = ap (end R d w q Δ p) (add-one t) ∙ ap (λ b. (q (d - 1 - t) ⊕ bit R b ⊗ Δ) ⊗ end R d w q Δ p t) (sym (chosen-low d p t w h l))

    end-high : (p t : ℕ) → t < d → p < 2 ^ t → end R d w q Δ (p + 2 ^ t) (t + 1) ≡ (q (d - 1 - t) ⊕ bit R (w (d - 1 - t)) ⊗ Δ) ⊗ end R d w q Δ p t
    unfolding end
    end-high p t h l = ap (end R d w q Δ (p + 2 ^ t)) (add-one t) ∙ ap₂ (λ b P. (q (d - 1 - t) ⊕ bit R b ⊗ Δ) ⊗ P) (sym (chosen-high d p t w h l)) (end_below R d w q Δ p t t (omega arith) (omega arith))

    pub total-none : (g : ℕ → Carrier) → row_total R d w q Δ g 0 ≡ g 0
    unfolding row_total sum end
    total-none g = inner (g 0)
      where
        inner : (a : Carrier) → 𝟘 ⊕ a ⊗ 𝟙 ≡ a
        inner a = simp ring

    -- one digit less
    total_fold : (t u : ℕ) → t < d → u < 2 → w (d - 1 - t) ≡ odd u → (f g c : ℕ → Carrier) → Folded R f g (2 ^ t) (q (d - 1 - t)) c (2 ^ t) → ((p : ℕ) → p < 2 ^ t → c p ≡ Δ ⊗ f (p + u * 2 ^ t)) → row_total R d w q Δ f (t + 1) ≡ row_total R d w q Δ g t
    unfolding row_total
    total_fold t u h l e f g c s o =
        ap (λ n. sum R n F) (sym (pow_double t)) ∙ sum_split R (2 ^ t) (2 ^ t) F ∙ sym (sum-add R (2 ^ t) F (λ p. F (2 ^ t + p)))
        ∙ sum_cong R (2 ^ t) (λ p. F p ⊕ F (2 ^ t + p)) (λ p. g p ⊗ end R d w q Δ p t) pair
      where
        F : ℕ → Carrier
        F p = f p ⊗ end R d w q Δ p (t + 1)

        y : Carrier
        y = q (d - 1 - t)

        pair : (p : ℕ) → p < 2 ^ t → F p ⊕ F (2 ^ t + p) ≡ g p ⊗ end R d w q Δ p t
        pair p m =
            ap₂ ◌⊕◌ (ap (λ x. f p ⊗ x) (end_low p t h m)) (ap F (add_comm (2 ^ t) p) ∙ ap (λ x. f (p + 2 ^ t) ⊗ x) (end-high p t h m))
            ∙ ap (λ b. f p ⊗ ((y ⊕ bit R (not b) ⊗ Δ) ⊗ end R d w q Δ p t) ⊕ f (p + 2 ^ t) ⊗ ((y ⊕ bit R b ⊗ Δ) ⊗ end R d w q Δ p t)) e
            ∙ two u (2 ^ t) p l f y Δ (end R d w q Δ p t)
            ∙ ap (λ x. x ⊗ end R d w q Δ p t) (ap (λ x. y ⊗ (f p ⊕ f (p + 2 ^ t)) ⊕ x) (sym (o p m)) ∙ sym (s.low p m))

    -- digit k is folded
    pub total-digit : (k u : ℕ) → k < d → u < 2 → w k ≡ odd u → (f g c : ℕ → Carrier) → Folded R f g (2 ^ (d - 1 - k)) (q k) c (2 ^ (d - 1 - k)) → ((p : ℕ) → p < 2 ^ (d - 1 - k) → c p ≡ Δ ⊗ f (p + u * 2 ^ (d - 1 - k))) → row_total R d w q Δ f (d - k) ≡ row_total R d w q Δ g (d - 1 - k)
    total-digit k u h l e f g c s o = subst (λ n. row_total R d w q Δ f n ≡ row_total R d w q Δ g (d - 1 - k)) more (total_fold (d - 1 - k) u (omega arith) l (ap w back ∙ e) f g c (subst (λ i. Folded R f g (2 ^ (d - 1 - k)) (q i) c (2 ^ (d - 1 - k))) (sym back) s) o)
      where
        more : d - 1 - k + 1 ≡ d - k
        more = omega arith

        back : d - 1 - (d - 1 - k) ≡ k
        back = omega arith

    -- the weights of all columns
    pub total_leaves : (n : ℕ) (α x : ℕ → Carrier) (β : Carrier) (g : ℕ → Carrier) → n ≤ 2 ^ d → Leaves R g 1 0 (2 ^ d) n α x β → row_total R d w q Δ g d ≡ sum R n (λ j. leaf R α x β j ⊗ value R d w q Δ j)
    unfolding row_total value
    total_leaves n α x β g h t = sum_cong R (2 ^ d) (λ j. g j ⊗ end R d w q Δ j d) (λ j. g (1 * j) ⊗ end R d w q Δ j d) (λ j l. ap (λ i. g i ⊗ end R d w q Δ j d) (sym (one-mul j))) ∙ leaves_sum R g 1 (2 ^ d) n α x β (λ j. end R d w q Δ j d) h t

  -- the columns from u h on, each weight times Δ
  module _ (h n u : ℕ) (α α₁ x : ℕ → Carrier) (β Δ : Carrier) (scaled : (j : ℕ) → j < n → α₁ j ≡ Δ ⊗ α j) where
    pub second_leaves : (f g : ℕ → Carrier) → u < 2 → Leaves R f 1 0 (h + h) n α x β → Leaves R g 1 (u * h) h n α₁ x (Δ ⊗ β) → (p : ℕ) → p < h → g p ≡ Δ ⊗ f (p + u * h)
    unfolding leaf
    second_leaves f g l s t p m = pick (dec_lt (u * h + p) n)
      where
        inner : (a b c : Carrier) → Δ ⊗ a ⊕ b ⊗ (Δ ⊗ c) ≡ Δ ⊗ (a ⊕ b ⊗ c)
        inner a b c = simp ring

        place : 1 * (p + u * h) ≡ p + u * h
        place = one-mul (p + u * h)

        below : p + u * h < h + h
        below = omega (arith, digit-le u h l)

        same : 0 + (p + u * h) ≡ u * h + p
        same = omega arith

        pick : Dec (u * h + p < n) → g p ≡ Δ ⊗ f (p + u * h)
        pick (yes o) =
            ap g (sym (one-mul p)) ∙ t.inside p m o ∙ ap (λ a. a ⊕ x (u * h + p) ⊗ (Δ ⊗ β)) (scaled (u * h + p) o) ∙ inner (α (u * h + p)) (x (u * h + p)) β
            ∙ ap (λ y. Δ ⊗ y) (sym (ap f (sym place) ∙ s.inside (p + u * h) below (omega arith) ∙ ap (λ i. α i ⊕ x i ⊗ β) same))
        pick (no o) = ap g (sym (one-mul p)) ∙ t.outside p m (omega arith) ∙ zeros ∙ ap (λ y. Δ ⊗ y) (sym (ap f (sym place) ∙ s.outside (p + u * h) below (omega arith)))
          where
            zeros : 𝟘 ≡ Δ ⊗ 𝟘
            zeros = simp ring

    -- the first digit of a row
    module _ (d : ℕ) (w : ℕ → Bool) (q : ℕ → Carrier) (y : Carrier) where
      pub total_first : (f g s : ℕ → Carrier) → 1 ≤ d → h ≡ 2 ^ (d - 1) → u < 2 → n ≤ 2 ^ d → w 0 ≡ odd u → q 0 ≡ y → Leaves R f 1 0 (h + h) n α x β → Leaves R s 1 (u * h) h n α₁ x (Δ ⊗ β) → Folded R f g h y s h → row_total R d w q Δ g (d - 1) ≡ sum R n (λ j. leaf R α x β j ⊗ value R d w q Δ j)
      total_first f g s pos half l few e v a b r =
          ap (row_total R d w q Δ g) none
          ∙ sym (total-digit d w q Δ 0 u (omega arith) l e f g s (subst₂ (λ i z. Folded R f g i z s i) there (sym v) r) (λ p m. second_leaves f s l a b p (subst (λ i. p < i) (sym there) m) ∙ ap (λ i. Δ ⊗ f (p + u * i)) there))
          ∙ ap (row_total R d w q Δ f) all ∙ total_leaves d w q Δ n α x β f few (subst (λ i. Leaves R f 1 0 i n α x β) whole a)
        where
          none : d - 1 ≡ d - 1 - 0
          none = omega arith

          all : d - 0 ≡ d
          all = omega arith

          there : h ≡ 2 ^ (d - 1 - 0)
          there = half ∙ ap (λ i. 2 ^ i) none

          more : d - 1 + 1 ≡ d
          more = omega arith

          whole : h + h ≡ 2 ^ d
          whole = ap (λ i. i + i) half ∙ pow_double (d - 1) ∙ ap (λ i. 2 ^ i) more

  -- the totals of all rows, Δ^d for each column and y(e) Δ^d for each check
  module _ (n m d : ℕ) (α x y : ℕ → Carrier) (H : ℕ → ℕ → Carrier) (t : ℕ → ℕ → Bool) (q : ℕ → ℕ → Carrier) (Δ : Carrier) where
    pub values-total : (β : ℕ → Carrier) → ((i : ℕ) → i < n → β i ≡ multiplier R n m H α i)
        → sum R n (λ i. sum R n (λ j. leaf R α x (β i) j ⊗ value R d (t i) (q i) Δ j)) ⊕ (sum R n α ⊕ sum R m (λ e. y e ⊗ α (n + e))) ⊗ raise R Δ d ≡ weighted_sum R n m α (column_value R n d H x y t q Δ) (check_value R n d H x y t q Δ)
    unfolding column_value check_value
    values-total β h =
        ap (λ s. s ⊕ (sum R n α ⊕ sum R m (λ e. y e ⊗ α (n + e))) ⊗ raise R Δ d) (sum_cong R n (λ i. share i (β i)) (λ i. share i (multiplier R n m H α i)) (λ i l. ap (share i) (h i l)))
        ∙ sym (weighted-rows R n m α x y H (λ i j. value R d (t i) (q i) Δ j) (raise R Δ d))
      where
        share : ℕ → Carrier → Carrier
        share i b = sum R n (λ j. leaf R α x b j ⊗ value R d (t i) (q i) Δ j)
