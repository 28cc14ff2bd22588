-- Columns folded digit by digit.
use mathlib.Core.Path.{◌≡◌, refl, sym, ◌∙◌, ap, ap₂}
use mathlib.Core.Bool.{Bool, not}
use Prim.Native.Nat.{ℕ, zero, suc, ◌+◌, ◌-◌, ◌*◌, ◌^◌, ◌≤◌, ◌<◌}
use native.Mathlib.Nat.{mul-zero, add_comm, add-zero, zero-add}
use native.Mathlib.Numerals.{add-one}
use native.Mathlib.Omega.{arith}
use borrow.Author.Count.{below_more}
use Rattle.field.specs.Binary.{bit}
use Rattle.field.specs.Ring.{Ring}
use Rattle.field.specs.RingLaws.{ring}
use Rattle.row.specs.Polynomial.{chosen, sum, up, times, unit, tail, z}
use Rattle.row.specs.Step.{Put, cut}
use Rattle.row.proofs.NumberLaws.{cells, chosen-low, chosen-high, chosen-below, pow_double}
use Rattle.row.proofs.ProductLaws.{cut_low, cut_high, cut_ext, cut_cong, times-low, times-top, up_suc}
use Rattle.row.proofs.SumLaws.{sum_cong}
use Rattle.folding.specs.Steps.{joined, Joined, Halved}
use Rattle.folding.proofs.WeightLaws.{sum-add, sum_split}

module _ (R : Ring) where
  open R use {Carrier, zero as 𝟘, one as 𝟙, add as ◌⊕◌, mul as ◌⊗◌}

  infixl 60 ◌⊕◌
  infixl 70 ◌⊗◌
  -- what a coefficient takes from the ones below it
  abbrev pub carried : (w : Bool) (P Q : ℕ → Carrier) → ℕ → Carrier
  carried w P Q k = bit R (not w) ⊗ up R P k ⊕ bit R w ⊗ up R Q k

  pub carried_none : (w : Bool) (P Q : ℕ → Carrier) → carried w P Q 0 ≡ 𝟘
  unfolding up
  carried_none w P Q = simp ring

  pub carried_more : (w : Bool) (P Q : ℕ → Carrier) (k : ℕ) → bit R (not w) ⊗ P k ⊕ bit R w ⊗ Q k ≡ carried w P Q (k + 1)
  carried_more w P Q k = sym (ap₂ (λ x y. bit R (not w) ⊗ x ⊕ bit R w ⊗ y) (up_suc R P k) (up_suc R Q k))

  -- a coefficient below the last, and the last
  pub joined-low : (s : ℕ) (w : Bool) (v : Carrier) (P Q : ℕ → Carrier) (k : ℕ) → k < s → v ⊗ (P k ⊕ Q k) ⊕ carried w P Q k ≡ joined R s w v P Q k
  unfolding joined
  joined-low s w v P Q k h = parted v (P k) (Q k) (bit R (not w) ⊗ up R P k) (bit R w ⊗ up R Q k) ∙ ap₂ ◌⊕◌ (times-low R s (not w) v P k h) (times-low R s w v Q k h)
    where
      parted : (a p q b c : Carrier) → a ⊗ (p ⊕ q) ⊕ (b ⊕ c) ≡ a ⊗ p ⊕ b ⊕ (a ⊗ q ⊕ c)
      parted a p q b c = simp ring

  pub joined-top : (s : ℕ) (w : Bool) (v : Carrier) (P Q : ℕ → Carrier) → carried w P Q s ≡ joined R s w v P Q s
  unfolding joined
  joined-top s w v P Q = ap₂ ◌⊕◌ (last (not w) P) (last w Q)
    where
      zeroed : (x : Carrier) → x ≡ 𝟘 ⊕ x
      zeroed x = simp ring

      last : (b : Bool) (S : ℕ → Carrier) → bit R b ⊗ up R S s ≡ times R b v (cut R s S) s
      last b S = zeroed (bit R b ⊗ up R S s) ∙ times-top R s b v S

  pub joined-none : (f : ℕ → Carrier) (a b s : ℕ) (w : Bool) (v : Carrier) → Joined R f f a b s w v 0
  joined-none f a b s w v = record { low = λ k h. absurd (omega arith); rest = λ j h. refl }

  module _ (f : ℕ → Carrier) (a b s : ℕ) (w : Bool) (v : Carrier) (e : ℕ) (gap : a + s < b) (h : e ≤ s) where
    -- what is not reached
    pub joined-first : (g : ℕ → Carrier) → Joined R f g a b s w v e → g (a + e) ≡ f (a + e)
    joined-first g t = t.rest (a + e) (λ k l p. omega arith)

    pub joined-second : (g : ℕ → Carrier) → Joined R f g a b s w v e → g (b + e) ≡ f (b + e)
    joined-second g t = t.rest (b + e) (λ k l p. omega arith)

    pub joined_more : (g g₁ : ℕ → Carrier) (x : Carrier) → Joined R f g a b s w v e → Put g g₁ (a + e) x → x ≡ joined R s w v (λ i. f (a + i)) (λ i. f (b + i)) e → Joined R f g₁ a b s w v (e + 1)
    joined_more g g₁ x t p hx = record {
      low = below_more (λ k. g₁ (a + k) ≡ joined R s w v (λ i. f (a + i)) (λ i. f (b + i)) k) e (λ k l. p.other (a + k) (omega arith) ∙ t.low k l) (p.here ∙ hx);
      rest = λ j l. p.other j (l e (omega arith)) ∙ t.rest j (λ k n. l k (omega arith));
    }

  joined_cong : (s : ℕ) (w : Bool) (v : Carrier) (P P₁ Q Q₁ : ℕ → Carrier) → ((k : ℕ) → k < s → P k ≡ P₁ k) → ((k : ℕ) → k < s → Q k ≡ Q₁ k) → (k : ℕ) → joined R s w v P Q k ≡ joined R s w v P₁ Q₁ k
  unfolding joined
  joined_cong s w v P P₁ Q Q₁ h l k = ap₂ (λ A B. times R (not w) v A k ⊕ times R w v B k) (cut_cong R s P P₁ h) (cut_cong R s Q Q₁ l)

  pub halved_more : (f g g₁ : ℕ → Carrier) (n h s : ℕ) (w : Bool) (v : Carrier) (p : ℕ) → s < n → p < h
      → Halved R f g n h s w v p → Joined R g g₁ (n * p) (n * (p + h)) s w v (s + 1) → Halved R f g₁ n h s w v (p + 1)
  halved_more f g g₁ n h s w v p sn ph l t = record {
    low = below_more (λ q. (k : ℕ) → k < s + 1 → g₁ (n * q + k) ≡ joined R s w v (λ i. f (n * q + i)) (λ i. f (n * (q + h) + i)) k) p
        (λ q m k o. away q k (omega arith) (omega arith) ∙ l.low q m k o)
        (λ k o. t.low k o ∙ joined_cong s w v (λ i. g (n * p + i)) (λ i. f (n * p + i)) (λ i. g (n * (p + h) + i)) (λ i. f (n * (p + h) + i)) (λ i m. l.ahead p (omega arith) i (omega arith)) (λ i m. l.ahead (p + h) (omega arith) i (omega arith)) k);
    ahead = λ q m k o. away q k o (omega arith) ∙ l.ahead q (omega arith) k o;
  }
    where
      away : (q k : ℕ) → k < n → (q ≡ p → ⊥) → g₁ (n * q + k) ≡ g (n * q + k)
      away q k o c = t.rest (n * q + k) (λ i m e. cells n q k p i o (omega arith) c e)

  -- products with a factor of the first degree
  times-add : (b : Bool) (v : Carrier) (P Q : ℕ → Carrier) (k : ℕ) → times R b v (λ i. P i ⊕ Q i) k ≡ times R b v P k ⊕ times R b v Q k
  unfolding times up
  times-add b v P Q = λ k. at k
    where
      parted : (c x y p q : Carrier) → c ⊗ (x ⊕ y) ⊕ v ⊗ (p ⊕ q) ≡ c ⊗ x ⊕ v ⊗ p ⊕ (c ⊗ y ⊕ v ⊗ q)
      parted c x y p q = simp ring

      at : (k : ℕ) → times R b v (λ i. P i ⊕ Q i) k ≡ times R b v P k ⊕ times R b v Q k
      at zero = simp ring
      at (suc k) = parted (bit R b) (P k) (Q k) (P (suc k)) (Q (suc k))

  times-mul : (b : Bool) (v c : Carrier) (P : ℕ → Carrier) (k : ℕ) → times R b v (λ i. c ⊗ P i) k ≡ c ⊗ times R b v P k
  unfolding times up
  times-mul b v c P = λ k. at k
    where
      parted : (x p q : Carrier) → x ⊗ (c ⊗ p) ⊕ v ⊗ (c ⊗ q) ≡ c ⊗ (x ⊗ p ⊕ v ⊗ q)
      parted x p q = simp ring

      at : (k : ℕ) → times R b v (λ i. c ⊗ P i) k ≡ c ⊗ times R b v P k
      at zero = simp ring
      at (suc k) = parted (bit R b) (P k) (P (suc k))

  times_comm : (b : Bool) (v : Carrier) (c : Bool) (u : Carrier) (P : ℕ → Carrier) (k : ℕ) → times R b v (times R c u P) k ≡ times R c u (times R b v P) k
  unfolding times up
  times_comm b v c u P = λ k. at k
    where
      turned : (x y p q r : Carrier) → x ⊗ (y ⊗ p ⊕ u ⊗ q) ⊕ v ⊗ (y ⊗ q ⊕ u ⊗ r) ≡ y ⊗ (x ⊗ p ⊕ v ⊗ q) ⊕ u ⊗ (x ⊗ q ⊕ v ⊗ r)
      turned x y p q r = simp ring

      at : (k : ℕ) → times R b v (times R c u P) k ≡ times R c u (times R b v P) k
      at zero = simp ring
      at (suc zero) = turned (bit R b) (bit R c) 𝟘 (P 0) (P 1)
      at (suc (suc k)) = turned (bit R b) (bit R c) (P k) (P (suc k)) (P (suc (suc k)))

  times-high : (s : ℕ) (b : Bool) (v : Carrier) (P : ℕ → Carrier) (k : ℕ) → s < k → times R b v (cut R s P) k ≡ 𝟘
  unfolding times up
  times-high s b v P zero h = absurd (omega arith)
  times-high s b v P (suc k) h = ap₂ (λ x y. bit R b ⊗ x ⊕ v ⊗ y) (cut_high R s P k (omega arith)) (cut_high R s P (suc k) (omega arith)) ∙ simp ring

module _ (R : Ring) (d : ℕ) (w : ℕ → Bool) (v : ℕ → R.Carrier) where
  open R use {Carrier, zero as 𝟘, one as 𝟙, add as ◌⊕◌, mul as ◌⊗◌}

  infixl 60 ◌⊕◌
  infixl 70 ◌⊗◌
  -- P times the factors of digits d - t to d - 1, for the column j
  unfoldable pub multiplied : (j t : ℕ) (P : ℕ → Carrier) → ℕ → Carrier
  multiplied j zero P = P
  multiplied j (suc t) P = times R (chosen d w j (d - 1 - t)) (v (d - 1 - t)) (multiplied j t P)

  multiplied-add : (j t : ℕ) (P Q : ℕ → Carrier) → multiplied j t (λ i. P i ⊕ Q i) ≡ (λ k. multiplied j t P k ⊕ multiplied j t Q k)
  unfolding multiplied
  multiplied-add j zero P Q = refl
  multiplied-add j (suc t) P Q = ap (times R (chosen d w j (d - 1 - t)) (v (d - 1 - t))) (multiplied-add j t P Q) ∙ (λ i k. times-add R (chosen d w j (d - 1 - t)) (v (d - 1 - t)) (multiplied j t P) (multiplied j t Q) k i)

  multiplied-mul : (j t : ℕ) (c : Carrier) (P : ℕ → Carrier) → multiplied j t (λ i. c ⊗ P i) ≡ (λ k. c ⊗ multiplied j t P k)
  unfolding multiplied
  multiplied-mul j zero c P = refl
  multiplied-mul j (suc t) c P = ap (times R (chosen d w j (d - 1 - t)) (v (d - 1 - t))) (multiplied-mul j t c P) ∙ (λ i k. times-mul R (chosen d w j (d - 1 - t)) (v (d - 1 - t)) c (multiplied j t P) k i)

  -- one more factor, outside or inside
  multiplied-times : (j t : ℕ) (b : Bool) (u : Carrier) (P : ℕ → Carrier) → times R b u (multiplied j t P) ≡ multiplied j t (times R b u P)
  unfolding multiplied
  multiplied-times j zero b u P = refl
  multiplied-times j (suc t) b u P = (λ i k. times_comm R b u (chosen d w j (d - 1 - t)) (v (d - 1 - t)) (multiplied j t P) k i) ∙ ap (times R (chosen d w j (d - 1 - t)) (v (d - 1 - t))) (multiplied-times j t b u P)

  multiplied-below : (q t u : ℕ) (P : ℕ → Carrier) → t ≤ d → u ≤ t → multiplied (q + 2 ^ t) u P ≡ multiplied q u P
  unfolding multiplied
  multiplied-below q t zero P h l = refl
  multiplied-below q t (suc u) P h l = ap₂ (λ b S. times R b (v (d - 1 - u)) S) (chosen-below d q t u w h (omega arith)) (multiplied-below q t u P h (omega arith))

  multiplied-unit : (j t : ℕ) → multiplied j t (unit R) ≡ tail R d w v j t
  unfolding multiplied tail
  multiplied-unit j zero = refl
  multiplied-unit j (suc t) = ap (times R (chosen d w j (d - 1 - t)) (v (d - 1 - t))) (multiplied-unit j t)

  -- two columns that differ in the digit of 2^t
  pair : (q t : ℕ) (P Q : ℕ → Carrier) (k : ℕ) → t < d → q < 2 ^ t
      → multiplied q (suc t) P k ⊕ multiplied (q + 2 ^ t) (suc t) Q k ≡ multiplied q t (λ i. times R (not (w (d - 1 - t))) (v (d - 1 - t)) P i ⊕ times R (w (d - 1 - t)) (v (d - 1 - t)) Q i) k
  unfolding multiplied
  pair q t P Q k h l =
      ap₂ (λ A B. A k ⊕ B k)
      (ap (λ b. times R b u (multiplied q t P)) (sym (chosen-low d q t w h l)) ∙ multiplied-times q t (not (w (d - 1 - t))) u P)
      (ap₂ (λ b S. times R b u S) (sym (chosen-high d q t w h l)) (multiplied-below q t t Q (omega arith) (omega arith)) ∙ multiplied-times q t (w (d - 1 - t)) u Q)
      ∙ ap (λ S. S k) (sym (multiplied-add q t (times R (not (w (d - 1 - t))) u P) (times R (w (d - 1 - t)) u Q)))
    where
      u : Carrier
      u = v (d - 1 - t)

  -- the sum of 2^t columns, each times its last t factors, P of s coefficients in rows of n elements
  unfoldable pub folded : (n s : ℕ) (g : ℕ → Carrier) (t : ℕ) → ℕ → Carrier
  folded n s g t k = sum R (2 ^ t) (λ q. multiplied q t (cut R s (λ i. g (n * q + i))) k)

  pub folded_more : (n s : ℕ) (g g₁ : ℕ → Carrier) (t : ℕ) → t < d → s < n
      → Halved R g g₁ n (2 ^ t) s (w (d - 1 - t)) (v (d - 1 - t)) (2 ^ t) → (k : ℕ) → folded n s g (t + 1) k ≡ folded n (s + 1) g₁ t k
  unfolding folded joined
  folded_more n s g g₁ t h sn r k =
      ap (λ e. sum R (2 ^ e) (λ q. multiplied q e (P q) k)) (add-one t)
      ∙ ap (λ e. sum R e f) (ap (λ e. 2 ^ e) (sym (add-one t)) ∙ sym (pow_double t))
      ∙ sum_split R (2 ^ t) (2 ^ t) f
      ∙ sym (sum-add R (2 ^ t) f (λ q. f (2 ^ t + q)))
      ∙ sum_cong R (2 ^ t) (λ q. f q ⊕ f (2 ^ t + q)) (λ q. multiplied q t (cut R (s + 1) (λ i. g₁ (n * q + i))) k) (λ q l. ap (λ e. f q ⊕ f e) (add_comm (2 ^ t) q) ∙ pair q t (P q) (P (q + 2 ^ t)) k h l ∙ ap (λ S. multiplied q t S k) (sym (new q l)))
    where
      P : ℕ → ℕ → Carrier
      P q = cut R s (λ i. g (n * q + i))

      f : ℕ → Carrier
      f q = multiplied q (suc t) (P q) k

      new : (q : ℕ) → q < 2 ^ t → cut R (s + 1) (λ i. g₁ (n * q + i)) ≡ (λ i. times R (not (w (d - 1 - t))) (v (d - 1 - t)) (P q) i ⊕ times R (w (d - 1 - t)) (v (d - 1 - t)) (P (q + 2 ^ t)) i)
      new q l = cut_ext R (s + 1) (λ i. g₁ (n * q + i)) (λ i. times R (not (w (d - 1 - t))) (v (d - 1 - t)) (P q) i ⊕ times R (w (d - 1 - t)) (v (d - 1 - t)) (P (q + 2 ^ t)) i) (λ i m. r.low q l i m) (λ i m. ap₂ ◌⊕◌ (times-high R s (not (w (d - 1 - t))) (v (d - 1 - t)) (λ e. g (n * q + e)) i (omega arith)) (times-high R s (w (d - 1 - t)) (v (d - 1 - t)) (λ e. g (n * (q + 2 ^ t) + e)) i (omega arith)) ∙ R.add-zero 𝟘)

  -- before the first digit each column has one coefficient
  pub folded-none : (n : ℕ) (g : ℕ → Carrier) (k : ℕ) → folded n 1 g d k ≡ sum R (2 ^ d) (λ j. g (n * j) ⊗ z R d w v j k)
  unfolding folded z unit
  folded-none n g k = sum_cong R (2 ^ d) (λ j. multiplied j d (cut R 1 (λ i. g (n * j + i))) k) (λ j. g (n * j) ⊗ tail R d w v j d k) (λ j l. ap (λ P. multiplied j d P k) (one j) ∙ ap (λ P. P k) (multiplied-mul j d (g (n * j)) (unit R)) ∙ ap (λ P. g (n * j) ⊗ P k) (multiplied-unit j d))
    where
      one : (j : ℕ) → cut R 1 (λ i. g (n * j + i)) ≡ (λ i. g (n * j) ⊗ unit R i)
      one j = cut_ext R 1 (λ i. g (n * j + i)) (λ i. g (n * j) ⊗ unit R i) low high
        where
          low : (i : ℕ) → i < 1 → g (n * j + i) ≡ g (n * j) ⊗ unit R i
          low zero m = ap g (add-zero (n * j)) ∙ sym (R.mul-one (g (n * j)))
          low (suc i) m = absurd (omega arith)

          high : (i : ℕ) → 1 ≤ i → g (n * j) ⊗ unit R i ≡ 𝟘
          high zero m = absurd (omega arith)
          high (suc i) m = simp ring

  -- after the last digit one column is left
  pub folded-all : (n s : ℕ) (g : ℕ → Carrier) (k : ℕ) → k < s → folded n s g 0 k ≡ g k
  unfolding folded multiplied sum
  folded-all n s g k h = simp ring (cut_low R s (λ i. g (n * 0 + i)) k h ∙ ap (λ e. g (e + k)) (mul-zero n) ∙ ap g (zero-add k))
