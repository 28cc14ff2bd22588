-- The product of a row's factors for every column, a factor at a time.
use mathlib.Core.Path.{◌≡◌, refl, sym, ◌∙◌, ap, ap₂}
use mathlib.Core.Bool.{Bool, not}
use Prim.Native.Nat.{ℕ, zero, suc, ◌+◌, ◌-◌, ◌*◌, ◌^◌, ◌≤◌, ◌<◌}
use native.Mathlib.Nat.{mul-zero}
use native.Mathlib.Numerals.{add-one}
use native.Mathlib.Omega.{arith}
use borrow.Author.Count.{below_more}
use Rattle.field.specs.Binary.{bit}
use Rattle.field.specs.Ring.{Ring}
use Rattle.field.specs.RingLaws.{ring}
use Rattle.row.specs.Polynomial.{chosen, up, times, unit, tail}
use Rattle.row.specs.Step.{PutTwo, cut, Factored, Doubled}
use Rattle.row.proofs.NumberLaws.{cells, chosen-low, chosen-high, chosen-below, halves}

module _ (R : Ring) where
  open R use {Carrier, zero as 𝟘, one as 𝟙, add as ◌⊕◌, mul as ◌⊗◌}

  infixl 60 ◌⊕◌
  infixl 70 ◌⊗◌
  pub cut_low : (s : ℕ) (P : ℕ → Carrier) (k : ℕ) → k < s → cut R s P k ≡ P k
  unfolding cut
  cut_low zero P k h = absurd (omega arith)
  cut_low (suc s) P zero h = refl
  cut_low (suc s) P (suc k) h = cut_low s (λ i. P (suc i)) k (omega arith)

  pub cut_high : (s : ℕ) (P : ℕ → Carrier) (k : ℕ) → s ≤ k → cut R s P k ≡ 𝟘
  unfolding cut
  cut_high zero P k h = refl
  cut_high (suc s) P zero h = absurd (omega arith)
  cut_high (suc s) P (suc k) h = cut_high s (λ i. P (suc i)) k (omega arith)

  cut-pick : (s : ℕ) (P Q : ℕ → Carrier) → ((k : ℕ) → k < s → P k ≡ Q k) → ((k : ℕ) → s ≤ k → Q k ≡ 𝟘) → (k : ℕ) → cut R s P k ≡ Q k
  unfolding cut
  cut-pick zero P Q h l k = sym (l k (omega arith))
  cut-pick (suc s) P Q h l zero = h 0 (omega arith)
  cut-pick (suc s) P Q h l (suc k) = cut-pick s (λ i. P (suc i)) (λ i. Q (suc i)) (λ i m. h (suc i) (omega arith)) (λ i m. l (suc i) (omega arith)) k

  pub cut_ext : (s : ℕ) (P Q : ℕ → Carrier) → ((k : ℕ) → k < s → P k ≡ Q k) → ((k : ℕ) → s ≤ k → Q k ≡ 𝟘) → cut R s P ≡ Q
  cut_ext s P Q h l = λ i k. cut-pick s P Q h l k i

  pub cut_cong : (s : ℕ) (P Q : ℕ → Carrier) → ((k : ℕ) → k < s → P k ≡ Q k) → cut R s P ≡ cut R s Q
  cut_cong s P Q h = cut_ext s P (cut R s Q) (λ k l. h k l ∙ sym (cut_low s Q k l)) (λ k l. cut_high s Q k l)

  up-cut : (s : ℕ) (P : ℕ → Carrier) (k : ℕ) → k ≤ s → up R (cut R s P) k ≡ up R P k
  unfolding up
  up-cut s P zero h = refl
  up-cut s P (suc k) h = cut_low s P k (omega arith)

  -- a coefficient of (b X + v) P below the last, and the last
  pub times-low : (s : ℕ) (b : Bool) (v : Carrier) (P : ℕ → Carrier) (k : ℕ) → k < s → v ⊗ P k ⊕ bit R b ⊗ up R P k ≡ times R b v (cut R s P) k
  unfolding times
  times-low s b v P k h = R.add_comm (v ⊗ P k) (bit R b ⊗ up R P k) ∙ sym (ap₂ (λ x y. bit R b ⊗ x ⊕ v ⊗ y) (up-cut s P k (omega arith)) (cut_low s P k h))

  pub times-top : (s : ℕ) (b : Bool) (v : Carrier) (P : ℕ → Carrier) → 𝟘 ⊕ bit R b ⊗ up R P s ≡ times R b v (cut R s P) s
  unfolding times
  times-top s b v P = step (bit R b ⊗ up R P s) ∙ sym (ap₂ (λ x y. bit R b ⊗ x ⊕ v ⊗ y) (up-cut s P s (omega arith)) (cut_high s P s (omega arith)))
    where
      step : (x : Carrier) → 𝟘 ⊕ x ≡ x ⊕ v ⊗ 𝟘
      step x = simp ring

  pub up_suc : (P : ℕ → Carrier) (e : ℕ) → up R P (e + 1) ≡ P e
  unfolding up
  up_suc P e = ap (up R P) (add-one e)

  pub up-zero : (P : ℕ → Carrier) → up R P 0 ≡ 𝟘
  unfolding up
  up-zero P = refl

  pub factored_none : (f : ℕ → Carrier) (a b s : ℕ) (w : Bool) (v : Carrier) → Factored R f f a b s w v 0
  factored_none f a b s w v = record { low = λ k h. absurd (omega arith); high = λ k h. absurd (omega arith); rest = λ j h l. refl }

  module _ (f : ℕ → Carrier) (a b s : ℕ) (w : Bool) (v : Carrier) (e : ℕ) (gap : a + s < b) (h : e ≤ s) where
    -- what is not reached
    pub factored_ahead : (g : ℕ → Carrier) → Factored R f g a b s w v e → g (a + e) ≡ f (a + e)
    factored_ahead g t = t.rest (a + e) (λ k l p. omega arith) (λ k l p. omega arith)

    pub factored_more : (g g₁ : ℕ → Carrier) (x y : Carrier) → Factored R f g a b s w v e → PutTwo g g₁ (a + e) x (b + e) y
        → x ≡ times R (not w) v (cut R s (λ i. f (a + i))) e → y ≡ times R w v (cut R s (λ i. f (a + i))) e → Factored R f g₁ a b s w v (e + 1)
    factored_more g g₁ x y t p hx hy = record {
      low = below_more (λ k. g₁ (a + k) ≡ times R (not w) v (cut R s (λ i. f (a + i))) k) e
          (λ k l. p.other (a + k) (omega arith) (omega arith) ∙ t.low k l) (p.first ∙ hx);
      high = below_more (λ k. g₁ (b + k) ≡ times R w v (cut R s (λ i. f (a + i))) k) e
          (λ k l. p.other (b + k) (omega arith) (omega arith) ∙ t.high k l) (p.second ∙ hy);
      rest = λ j l m. p.other j (l e (omega arith)) (m e (omega arith)) ∙ t.rest j (λ k n. l k (omega arith)) (λ k n. m k (omega arith));
    }

  pub doubled_more : (f g g₁ : ℕ → Carrier) (n h s : ℕ) (w : Bool) (v : Carrier) (p : ℕ) → s < n → p < h
      → Doubled R f g n h s w v p → Factored R g g₁ (n * p) (n * (p + h)) s w v (s + 1) → Doubled R f g₁ n h s w v (p + 1)
  doubled_more f g g₁ n h s w v p sn ph l t = record {
    low = below_more (λ q. (k : ℕ) → k < s + 1 → g₁ (n * q + k) ≡ times R (not w) v (cut R s (λ i. f (n * q + i))) k) p
        (λ q m k o. away q k (omega arith) (omega arith) (omega arith) ∙ l.low q m k o) (λ k o. t.low k o ∙ ap (λ x. times R (not w) v x k) row);
    high = below_more (λ q. (k : ℕ) → k < s + 1 → g₁ (n * (q + h) + k) ≡ times R w v (cut R s (λ i. f (n * q + i))) k) p
        (λ q m k o. away (q + h) k (omega arith) (omega arith) (omega arith) ∙ l.high q m k o) (λ k o. t.high k o ∙ ap (λ x. times R w v x k) row);
    ahead = λ q m o k r. away q k r (omega arith) (omega arith) ∙ l.ahead q (omega arith) o k r;
  }
    where
      away : (q k : ℕ) → k < n → (q ≡ p → ⊥) → (q ≡ p + h → ⊥) → g₁ (n * q + k) ≡ g (n * q + k)
      away q k o c d = t.rest (n * q + k) (λ i m e. cells n q k p i o (omega arith) c e) (λ i m e. cells n q k (p + h) i o (omega arith) d e)

      row : cut R s (λ i. g (n * p + i)) ≡ cut R s (λ i. f (n * p + i))
      row = cut_cong s (λ i. g (n * p + i)) (λ i. f (n * p + i)) (λ k m. l.ahead p (omega arith) ph k (omega arith))

  -- the product of t factors has degree at most t
  pub tail-high : (d : ℕ) (w : ℕ → Bool) (v : ℕ → Carrier) (j t k : ℕ) → t < k → tail R d w v j t k ≡ 𝟘
  unfolding tail unit times up
  tail-high d w v j zero zero h = absurd (omega arith)
  tail-high d w v j zero (suc k) h = refl
  tail-high d w v j (suc t) zero h = absurd (omega arith)
  tail-high d w v j (suc t) (suc k) h =
      ap₂ (λ x y. bit R (chosen d w j (d - 1 - t)) ⊗ x ⊕ v (d - 1 - t) ⊗ y) (tail-high d w v j t k (omega arith)) (tail-high d w v j t (suc k) (omega arith)) ∙ simp ring

module _ (R : Ring) (d : ℕ) (w : ℕ → Bool) (v : ℕ → R.Carrier) where
  tail-below : (q t u : ℕ) → t ≤ d → u ≤ t → tail R d w v (q + 2 ^ t) u ≡ tail R d w v q u
  unfolding tail
  tail-below q t zero h l = refl
  tail-below q t (suc u) h l = ap₂ (λ b P. times R b (v (d - 1 - u)) P) (chosen-below d q t u w h (omega arith)) (tail-below q t u h (omega arith))

  -- one more factor
  tail-low : (q t : ℕ) → t < d → q < 2 ^ t → times R (not (w (d - 1 - t))) (v (d - 1 - t)) (tail R d w v q t) ≡ tail R d w v q (t + 1)
  unfolding tail
  tail-low q t h l = ap (λ b. times R b (v (d - 1 - t)) (tail R d w v q t)) (chosen-low d q t w h l) ∙ ap (tail R d w v q) (sym (add-one t))

  tail-next : (q t : ℕ) → t < d → q < 2 ^ t → times R (w (d - 1 - t)) (v (d - 1 - t)) (tail R d w v q t) ≡ tail R d w v (q + 2 ^ t) (t + 1)
  unfolding tail
  tail-next q t h l = ap₂ (λ b P. times R b (v (d - 1 - t)) P) (chosen-high d q t w h l) (sym (tail-below q t t (omega arith) (omega arith))) ∙ ap (tail R d w v (q + 2 ^ t)) (sym (add-one t))

  -- the first 2^t rows of n elements hold the products of the last t factors
  abbrev pub Products : ℕ → (ℕ → R.Carrier) → ℕ → Type 0
  Products n g t = (q : ℕ) → q < 2 ^ t → (k : ℕ) → k < t + 1 → g (n * q + k) ≡ tail R d w v q t k

  pub products_none : (n : ℕ) (g : ℕ → R.Carrier) → g 0 ≡ R.one → Products n g 0
  unfolding tail unit
  products_none n g e zero m zero o = ap g (ap (λ i. i + 0) (mul-zero n)) ∙ e
  products_none n g e zero m (suc k) o = absurd (omega arith)
  products_none n g e (suc q) m k o = absurd (omega arith)

  pub products_more : (n : ℕ) (g g₁ : ℕ → R.Carrier) (t : ℕ) → t < d → Products n g t
      → Doubled R g g₁ n (2 ^ t) (t + 1) (w (d - 1 - t)) (v (d - 1 - t)) (2 ^ t) → Products n g₁ (t + 1)
  products_more n g g₁ t h i l = halves (λ q. (k : ℕ) → k < t + 1 + 1 → g₁ (n * q + k) ≡ tail R d w v q (t + 1) k) t
      (λ q a k o. l.low q a k o ∙ ap (λ P. times R (not (w (d - 1 - t))) (v (d - 1 - t)) P k) (row q a) ∙ ap (λ P. P k) (tail-low q t h a))
      (λ q a k o. l.high q a k o ∙ ap (λ P. times R (w (d - 1 - t)) (v (d - 1 - t)) P k) (row q a) ∙ ap (λ P. P k) (tail-next q t h a))
    where
      row : (r : ℕ) → r < 2 ^ t → cut R (t + 1) (λ e. g (n * r + e)) ≡ tail R d w v r t
      row r a = cut_ext R (t + 1) (λ e. g (n * r + e)) (tail R d w v r t) (i r a) (λ e b. tail-high R d w v r t e (omega arith))
