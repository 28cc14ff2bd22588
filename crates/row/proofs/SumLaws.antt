-- Sums, and elements to which others are added.
use mathlib.Core.Path.{◌≡◌, refl, sym, ◌∙◌, ap, ap₂, subst}
use Prim.Native.Nat.{ℕ, zero, suc, ◌+◌, ◌*◌, ◌≤◌, ◌<◌}
use native.Mathlib.Decide.{ℕ_discrete}
use native.Mathlib.Nat.{zero-add}
use native.Mathlib.Numerals.{add-one}
use native.Mathlib.Omega.{arith}
use borrow.Author.Count.{below_more}
use Rattle.field.specs.Ring.{Ring}
use Rattle.row.specs.Polynomial.{sum, monomial}
use Rattle.row.specs.Step.{Put, Added, AddedDown, Shared, Topped}
use Rattle.row.proofs.NumberLaws.{row-le, cells}

module _ (R : Ring) where
  open R use {Carrier, zero as 𝟘, one as 𝟙, add as ◌⊕◌, mul as ◌⊗◌}

  infixl 60 ◌⊕◌
  infixl 70 ◌⊗◌
  pub sum-none : (c : ℕ → Carrier) → sum R 0 c ≡ 𝟘
  unfolding sum
  sum-none c = refl

  pub sum_more : (n : ℕ) (c : ℕ → Carrier) → sum R n c ⊕ c n ≡ sum R (n + 1) c
  unfolding sum
  sum_more n c = ap (λ k. sum R k c) (sym (add-one n))

  pub sum_cong : (n : ℕ) (c e : ℕ → Carrier) → ((i : ℕ) → i < n → c i ≡ e i) → sum R n c ≡ sum R n e
  unfolding sum
  sum_cong zero c e h = refl
  sum_cong (suc n) c e h = ap₂ ◌⊕◌ (sum_cong n c e (λ i l. h i (omega arith))) (h n (omega arith))

  module _ (f : ℕ → Carrier) (a s k : ℕ) (c : ℕ → Carrier) (h : k < s) where
    pub down_more : (g g₁ : ℕ → Carrier) (n : ℕ) (x : Carrier) → AddedDown R f g a s k c n → Put g g₁ (a + s * n + k) (g (a + s * n + k) ⊕ x) → x ≡ c n → AddedDown R f g₁ a s k c (n + 1)
    down_more g g₁ n x t p e = record {
      place = below_more (λ i. g₁ (a + s * i + k) ≡ f (a + s * i + k) ⊕ c i) n
          (λ i l. p.other (a + s * i + k) (λ q. apart i n (omega arith) q) ∙ t.place i l) (p.here ∙ ap₂ ◌⊕◌ (t.rest (a + s * n + k) (λ i l q. apart n i (omega arith) q)) e);
      rest = λ j l. p.other j (l n (omega arith)) ∙ t.rest j (λ i m. l i (omega arith));
    }
      where
        apart : (i j : ℕ) → (i ≡ j → ⊥) → a + s * i + k ≡ a + s * j + k → ⊥
        apart i j d q = cells s i k j k h h d (omega arith)

  -- the share of a row: the products b of all columns are added, then x' times the entries of H, a coefficient k at a time
  module _ (n m s : ℕ) (b x h : ℕ → Carrier) where
    -- x' has these coefficients
    abbrev pub mixed : ℕ → Carrier
    mixed k = sum R n (λ j. x j ⊗ b (s * j + k))

    -- the first t coefficients are added
    pub record Checked (f g : ℕ → Carrier) (t : ℕ) : Type 0 where
      pub columns : (j : ℕ) → j < s * n → g j ≡ f j
      pub done : (e : ℕ) → e < m → (k : ℕ) → k < t → g (s * n + s * e + k) ≡ f (s * n + s * e + k) ⊕ h e ⊗ mixed k
      pub ahead : (e : ℕ) → e < m → (k : ℕ) → t ≤ k → k < s → g (s * n + s * e + k) ≡ f (s * n + s * e + k)

    pub checked_more : (f g g₁ : ℕ → Carrier) (t : ℕ) → t < s → Checked f g t → AddedDown R g g₁ (s * n) s t (λ e. h e ⊗ mixed t) m → Checked f g₁ (t + 1)
    checked_more f g g₁ t ts c d = record {
      columns = λ j l. d.rest j (λ e p q. omega arith) ∙ c.columns j l;
      done = λ e l. below_more (λ k. g₁ (s * n + s * e + k) ≡ f (s * n + s * e + k) ⊕ h e ⊗ mixed k) t
          (λ k p. away e k (omega arith) (omega arith) ∙ c.done e l k p) (d.place e l ∙ ap (λ y. y ⊕ h e ⊗ mixed t) (c.ahead e l t (omega arith) ts));
      ahead = λ e l k p q. away e k q (omega arith) ∙ c.ahead e l k (omega arith) q;
    }
      where
        away : (e k : ℕ) → k < s → (k ≡ t → ⊥) → g₁ (s * n + s * e + k) ≡ g (s * n + s * e + k)
        away e k p q = d.rest (s * n + s * e + k) (λ i l r. pick i r (ℕ_discrete e i))
          where
            pick : (i : ℕ) → s * n + s * e + k ≡ s * n + s * i + t → Dec (e ≡ i) → ⊥
            pick i r (yes z) = q (omega (arith, ap (λ y. s * y) z))
            pick i r (no z) = cells s e k i t p ts z (omega arith)

    pub checked-all : (f f₁ g : ℕ → Carrier) → Added R f f₁ b (s * n) → Checked f₁ g s → Shared R f g n m s (λ j k. b (s * j + k)) x h
    checked-all f f₁ g a c = record {
      column = λ j l k p. let i : s * j + k < s * n = omega (arith, row-le s j n l) in c.columns (s * j + k) i ∙ a.low (s * j + k) i;
      check = λ e l k p. c.done e l k p ∙ ap (λ y. y ⊕ h e ⊗ mixed k) (a.rest (s * n + s * e + k) (omega arith));
    }

  -- y X^d has y at place d, and zero at every other
  pub monomial-same : (y : Carrier) (d : ℕ) → monomial R y d d ≡ y
  unfolding monomial
  monomial-same y zero = refl
  monomial-same y (suc d) = monomial-same y d

  pub monomial-other : (y : Carrier) (d k : ℕ) → (k ≡ d → ⊥) → monomial R y d k ≡ 𝟘
  unfolding monomial
  monomial-other y zero zero h = absurd (h refl)
  monomial-other y zero (suc k) h = refl
  monomial-other y (suc d) zero h = refl
  monomial-other y (suc d) (suc k) h = monomial-other y d k (λ e. h (ap suc e))

  -- c j added at place d of row j, of s elements from a on
  down_monomial : (f g : ℕ → Carrier) (a s d n : ℕ) (c : ℕ → Carrier) → d < s → AddedDown R f g a s d c n → (j : ℕ) → j < n → (k : ℕ) → k < s → g (a + s * j + k) ≡ f (a + s * j + k) ⊕ monomial R (c j) d k
  down_monomial f g a s d n c h t j l k b = pick (ℕ_discrete k d)
    where
      pick : Dec (k ≡ d) → g (a + s * j + k) ≡ f (a + s * j + k) ⊕ monomial R (c j) d k
      pick (yes e) = subst (λ i. g (a + s * j + i) ≡ f (a + s * j + i) ⊕ monomial R (c j) d i) (sym e) (t.place j l ∙ ap (λ z. f (a + s * j + d) ⊕ z) (sym (monomial-same (c j) d)))
      pick (no e) = t.rest (a + s * j + k) (λ i l p. away i p (ℕ_discrete j i)) ∙ sym (R.add-zero (f (a + s * j + k))) ∙ ap (λ z. f (a + s * j + k) ⊕ z) (sym (monomial-other (c j) d k e))
        where
          away : (i : ℕ) → a + s * j + k ≡ a + s * i + d → Dec (j ≡ i) → ⊥
          away i p (yes q) = e (omega (arith, ap (λ r. s * r) q))
          away i p (no q) = cells s j k i d b h q (omega arith)

  pub topped : (f f₁ g : ℕ → Carrier) (n m s d : ℕ) (p : Carrier) (y : ℕ → Carrier) → d < s → AddedDown R f f₁ 0 s d (λ j. p) n → AddedDown R f₁ g (s * n) s d (λ e. y e ⊗ p) m → Topped R f g n m s d p y
  topped f f₁ g n m s d p y h t u = record {
    column = λ j l k b. u.rest (s * j + k) (λ e i q. omega (arith, row-le s j n l)) ∙ subst (λ i. f₁ (i + k) ≡ f (i + k) ⊕ monomial R p d k) (zero-add (s * j)) (down_monomial f f₁ 0 s d n (λ j. p) h t j l k b);
    check = λ e l k b. down_monomial f₁ g (s * n) s d m (λ e. y e ⊗ p) h u e l k b ∙ ap (λ z. z ⊕ monomial R (y e ⊗ p) d k) (t.rest (s * n + s * e + k) (λ j i q. omega (arith, row-le s j n i)));
  }
