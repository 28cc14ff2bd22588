-- The weighted sum of all polynomials or values, row by row.
use mathlib.Core.Path.{◌≡◌, refl, sym, ◌∙◌, ap, ap₂}
use mathlib.Core.Bool.{Bool}
use Prim.Native.Nat.{ℕ, zero, suc, ◌+◌, ◌-◌, ◌*◌, ◌≤◌, ◌<◌}
use native.Mathlib.Nat.{zero-add}
use native.Mathlib.Omega.{arith}
use native.Mathlib.Numerals.{unary_clauses}
use Rattle.field.specs.Ring.{Ring}
use Rattle.field.specs.RingLaws.{ring}
use Rattle.row.specs.Polynomial.{sum, monomial, z, column, check}
use Rattle.row.specs.Step.{Added}
use Rattle.row.proofs.SumLaws.{sum_more, sum_cong, monomial-other}
use Rattle.folding.specs.Weights.{weighted_sum, multiplier, leaf}
use Rattle.folding.specs.Steps.{Leaves}

module _ (R : Ring) where
  open R use {Carrier, zero as 𝟘, one as 𝟙, add as ◌⊕◌, mul as ◌⊗◌}

  infixl 60 ◌⊕◌
  infixl 70 ◌⊗◌
  pub sum-add : (n : ℕ) (f g : ℕ → Carrier) → sum R n (λ i. f i ⊕ g i) ≡ sum R n f ⊕ sum R n g
  unfolding sum
  sum-add zero f g = simp ring
  sum-add (suc n) f g = ap (λ s. s ⊕ (f n ⊕ g n)) (sum-add n f g) ∙ inner (sum R n f) (sum R n g) (f n) (g n)
    where
      inner : (a b c d : Carrier) → a ⊕ b ⊕ (c ⊕ d) ≡ a ⊕ c ⊕ (b ⊕ d)
      inner a b c d = simp ring

  pub sum-mul : (n : ℕ) (c : Carrier) (f : ℕ → Carrier) → c ⊗ sum R n f ≡ sum R n (λ i. c ⊗ f i)
  unfolding sum
  sum-mul zero c f = simp ring
  sum-mul (suc n) c f = R.mul-add c (sum R n f) (f n) ∙ ap (λ s. s ⊕ c ⊗ f n) (sum-mul n c f)

  pub sum-zero : (n : ℕ) (f : ℕ → Carrier) → ((i : ℕ) → i < n → f i ≡ 𝟘) → sum R n f ≡ 𝟘
  unfolding sum
  sum-zero zero f h = refl
  sum-zero (suc n) f h = ap₂ ◌⊕◌ (sum-zero n f (λ i l. h i (omega arith))) (h n (omega arith)) ∙ R.add-zero 𝟘

  -- the first a, and b more
  pub sum_split : (a b : ℕ) (f : ℕ → Carrier) → sum R (a + b) f ≡ sum R a f ⊕ sum R b (λ i. f (a + i))
  unfolding sum
  sum_split a zero f = simp unary_clauses (sym (R.add-zero (sum R a f)))
  sum_split a (suc b) f = simp unary_clauses (ap (λ s. s ⊕ f (a + b)) (sum_split a b f) ∙ R.add_assoc (sum R a f) (sum R b (λ i. f (a + i))) (f (a + b)))

  -- a sum of sums, the other first
  pub sum_swap : (n m : ℕ) (f : ℕ → ℕ → Carrier) → sum R n (λ i. sum R m (f i)) ≡ sum R m (λ j. sum R n (λ i. f i j))
  unfolding sum
  sum_swap zero m f = sym (sum-zero m (λ j. 𝟘) (λ j l. refl))
  sum_swap (suc n) m f = ap (λ s. s ⊕ sum R m (f n)) (sum_swap n m f) ∙ sym (sum-add m (λ j. sum R n (λ i. f i j)) (f n))

  module _ (n m : ℕ) (α x y : ℕ → Carrier) (H c : ℕ → ℕ → Carrier) (p : Carrier) where
    -- x'(i) and its weight
    abbrev mixed : ℕ → Carrier
    mixed i = sum R n (λ j. x j ⊗ c i j)

    abbrev β : ℕ → Carrier
    β = multiplier R n m H α

    columns : sum R n (λ j. α j ⊗ (sum R n (λ i. c i j) ⊕ p)) ≡ sum R n (λ i. sum R n (λ j. α j ⊗ c i j)) ⊕ sum R n α ⊗ p
    columns =
        sum_cong R n (λ j. α j ⊗ (sum R n (λ i. c i j) ⊕ p)) (λ j. sum R n (λ i. α j ⊗ c i j) ⊕ p ⊗ α j) (λ j l. R.mul-add (α j) (sum R n (λ i. c i j)) p ∙ ap₂ ◌⊕◌ (sum-mul n (α j) (λ i. c i j)) (R.mul_comm (α j) p))
        ∙ sum-add n (λ j. sum R n (λ i. α j ⊗ c i j)) (λ j. p ⊗ α j)
        ∙ ap₂ ◌⊕◌ (sum_swap n n (λ j i. α j ⊗ c i j)) (sym (sum-mul n p α) ∙ R.mul_comm p (sum R n α))

    products : sum R m (λ e. α (n + e) ⊗ sum R n (λ i. H e i ⊗ mixed i)) ≡ sum R n (λ i. β i ⊗ mixed i)
    unfolding multiplier
    products =
        sum_cong R m (λ e. α (n + e) ⊗ sum R n (λ i. H e i ⊗ mixed i)) (λ e. sum R n (λ i. mixed i ⊗ (H e i ⊗ α (n + e)))) (λ e l. sum-mul n (α (n + e)) (λ i. H e i ⊗ mixed i) ∙ sum_cong R n (λ i. α (n + e) ⊗ (H e i ⊗ mixed i)) (λ i. mixed i ⊗ (H e i ⊗ α (n + e))) (λ i o. turned (α (n + e)) (H e i) (mixed i)))
        ∙ sum_swap m n (λ e i. mixed i ⊗ (H e i ⊗ α (n + e)))
        ∙ sum_cong R n (λ i. sum R m (λ e. mixed i ⊗ (H e i ⊗ α (n + e)))) (λ i. β i ⊗ mixed i) (λ i l. sym (sum-mul m (mixed i) (λ e. H e i ⊗ α (n + e))) ∙ R.mul_comm (mixed i) (β i))
      where
        turned : (a b d : Carrier) → a ⊗ (b ⊗ d) ≡ d ⊗ (b ⊗ a)
        turned a b d = simp ring

    checks : sum R m (λ e. α (n + e) ⊗ (sum R n (λ i. H e i ⊗ mixed i) ⊕ y e ⊗ p)) ≡ sum R n (λ i. β i ⊗ mixed i) ⊕ sum R m (λ e. y e ⊗ α (n + e)) ⊗ p
    checks =
        sum_cong R m (λ e. α (n + e) ⊗ (sum R n (λ i. H e i ⊗ mixed i) ⊕ y e ⊗ p)) (λ e. α (n + e) ⊗ sum R n (λ i. H e i ⊗ mixed i) ⊕ p ⊗ (y e ⊗ α (n + e))) (λ e l. apart (α (n + e)) (sum R n (λ i. H e i ⊗ mixed i)) (y e) p)
        ∙ sum-add m (λ e. α (n + e) ⊗ sum R n (λ i. H e i ⊗ mixed i)) (λ e. p ⊗ (y e ⊗ α (n + e)))
        ∙ ap₂ ◌⊕◌ products (sym (sum-mul m p (λ e. y e ⊗ α (n + e))) ∙ R.mul_comm p (sum R m (λ e. y e ⊗ α (n + e))))
      where
        apart : (a b d q : Carrier) → a ⊗ (b ⊕ d ⊗ q) ≡ a ⊗ b ⊕ q ⊗ (d ⊗ a)
        apart a b d q = simp ring

    row : (i : ℕ) → sum R n (λ j. α j ⊗ c i j) ⊕ β i ⊗ mixed i ≡ sum R n (λ j. leaf R α x (β i) j ⊗ c i j)
    unfolding leaf
    row i = ap (λ s. sum R n (λ j. α j ⊗ c i j) ⊕ s) (sum-mul n (β i) (λ j. x j ⊗ c i j)) ∙ sym (sum-add n (λ j. α j ⊗ c i j) (λ j. β i ⊗ (x j ⊗ c i j))) ∙ sum_cong R n (λ j. α j ⊗ c i j ⊕ β i ⊗ (x j ⊗ c i j)) (λ j. (α j ⊕ x j ⊗ β i) ⊗ c i j) (λ j l. joined (α j) (c i j) (β i) (x j))
      where
        joined : (a d b e : Carrier) → a ⊗ d ⊕ b ⊗ (e ⊗ d) ≡ (a ⊕ e ⊗ b) ⊗ d
        joined a d b e = simp ring

    -- c i j is row i's share in column j; p is added to every column, and y e times p to check e
    pub weighted-rows : weighted_sum R n m α (λ j. sum R n (λ i. c i j) ⊕ p) (λ e. sum R n (λ i. H e i ⊗ sum R n (λ j. x j ⊗ c i j)) ⊕ y e ⊗ p)
        ≡ sum R n (λ i. sum R n (λ j. leaf R α x (multiplier R n m H α i) j ⊗ c i j)) ⊕ (sum R n α ⊕ sum R m (λ e. y e ⊗ α (n + e))) ⊗ p
    unfolding weighted_sum
    weighted-rows =
        ap₂ ◌⊕◌ columns checks
        ∙ turned (sum R n (λ i. sum R n (λ j. α j ⊗ c i j))) (sum R n α) (sum R n (λ i. β i ⊗ mixed i)) (sum R m (λ e. y e ⊗ α (n + e))) p
        ∙ ap (λ s. s ⊕ (sum R n α ⊕ sum R m (λ e. y e ⊗ α (n + e))) ⊗ p)
        (sym (sum-add n (λ i. sum R n (λ j. α j ⊗ c i j)) (λ i. β i ⊗ mixed i))
        ∙ sum_cong R n (λ i. sum R n (λ j. α j ⊗ c i j) ⊕ β i ⊗ mixed i) (λ i. sum R n (λ j. leaf R α x (β i) j ⊗ c i j)) (λ i l. row i))
      where
        turned : (a b d e q : Carrier) → a ⊕ b ⊗ q ⊕ (d ⊕ e ⊗ q) ≡ a ⊕ d ⊕ (b ⊕ e) ⊗ q
        turned a b d e q = simp ring

  -- what is added may be written in another way
  pub added_same : (f g c e : ℕ → Carrier) (n : ℕ) → ((k : ℕ) → k < n → c k ≡ e k) → Added R f g c n → Added R f g e n
  added_same f g c e n h a = record { low = λ k l. a.low k l ∙ ap (λ y. f k ⊕ y) (h k l); rest = a.rest }

  -- the columns from n on have no weight
  pub leaves_sum : (g : ℕ → Carrier) (stride count n : ℕ) (α x : ℕ → Carrier) (β : Carrier) (c : ℕ → Carrier) → n ≤ count → Leaves R g stride 0 count n α x β → sum R count (λ j. g (stride * j) ⊗ c j) ≡ sum R n (λ j. leaf R α x β j ⊗ c j)
  leaves_sum g stride count n α x β c h l =
      ap (λ e. sum R e (λ j. g (stride * j) ⊗ c j)) (sym back)
      ∙ sum_split n (count - n) (λ j. g (stride * j) ⊗ c j)
      ∙ ap₂ ◌⊕◌ (sum_cong R n (λ j. g (stride * j) ⊗ c j) (λ j. leaf R α x β j ⊗ c j) (λ j m. ap (λ y. y ⊗ c j) (l.inside j (omega arith) (omega arith) ∙ ap (leaf R α x β) (zero-add j)))) (sum-zero (count - n) (λ j. g (stride * (n + j)) ⊗ c (n + j)) (λ j m. ap (λ y. y ⊗ c (n + j)) (l.outside (n + j) (omega arith) (omega arith)) ∙ none (c (n + j))))
      ∙ R.add-zero (sum R n (λ j. leaf R α x β j ⊗ c j))
    where
      back : n + (count - n) ≡ count
      back = omega arith

      none : (y : Carrier) → 𝟘 ⊗ y ≡ 𝟘
      none y = simp ring

  -- the shares c of rows added one after the other
  module _ (f : ℕ → Carrier) (c : ℕ → ℕ → Carrier) (n : ℕ) where
    pub shares_none : Added R f f (λ k. sum R 0 (λ i. c i k)) n
    unfolding sum
    shares_none = record { low = λ k l. sym (R.add-zero (f k)); rest = λ k l. refl }

    pub shares_more : (g g₁ : ℕ → Carrier) (i : ℕ) → Added R f g (λ k. sum R i (λ r. c r k)) n → Added R g g₁ (c i) n → Added R f g₁ (λ k. sum R (i + 1) (λ r. c r k)) n
    shares_more g g₁ i a b = record {
      low = λ k l. b.low k l ∙ ap (λ y. y ⊕ c i k) (a.low k l) ∙ R.add_assoc (f k) (sum R i (λ r. c r k)) (c i k) ∙ ap (λ y. f k ⊕ y) (sum_more R i (λ r. c r k));
      rest = λ k l. b.rest k l ∙ a.rest k l;
    }

  -- a coefficient below X^d of the weighted sum of the polynomials, where β are the weights of all x': y has no part in it
  pub weighted-polynomials : (n m d : ℕ) (H : ℕ → ℕ → Carrier) (x y : ℕ → Carrier) (w : ℕ → ℕ → Bool) (v : ℕ → ℕ → Carrier) (α β : ℕ → Carrier) (k : ℕ) → k < d → ((i : ℕ) → i < n → β i ≡ multiplier R n m H α i)
      → sum R n (λ i. sum R n (λ j. leaf R α x (β i) j ⊗ z R d (w i) (v i) j k)) ≡ weighted_sum R n m α (λ j. column R n d H x y w v j k) (λ e. check R n d H x y w v e k)
  unfolding column check
  weighted-polynomials n m d H x y w v α β k h b =
      sum_cong R n (λ i. share i (β i)) (λ i. share i (multiplier R n m H α i)) (λ i l. ap (share i) (b i l))
      ∙ sym (none (sum R n (λ i. share i (multiplier R n m H α i))) (sum R n α ⊕ sum R m (λ e. y e ⊗ α (n + e))))
      ∙ sym (weighted-rows n m α x y H (λ i j. z R d (w i) (v i) j k) 𝟘)
      ∙ (λ t. weighted_sum R n m α (λ j. sum R n (λ i. z R d (w i) (v i) j k) ⊕ low 𝟙 t) (λ e. sum R n (λ i. H e i ⊗ sum R n (λ j. x j ⊗ z R d (w i) (v i) j k)) ⊕ (nil (y e) ∙ low (y e)) t))
    where
      share : ℕ → Carrier → Carrier
      share i a = sum R n (λ j. leaf R α x a j ⊗ z R d (w i) (v i) j k)

      low : (a : Carrier) → 𝟘 ≡ monomial R a d k
      low a = sym (monomial-other R a d k (λ e. omega arith))

      nil : (a : Carrier) → a ⊗ 𝟘 ≡ 𝟘
      nil a = simp ring

      none : (a b : Carrier) → a ⊕ b ⊗ 𝟘 ≡ a
      none a b = simp ring
