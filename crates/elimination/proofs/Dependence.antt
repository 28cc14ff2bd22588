-- The rank by elimination is below the number of rows exactly when the rows are dependent: over any ring whose elements have the inverses asked.
use mathlib.Core.Path.{◌≡◌, refl, sym, ◌∙◌, ap, ap₂, subst}
use mathlib.Core.Bool.{Bool, true, false, not, cond, ◌&&◌, ◌||◌, false≢true, true≢false}
use mathlib.Core.Logic.{◌↔◌, ◌⊎◌, inl, inr, ⊎_elim}
use Prim.Native.Nat.{ℕ, zero, suc, ◌<◌}
use native.Mathlib.Decide.{ℕ_discrete}
use native.Mathlib.Omega.{arith}
use lib.Dec.{eqb, ltb}
use borrow.Author.Tests.{ltb-true, ltb-false, eqb-true, eqb-false, le-ltb, eq-eqb, ne_eqb}
use Rattle.lists.specs.Count.{count}
use Rattle.lists.proofs.Count.{count-all}
use Rattle.field.specs.Ring.{Ring}
use Rattle.field.specs.RingLaws.{ring, mul-zero, zero-mul, zero-add, one-mul}
use Rattle.field.specs.Sums.{summed, sigma}
use Rattle.field.specs.SumLaws.{summed_cong}
use Rattle.field.proofs.Sums.{sigma-zero, sigma-add, sigma-mul}
use Rattle.elimination.specs.Elimination.{State, pivot, multiple, taken, column, after, rank}
use Rattle.elimination.specs.Rank.{Combines, Dependent}
use Rattle.elimination.proofs.First.{first-is, count-short}

bool? : (b : Bool) → (b ≡ true) ⊎ (b ≡ false)
bool? true = inl refl
bool? false = inr refl

module _ (R : Ring) where
  open R use {Carrier, zero as 𝟘, one as 𝟙, add as ◌⊕◌, mul as ◌⊗◌}

  infixl 60 ◌⊕◌
  infixl 70 ◌⊗◌
  -- only summand p is not zero
  sigma-only : (n p : ℕ) (f : ℕ → Carrier) → p < n → ((i : ℕ) → i < n → (i ≡ p → ⊥) → f i ≡ 𝟘) → sigma R n f ≡ f p
  unfolding summed
  sigma-only zero p f l h = absurd (omega arith)
  sigma-only (suc n) p f l h = go (ℕ_discrete n p) (sigma-only n p f)
    where
      go : Dec (n ≡ p) → (p < n → ((i : ℕ) → i < n → (i ≡ p → ⊥) → f i ≡ 𝟘) → sigma R n f ≡ f p) → sigma R n f ⊕ f n ≡ f p
      go (yes e) more = ap (λ s. s ⊕ f n) (sigma-zero R n f (λ i k. h i (omega arith) (λ q. omega arith))) ∙ zero-add R (f n) ∙ ap f e
      go (no e) more = ap₂ ◌⊕◌ (more (omega (arith, e)) (λ i k. h i (omega arith))) (h n (omega arith) e) ∙ R.add-zero (f p)

  -- x in place p, and zero elsewhere
  abbrev only : ℕ → Carrier → ℕ → Carrier
  only p x i = cond (eqb i p) x 𝟘

  only_sum : (m p : ℕ) (x : Carrier) (f : ℕ → Carrier) → p < m → sigma R m (λ i. only p x i ⊗ f i) ≡ x ⊗ f p
  only_sum m p x f l = sigma-only m p (λ i. only p x i ⊗ f i) l (λ i k e. ap (λ b. cond b x 𝟘 ⊗ f i) (ne_eqb i p e) ∙ zero-mul R (f i)) ∙ ap (λ b. cond b x 𝟘 ⊗ f p) (eq-eqb p p refl)

  -- multiples of row p added to other rows
  module _ (n m p : ℕ) (l : p < m) (t : ℕ → Carrier) (own : t p ≡ 𝟘) where
    abbrev shifted : (ℕ → ℕ → Carrier) → ℕ → ℕ → Carrier
    shifted h i j = h i j ⊕ t i ⊗ h p j

    shift_shift : (h : ℕ → ℕ → Carrier) → shifted (shifted h) ≡ h
    shift_shift h = λ e i j. (ap (λ u. h i j ⊕ t i ⊗ h p j ⊕ t i ⊗ (h p j ⊕ u ⊗ h p j)) own ∙ back (h i j) (t i) (h p j)) e
      where
        back : (x u y : Carrier) → x ⊕ u ⊗ y ⊕ u ⊗ (y ⊕ 𝟘 ⊗ y) ≡ x
        back x u y = simp ring

    unshift : (h : ℕ → ℕ → Carrier) → Dependent R n m (shifted h) → Dependent R n m h
    unshift h s = (b, λ z. s.1 (none z), λ j k. sum j ∙ s.2 j k)
      where
        a : ℕ → Carrier
        a = s.0

        S : Carrier
        S = sigma R m (λ k. t k ⊗ a k)

        b : ℕ → Carrier
        b i = a i ⊕ only p S i

        others : ((i : ℕ) → i < m → b i ≡ 𝟘) → (i : ℕ) → i < m → (i ≡ p → ⊥) → a i ≡ 𝟘
        others z i k e = sym (R.add-zero (a i)) ∙ ap (λ c. a i ⊕ cond c S 𝟘) (sym (ne_eqb i p e)) ∙ z i k

        flat : ((i : ℕ) → i < m → b i ≡ 𝟘) → S ≡ 𝟘
        flat z = sigma-only m p (λ k. t k ⊗ a k) l (λ i k e. ap (λ x. t i ⊗ x) (others z i k e) ∙ mul-zero R (t i)) ∙ ap (λ x. x ⊗ a p) own ∙ zero-mul R (a p)

        none : ((i : ℕ) → i < m → b i ≡ 𝟘) → (i : ℕ) → i < m → a i ≡ 𝟘
        none z i k = go (ℕ_discrete i p)
          where
            go : Dec (i ≡ p) → a i ≡ 𝟘
            go (yes e) = sym (R.add-zero (a i)) ∙ ap₂ (λ c x. a i ⊕ cond c x 𝟘) (sym (eq-eqb i p e)) (sym (flat z)) ∙ z i k
            go (no e) = others z i k e

        spread : (x y u v : Carrier) → x ⊗ (y ⊕ u ⊗ v) ≡ x ⊗ y ⊕ v ⊗ (u ⊗ x)
        spread x y u v = simp ring

        apart : (x y z : Carrier) → (x ⊕ y) ⊗ z ≡ x ⊗ z ⊕ y ⊗ z
        apart x y z = simp ring

        sum : (j : ℕ) → sigma R m (λ i. b i ⊗ h i j) ≡ sigma R m (λ i. a i ⊗ shifted h i j)
        sum j = ap (sigma R m) (λ e i. apart (a i) (only p S i) (h i j) e) ∙ sigma-add R m (λ i. a i ⊗ h i j) (λ i. only p S i ⊗ h i j)
            ∙ ap (λ x. sigma R m (λ i. a i ⊗ h i j) ⊕ x) (only_sum m p S (λ i. h i j) l ∙ R.mul_comm S (h p j) ∙ sigma-mul R m (h p j) (λ i. t i ⊗ a i))
            ∙ sym (sigma-add R m (λ i. a i ⊗ h i j) (λ i. h p j ⊗ (t i ⊗ a i))) ∙ ap (sigma R m) (λ e i. sym (spread (a i) (h i j) (t i) (h p j)) e)

    pub shift_dependent : (h : ℕ → ℕ → Carrier) → Dependent R n m (shifted h) ↔ Dependent R n m h
    shift_dependent h = (unshift h, λ s. unshift (shifted h) (subst (Dependent R n m) (sym (shift_shift h)) s))

-- what is asked of the ring: only zero is taken for zero, and all others have their inverse
pub record Inverting (R : Ring) (is_zero : R.Carrier → Bool) (inverse : R.Carrier → R.Carrier) : Type 0 where
  pub distinct : R.one ≡ R.zero → ⊥
  pub null : (a : R.Carrier) → is_zero a ≡ true → a ≡ R.zero
  pub inverts : (a : R.Carrier) → is_zero a ≡ false → R.mul a (inverse a) ≡ R.one

module _ (R : Ring) (is_zero : R.Carrier → Bool) (inverse : R.Carrier → R.Carrier) (I : Inverting R is_zero inverse) (n m : ℕ) where
  open R use {Carrier, zero as 𝟘, one as 𝟙, add as ◌⊕◌, mul as ◌⊗◌}

  infixl 60 ◌⊕◌
  infixl 70 ◌⊗◌
  -- after c columns: the unused rows are zero there, and only coefficients that are zero at the used rows combine the rows to zero there
  pub record Good (c : ℕ) (s : State R) : Type 0 where
    pub clean : (i : ℕ) → i < m → s.used i ≡ false → (j : ℕ) → j < c → s.entry i j ≡ 𝟘
    pub free : (a : ℕ → Carrier) → Combines R c m s.entry a → (i : ℕ) → i < m → s.used i ≡ true → a i ≡ 𝟘

  module _ (c : ℕ) (s : State R) (g : Good c s) where
    abbrev p : ℕ
    p = pivot R is_zero inverse m s c

    abbrev test : ℕ → Bool
    test i = not (s.used i) && not (is_zero (s.entry i c))

    open_cases : (u v : Bool) → (not u && not v) ≡ true → (u ≡ false) × (v ≡ false)
    open_cases true v e = absurd (false≢true e)
    open_cases false false e = (refl, refl)
    open_cases false true e = absurd (false≢true e)

    closed : (v : Bool) → not v ≡ false → v ≡ true
    closed true e = refl
    closed false e = absurd (true≢false e)

    or_cases : (u v : Bool) → (u || v) ≡ true → (u ≡ true) ⊎ (v ≡ true)
    or_cases true v e = inl refl
    or_cases false v e = inr e

    neither : (u v : Bool) → (u || v) ≡ false → (u ≡ false) × (v ≡ false)
    neither true v e = absurd (true≢false e)
    neither false v e = (refl, e)

    -- unused rows before the one taken are zero in column c
    before : (i : ℕ) → i < p → s.used i ≡ false → s.entry i c ≡ 𝟘
    unfolding pivot
    before i l u = I.null (s.entry i c) (closed (is_zero (s.entry i c)) (sym (ap (λ b. not b && not (is_zero (s.entry i c))) u) ∙ (first-is m test).before i l))

    none : (p < m → ⊥) → Good (suc c) s
    unfolding pivot
    none h = record { clean = λ i l u j k. go i l u j k (ℕ_discrete j c); free = λ a z. g.free a (λ j k. z j (omega arith)) }
      where
        go : (i : ℕ) → i < m → s.used i ≡ false → (j : ℕ) → j < suc c → Dec (j ≡ c) → s.entry i j ≡ 𝟘
        go i l u j k (yes e) = ap (s.entry i) e ∙ before i (omega (arith, h, (first-is m test).within)) u
        go i l u j k (no e) = g.clean i l u j (omega (arith, e))

    module _ (l : p < m) where
      abbrev t : ℕ → Carrier
      t = multiple R is_zero inverse m s p c

      abbrev h' : ℕ → ℕ → Carrier
      h' = (taken R is_zero inverse m s p c).entry

      found : (s.used p ≡ false) × (is_zero (s.entry p c) ≡ false)
      unfolding pivot
      found = open_cases (s.used p) (is_zero (s.entry p c)) ((first-is m test).passes l)

      own : t p ≡ 𝟘
      own = ap (λ b. cond (b && not (s.used p)) (s.entry p c ⊗ inverse (s.entry p c)) 𝟘) (le-ltb p p (omega arith))

      old : (i j : ℕ) → j < c → h' i j ≡ s.entry i j
      old i j k = ap (λ x. s.entry i j ⊕ t i ⊗ x) (g.clean p l found.0 j k) ∙ same (s.entry i j) (t i)
        where
          same : (x u : Carrier) → x ⊕ u ⊗ 𝟘 ≡ x
          same x u = simp ring

      here : h' p c ≡ s.entry p c
      here = ap (λ u. s.entry p c ⊕ u ⊗ s.entry p c) own ∙ same (s.entry p c)
        where
          same : (x : Carrier) → x ⊕ 𝟘 ⊗ x ≡ x
          same x = simp ring

      gone : (i : ℕ) → s.used i ≡ false → (i ≡ p → ⊥) → h' i c ≡ 𝟘
      gone i u e = go (ltb p i) refl
        where
          x : Carrier
          x = s.entry i c

          y : Carrier
          y = s.entry p c

          away : (x y v : Carrier) → y ⊗ v ≡ 𝟙 → x ⊕ x ⊗ v ⊗ y ≡ 𝟘
          away x y v q = ap (λ z. x ⊕ z) (R.mul_assoc x v y ∙ ap (λ z. x ⊗ z) (R.mul_comm v y ∙ q) ∙ R.mul-one x) ∙ R.add_self x

          stays : x ≡ 𝟘 → x ⊕ 𝟘 ⊗ y ≡ 𝟘
          stays q = ap (λ z. x ⊕ z) (zero-mul R y) ∙ R.add-zero x ∙ q

          go : (b : Bool) → ltb p i ≡ b → h' i c ≡ 𝟘
          go true q = ap₂ (λ d f. x ⊕ cond (d && not f) (x ⊗ inverse y) 𝟘 ⊗ y) q u ∙ away x y (inverse y) (I.inverts y found.1)
          go false q = ap (λ d. x ⊕ cond (d && not (s.used i)) (x ⊗ inverse y) 𝟘 ⊗ y) q ∙ stays (before i (omega (arith, ltb-false p i q, e)) u)

      module _ (a : ℕ → Carrier) (z : Combines R (suc c) m h' a) where
        earlier : (i : ℕ) → i < m → s.used i ≡ true → a i ≡ 𝟘
        earlier = g.free a (λ j k. summed_cong 𝟘 ◌⊕◌ m (λ i. a i ⊗ s.entry i j) (λ i. a i ⊗ h' i j) (λ i q. ap (λ x. a i ⊗ x) (sym (old i j k))) ∙ z j (omega arith))

        last : a p ≡ 𝟘
        last = sym (R.mul-one (a p)) ∙ ap (λ x. a p ⊗ x) (sym (I.inverts y found.1)) ∙ sym (R.mul_assoc (a p) y (inverse y)) ∙ ap (λ x. x ⊗ inverse y) (ap (λ x. a p ⊗ x) (sym here) ∙ sym column-c ∙ z c (omega arith)) ∙ zero-mul R (inverse y)
          where
            y : Carrier
            y = s.entry p c

            column-c : sigma R m (λ i. a i ⊗ h' i c) ≡ a p ⊗ h' p c
            column-c = sigma-only R m p (λ i. a i ⊗ h' i c) l (λ i k e. ⊎_elim (λ (u : s.used i ≡ true). ap (λ x. x ⊗ h' i c) (earlier i k u) ∙ zero-mul R (h' i c)) (λ (u : s.used i ≡ false). ap (λ x. a i ⊗ x) (gone i u e) ∙ mul-zero R (a i)) (bool? (s.used i)))

      took : Good (suc c) (taken R is_zero inverse m s p c)
      took = record { clean = clean; free = λ a z i k u. ⊎_elim (earlier a z i k) (λ (e : eqb i p ≡ true). ap a (eqb-true i p e) ∙ last a z) (or_cases (s.used i) (eqb i p) u) }
        where
          clean : (i : ℕ) → i < m → (s.used i || eqb i p) ≡ false → (j : ℕ) → j < suc c → h' i j ≡ 𝟘
          clean i k u j q = go (ℕ_discrete j c)
            where
              w : (s.used i ≡ false) × (eqb i p ≡ false)
              w = neither (s.used i) (eqb i p) u

              go : Dec (j ≡ c) → h' i j ≡ 𝟘
              go (yes e) = ap (h' i) e ∙ gone i w.0 (eqb-false i p w.1)
              go (no e) = old i j (omega (arith, e)) ∙ g.clean i k w.0 j (omega (arith, e))

  column_good : (c : ℕ) (s : State R) → Good c s → Good (suc c) (column R is_zero inverse m s c)
  unfolding column
  column_good c s g = go (ltb q m) refl
    where
      q : ℕ
      q = pivot R is_zero inverse m s c

      go : (b : Bool) → ltb q m ≡ b → Good (suc c) (cond b (taken R is_zero inverse m s q c) s)
      go true e = took c s g (ltb-true q m e)
      go false e = none c s g (λ k. omega (arith, ltb-false q m e))

  column_dependent : (c : ℕ) (s : State R) → Good c s → Dependent R n m (column R is_zero inverse m s c).entry ↔ Dependent R n m s.entry
  unfolding column
  column_dependent c s g = go (ltb q m) refl
    where
      q : ℕ
      q = pivot R is_zero inverse m s c

      go : (b : Bool) → ltb q m ≡ b → Dependent R n m (cond b (taken R is_zero inverse m s q c) s).entry ↔ Dependent R n m s.entry
      go true e = shift_dependent R n m q (ltb-true q m e) (multiple R is_zero inverse m s q c) (own c s g (ltb-true q m e)) s.entry
      go false e = (λ x. x, λ x. x)

  module _ (h : ℕ → ℕ → Carrier) where
    pub after_good : (c : ℕ) → Good c (after R is_zero inverse m h c)
    unfolding after
    after_good zero = record { clean = λ i l u j k. absurd (omega arith); free = λ a z i l u. absurd (false≢true u) }
    after_good (suc c) = column_good c (after R is_zero inverse m h c) (after_good c)

    after_dependent : (c : ℕ) → Dependent R n m (after R is_zero inverse m h c).entry ↔ Dependent R n m h
    unfolding after
    after_dependent zero = (λ x. x, λ x. x)
    after_dependent (suc c) = let e = column_dependent c (after R is_zero inverse m h c) (after_good c) in let f = after_dependent c in (λ x. f.0 (e.0 x), λ x. e.1 (f.1 x))

    pub short-rank : (rank R is_zero inverse m h n < m) ↔ Dependent R n m h
    unfolding rank
    short-rank = (λ l. (after_dependent n).0 (leaning (count-short m s.used l)), λ x. full (ltb (count m s.used) m) refl ((after_dependent n).1 x))
      where
        s : State R
        s = after R is_zero inverse m h n

        g : Good n s
        g = after_good n

        -- an unused row is zero: one times it
        leaning : (i : ℕ) × (i < m) × (s.used i ≡ false) → Dependent R n m s.entry
        leaning u = (only R u.0 𝟙, λ z. I.distinct (ap (λ b. cond b 𝟙 𝟘) (sym (eq-eqb u.0 u.0 refl)) ∙ z u.0 u.1), λ j k. only_sum R m u.0 𝟙 (λ i. s.entry i j) u.1 ∙ one-mul R (s.entry u.0 j) ∙ g.clean u.0 u.1 u.2 j k)

        full : (b : Bool) → ltb (count m s.used) m ≡ b → Dependent R n m s.entry → count m s.used < m
        full true e x = ltb-true (count m s.used) m e
        full false e x = absurd (x.1 (λ i k. g.free x.0 x.2 i k (count-all m s.used (ltb-false (count m s.used) m e) i k)))
