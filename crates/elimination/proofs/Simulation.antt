-- Words and marks that hold a state of the elimination, column by column.
use mathlib.Core.Path.{◌≡◌, refl, sym, ap, ap₂, ◌∙◌, subst}
use mathlib.Core.Bool.{Bool, true, false, not, cond, ◌&&◌, ◌||◌, or-true, or-false, false≢true}
use mathlib.Core.List.{List}
use Prim.Native.Nat.{ℕ, zero, suc, ◌+◌, ◌*◌, ◌<◌, ◌≤◌}
use native.Mathlib.Numerals.{add-one}
use native.Mathlib.Omega.{arith}
use lib.Bits.{bit_xor}
use lib.Dec.{eqb, leb, ltb}
use lib.ListN.{length, get_or, set}
use lib.Seq.{get_or-set_same, get_or-set_other}
use borrow.Author.Tests.{lt-ltb, le-ltb, eq-eqb, ne_eqb, eqb-true, eqb-false, leb-false}
use Rattle.lists.specs.Count.{count}
use Rattle.field.specs.RingLaws.{mul-zero, zero-mul}
use Rattle.field.specs.declared.Level.{Level}
use Rattle.field.specs.Level.{F}
use Rattle.field.specs.Word.{small, word, small_at, Words}
use Rattle.galois.specs.Inverse.{inverse}
use Rattle.elimination.specs.Elimination.{State, pivot, taken, column, after, rank}
use Rattle.elimination.specs.Rank.{is_zero, entries, eliminated, cleared_words, rank_of}
use Rattle.elimination.specs.Steps.{Grid, entry_at, times_word, cleared_word, unused}
use Rattle.lists.proofs.Count.{count_none}
use Rattle.elimination.proofs.First.{First, first_unique, first_cong, count_more}
use Rattle.elimination.proofs.Dependence.{Inverting, after_good}
use Rattle.elimination.proofs.Words.{small_word, word_small, word_sum, times-word}
use Rattle.elimination.proofs.Grids.{grid-list}

-- words h and marks `used` hold a state with r rows used
pub record Matches (l : Level) (n m : ℕ) (s : State (F l)) (h used : List ℕ) (r : ℕ) : Type 0 where
  pub grid : Grid m n h (λ i j. word l (s.entry i j))
  pub marks : (i : ℕ) → unused used i ≡ not (s.used i)
  pub number : r ≡ count m s.used

-- the test of the search for a row
abbrev pub fits : (n : ℕ) (h used : List ℕ) (c i : ℕ) → Bool
fits n h used c i = unused used i && not (eqb (entry_at n h i c) 0)

module _ (l : Level) (n m : ℕ) (h₀ : List ℕ) where
  pub starts : (used : List ℕ) → length h₀ ≡ m * n → Words l h₀ → ((i : ℕ) → get_or used i 0 ≡ 0) → Matches l n m (eliminated l n m h₀ 0) h₀ used 0
  unfolding eliminated after small_at
  starts used size words none = record {
    grid = record { size = size; at = λ i j a b. sym (word_small l (entry_at n h₀ i j) (words (i * n + j))) };
    marks = λ i. eq-eqb (get_or used i 0) 0 (none i);
    number = sym (count_none m (λ i. false) (λ i l. refl));
  }

  pub finished : (h used : List ℕ) (r : ℕ) → Matches l n m (eliminated l n m h₀ n) h used r → (r ≡ rank_of l n m h₀) × (h ≡ cleared_words l n m h₀)
  unfolding eliminated rank_of rank cleared_words
  finished h used r M = (M.number, grid-list m n h _ M.grid)

  module _ (I : Inverting (F l) (is_zero l) (inverse l)) (c : ℕ) (col : c < n) (h used : List ℕ) (r : ℕ) (M : Matches l n m (eliminated l n m h₀ c) h used r) (p : ℕ) (f : First m (fits n h used c) p) where
    abbrev s : State (F l)
    s = eliminated l n m h₀ c

    is-pivot : p ≡ pivot (F l) (is_zero l) (inverse l) m s c
    unfolding pivot is_zero
    is-pivot = first_unique m (λ i. not (s.used i) && not (is_zero l (s.entry i c))) p (first_cong m (fits n h used c) (λ i. not (s.used i) && not (is_zero l (s.entry i c))) p (λ i b. ap₂ (λ x y. x && not (eqb y 0)) (M.marks i) (M.grid.at i c b col)) f)

    -- no row is taken
    pub passed : m ≤ p → Matches l n m (eliminated l n m h₀ (c + 1)) h used r
    unfolding eliminated after column
    passed b = subst (λ x. Matches l n m x h used r) same M
      where
        same : eliminated l n m h₀ c ≡ eliminated l n m h₀ (c + 1)
        same = ap (λ t. cond t (taken (F l) (is_zero l) (inverse l) m s (pivot (F l) (is_zero l) (inverse l) m s c) c) s) (sym (le-ltb (pivot (F l) (is_zero l) (inverse l) m s c) m (omega (arith, is-pivot)))) ∙ ap (eliminated l n m h₀) (sym (add-one c))

    module _ (b : p < m) where
      next : taken (F l) (is_zero l) (inverse l) m s p c ≡ eliminated l n m h₀ (c + 1)
      unfolding eliminated after column
      next = ap (λ q. taken (F l) (is_zero l) (inverse l) m s q c) is-pivot ∙ ap (λ t. cond t (taken (F l) (is_zero l) (inverse l) m s (pivot (F l) (is_zero l) (inverse l) m s c) c) s) (sym (lt-ltb (pivot (F l) (is_zero l) (inverse l) m s c) m (omega (arith, is-pivot)))) ∙ ap (eliminated l n m h₀) (sym (add-one c))

      -- the row is unused, and its entry in column c is not zero
      free : s.used p ≡ false
      free = by (s.used p) (unused used p) (M.marks p) (f.passes b)
        where
          by : (u e : Bool) → e ≡ not u → (e && not (eqb (entry_at n h p c) 0)) ≡ true → u ≡ false
          by false e x y = refl
          by true e x y = sym y ∙ ap (λ t. t && not (eqb (entry_at n h p c) 0)) x

      pub some : 0 < entry_at n h p c
      some = by (entry_at n h p c) (unused used p) (f.passes b)
        where
          by : (x : ℕ) (e : Bool) → (e && not (eqb x 0)) ≡ true → 0 < x
          by zero true q = absurd (false≢true q)
          by zero false q = absurd (false≢true q)
          by (suc x) e q = omega arith

      -- it is zero in the columns before
      clean : (j : ℕ) → j < c → s.entry p j ≡ (F l).zero
      unfolding eliminated
      clean j q = (after_good (F l) (is_zero l) (inverse l) I n m (entries l n m h₀) c).clean p b free j q

      module _ (h' : List ℕ) (g : Grid m n h' (λ i j. cleared_word l n c (word l (inverse l (small l (entry_at n h p c)))) (entry_at n h p) h (ltb p i && unused used i) i j)) (wide : p < length used) where
        -- an entry of a row that clears, or does not, in a column from c on, or before it
        entry : (j : ℕ) → (e t : Bool) (x y z : (F l).Carrier) → leb c j ≡ t → cond (e && t) (bit_xor (word l x) (times_word l (times_word l (word l y) (word l (inverse l (small l (word l z))))) (word l (s.entry p j)))) (word l x)
            ≡ word l ((F l).add x ((F l).mul (cond e ((F l).mul y (inverse l z)) (F l).zero) (s.entry p j)))
        entry j true true x y z q = ap (bit_xor (word l x)) (ap (λ a. times_word l a (word l (s.entry p j))) (ap (λ a. times_word l (word l y) (word l (inverse l a))) (small_word l z) ∙ times-word l y (inverse l z)) ∙ times-word l ((F l).mul y (inverse l z)) (s.entry p j)) ∙ word_sum l x ((F l).mul ((F l).mul y (inverse l z)) (s.entry p j))
        entry j true false x y z q = ap (word l) (sym (ap (λ a. (F l).add x ((F l).mul ((F l).mul y (inverse l z)) a)) (clean j (leb-false c j q)) ∙ ap ((F l).add x) (mul-zero (F l) ((F l).mul y (inverse l z))) ∙ (F l).add-zero x))
        entry j false t x y z q = ap (word l) (sym (ap ((F l).add x) (zero-mul (F l) (s.entry p j)) ∙ (F l).add-zero x))

        mark : (i : ℕ) (t : Bool) → eqb i p ≡ t → unused (set used p 1) i ≡ not (s.used i || eqb i p)
        mark i true e = ap (λ k. unused (set used p 1) k) (eqb-true i p e) ∙ ap (λ k. eqb k 0) (get_or-set_same used p 1 0 wide) ∙ sym (ap (λ t. not (s.used i || t)) e ∙ ap not (or-true (s.used i)))
        mark i false e = ap (λ k. eqb k 0) (get_or-set_other used p i 1 0 (eqb-false i p e)) ∙ M.marks i ∙ sym (ap (λ t. not (s.used i || t)) e ∙ ap not (or-false (s.used i)))

        pub moved : Matches l n m (eliminated l n m h₀ (c + 1)) h' (set used p 1) (r + 1)
        moved = subst (λ x. Matches l n m x h' (set used p 1) (r + 1)) next (record {
          grid = record { size = g.size; at = λ i j a q. g.at i j a q ∙ words i j a q ∙ entry j (ltb p i && not (s.used i)) (leb c j) (s.entry i j) (s.entry i c) (s.entry p c) refl };
          marks = λ i. mark i (eqb i p) refl;
          number = ap (λ x. x + 1) M.number ∙ sym (count_more m p s.used b free);
        })
          where
            words : (i j : ℕ) → i < m → j < n → cleared_word l n c (word l (inverse l (small l (entry_at n h p c)))) (entry_at n h p) h (ltb p i && unused used i) i j
                ≡ cond ((ltb p i && not (s.used i)) && leb c j) (bit_xor (word l (s.entry i j)) (times_word l (times_word l (word l (s.entry i c)) (word l (inverse l (small l (word l (s.entry p c)))))) (word l (s.entry p j)))) (word l (s.entry i j))
            words i j a q = λ t. cond ((ltb p i && M.marks i t) && leb c j) (bit_xor (M.grid.at i j a q t) (times_word l (times_word l (M.grid.at i c a col t) (word l (inverse l (small l (M.grid.at p c b col t))))) (M.grid.at p j b q t))) (M.grid.at i j a q t)

-- what the search sees
module _ (n : ℕ) (h used : List ℕ) (c i : ℕ) where
  pub fails_zero : entry_at n h i c ≡ 0 → fits n h used c i ≡ false
  fails_zero e = ap (λ x. unused used i && not (eqb x 0)) e ∙ by (unused used i)
    where
      by : (b : Bool) → (b && false) ≡ false
      by true = refl
      by false = refl

  pub fails_used : (get_or used i 0 ≡ 0 → ⊥) → fits n h used c i ≡ false
  fails_used u = ap (λ b. b && not (eqb (entry_at n h i c) 0)) (ne_eqb (get_or used i 0) 0 u)

  pub fits-found : get_or used i 0 ≡ 0 → (entry_at n h i c ≡ 0 → ⊥) → fits n h used c i ≡ true
  fits-found u z = ap₂ (λ x y. x && not y) (eq-eqb (get_or used i 0) 0 u) (ne_eqb (entry_at n h i c) 0 z)
