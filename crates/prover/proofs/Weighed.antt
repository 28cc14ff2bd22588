-- The tops and the weighted sum of the polynomials, as CheckZero's work makes them.
use mathlib.Core.Path.{◌≡◌, refl, sym, ◌∙◌, ap, ap₂, subst}
use mathlib.Core.Bool.{Bool, ◌&&◌}
use mathlib.Core.List.{List}
use Prim.Native.Nat.{ℕ, zero, suc, ◌+◌, ◌-◌, ◌≤◌, ◌<◌}
use native.Mathlib.Decide.{dec_lt}
use native.Mathlib.Omega.{arith}
use Rattle.lists.specs.Words.{concat}
use Rattle.lists.proofs.Concat.{concat_cong}
use Rattle.field.specs.declared.Level.{Level}
use Rattle.field.specs.Level.{K}
use Rattle.field.specs.Word.{words, is_zero}
use Rattle.row.specs.Elements.{el}
use Rattle.row.specs.Polynomial.{column, check}
use Rattle.row.specs.Lent.{small_of, entry_of, digit_of, element_of}
use Rattle.key.specs.Key.{degree, KeySlices}
use Rattle.constraints.specs.Graded.{Polynomial, coefficient, polynomials}
use Rattle.field.specs.Sums.{sigma}
use Rattle.constraints.specs.System.{System, polynomial}
use Rattle.constraints.specs.Slices.{element_at, elements, system_of, witness_of}
use Rattle.constraints.proofs.Coefficients.{coefficient-vector, coefficient-total, coefficient-scale}
use Rattle.constraints.proofs.Link.{column-written, check-written}
use Rattle.checkzero.proofs.Laws.{el-element, weighted-all}
use Rattle.checkzero.specs.CheckZero.{mask, weighted, f, proof}
use Rattle.checkzero.specs.Slices.{every, tops_zero, proof_words}
use Rattle.checkzero.specs.Steps.{weighted_at}

every_cong : (n : ℕ) (f g : ℕ → Bool) → ((j : ℕ) → j < n → f j ≡ g j) → every n f ≡ every n g
unfolding every
every_cong zero f g h = refl
every_cong (suc n) f g h = ap₂ ◌&&◌ (every_cong n f g (λ j a. h j (omega arith))) (h n (omega arith))

-- the first n, and m more
parts : (P : ℕ → Type 0) (n m : ℕ) → ((j : ℕ) → j < n → P j) → ((e : ℕ) → e < m → P (n + e)) → (j : ℕ) → j < n + m → P j
parts P n m h l j a = pick (dec_lt j n)
  where
    back : n ≤ j → n + (j - n) ≡ j
    back b = omega arith

    pick : Dec (j < n) → P j
    pick (yes b) = h j b
    pick (no b) = subst P (back (omega arith)) (l (j - n) (omega arith))

module _ (l : Level) (n m : ℕ) (lent : KeySlices) (positions v : List ℕ) where
  abbrev d : ℕ
  d = degree n

  abbrev S : System (K l)
  S = system_of l n m lent

  abbrev p : ℕ → Polynomial (K l) (degree n)
  p = polynomial S (witness_of n positions) (elements l (degree n) v)

  -- the test of all tops
  pub tops-same : (tops : List ℕ)
      → ((j : ℕ) → j < n → el l tops j ≡ column (K l) n (degree n) (entry_of l n lent.h) (small_of l lent.x) (small_of l lent.y) (digit_of (degree n) positions) (element_of l (degree n) v) j (degree n))
      → ((e : ℕ) → e < m → el l tops (n + e) ≡ check (K l) n (degree n) (entry_of l n lent.h) (small_of l lent.x) (small_of l lent.y) (digit_of (degree n) positions) (element_of l (degree n) v) e (degree n))
      → every (n + m) (λ j. is_zero l (el l tops j)) ≡ tops_zero l (system_of l n m lent) (witness_of n positions) v
  unfolding tops_zero
  tops-same tops a b = every_cong (n + m) _ _ (parts (λ j. is_zero l (el l tops j) ≡ is_zero l (coefficient (K l) (suc d) (p j) d)) n m (λ j c. ap (is_zero l) (a j c ∙ column-written l n m lent positions v j d c)) (λ e c. ap (is_zero l) (b e c ∙ check-written l n m lent positions v e d)))

  -- the coefficients of f, and of the proof
  coefficient-f : (α : ℕ → (K l).Carrier) (k : ℕ) → coefficient (K l) (suc d) (f S (witness_of n positions) (elements l d v) α) k ≡ sigma (K l) (n + m) (λ j. (K l).mul (α j) (coefficient (K l) (suc d) (p j) k))
  unfolding f weighted
  coefficient-f α k = coefficient-total (K l) d (n + m) (λ j. (polynomials (K l)).scaled d (α j) (p j)) k ∙ ap (sigma (K l) (n + m)) (λ t j. coefficient-scale (K l) (suc d) (α j) (p j) k t)

  pub proof-same : (r s α : List ℕ) → concat (degree n) (λ k. words l ((K l).add (weighted_at l n m (degree n) lent.h lent.x lent.y positions v α k) (mask (K l) (degree n - 1) (el l r) (el l s) k))) ≡ proof_words l (system_of l n m lent) (witness_of n positions) v r s α
  unfolding proof_words proof
  proof-same r s α = concat_cong d _ _ (λ k b. ap (words l) (ap₂ (K l).add (weighed k) (λ t. mask (K l) (d - 1) (el-element l r t) (el-element l s t) k) ∙ sym (coefficient-vector (K l) d _ k b)))
    where
      weighed : (k : ℕ) → weighted_at l n m d lent.h lent.x lent.y positions v α k ≡ coefficient (K l) (suc d) (f S (witness_of n positions) (elements l d v) (element_at l α)) k
      weighed k = weighted-all (K l) n m (el l α) _ _ (λ j. coefficient (K l) (suc d) (p j) k) (λ j a. column-written l n m lent positions v j k a) (λ e a. check-written l n m lent positions v e k)
          ∙ ap (λ (a : ℕ → (K l).Carrier). sigma (K l) (n + m) (λ j. (K l).mul (a j) (coefficient (K l) (suc d) (p j) k))) (el-element l α) ∙ sym (coefficient-f (element_at l α) k)
