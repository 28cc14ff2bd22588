-- What is written for the verifier, read back: the proof, the masked witness, and the verifier's equation of both.
use mathlib.Core.Path.{◌≡◌, refl, sym, ◌∙◌, ap, ap₂}
use mathlib.Core.Bool.{Bool, true, false, cond, ◌&&◌, and-eq-true_iff}
use mathlib.Core.Logic.{◌↔◌}
use mathlib.Core.List.{List, [], ◌∷◌}
use Prim.Native.Nat.{ℕ, zero, suc, ◌+◌, ◌-◌, ◌*◌, ◌^◌, ◌≤◌, ◌<◌}
use native.Mathlib.Omega.{arith}
use borrow.Author.Count.{below_more}
use lib.Dec.{ltb}
use lib.ListN.{length}
use Rattle.lists.specs.Words.{all}
use Rattle.lists.proofs.Concat.{concat-length, concat-part, rows-length, all-concat}
use Rattle.field.specs.declared.Level.{Level}
use Rattle.field.specs.Level.{K}
use Rattle.field.specs.Word.{element, words, within}
use Rattle.field.proofs.Elements.{words-length, element-words}
use Rattle.field.proofs.Equal.{zero-true, equal-true, words-within}
use Rattle.key.specs.Key.{below}
use Rattle.constraints.specs.Graded.{coefficient, top, eval}
use Rattle.field.specs.SumLaws.{summed_cong}
use Rattle.constraints.specs.System.{System, masked, polynomial}
use Rattle.constraints.specs.Slices.{bits, element_at, elements, masked_bytes}
use Rattle.constraints.specs.Truth.{HonestNumbers}
use Rattle.constraints.proofs.Agreement.{value_cong}
use Rattle.constraints.proofs.Coefficients.{coefficient_ext, coefficient-vector}
use Rattle.constraints.proofs.Truth.{bits-written}
use Rattle.checkzero.specs.CheckZero.{weighted, proof, expected, mask_sum}
use Rattle.checkzero.specs.Slices.{every, tops_zero, proof_words, proof_at, AcceptsSlices, accepts, HonestMaskNumbers}
use Rattle.checkzero.proofs.Complete.{complete}

-- the test of every number below n
every-each : (n : ℕ) (test : ℕ → Bool) → every n test ≡ true → (j : ℕ) → j < n → test j ≡ true
unfolding every
every-each zero test e = λ j l. absurd (omega arith)
every-each (suc n) test e = let b = (and-eq-true_iff (every n test) (test n)).0 e in (λ j l. below_more (λ j. test j ≡ true) n (every-each n test b.0) b.1 j (omega arith))

every_from : (n : ℕ) (test : ℕ → Bool) → ((j : ℕ) → j < n → test j ≡ true) → every n test ≡ true
unfolding every
every_from zero test h = refl
every_from (suc n) test h = ap₂ ◌&&◌ (every_from n test (λ j l. h j (omega arith))) (h n (omega arith))

module _ (l : Level) (S : System (K l)) where
  abbrev d : ℕ
  d = S.degree

  -- the test of the tops
  pub tops-true : (w : ℕ → ℕ → Bool) (v : List ℕ) → (tops_zero l S w v ≡ true) ↔ ((j : ℕ) → j < S.size → top (K l) S.degree (polynomial S w (elements l S.places v) j) ≡ (K l).zero)
  unfolding tops_zero
  tops-true w v = (λ e j a. (zero-true l _).0 (every-each S.size _ e j a), λ h. every_from S.size _ (λ j a. (zero-true l _).1 (h j a)))

  -- the test of the equation
  pub accepts-true : (t q Δ numbers α a : List ℕ) → (accepts l S t q Δ numbers α a ≡ true) ↔ AcceptsSlices l S t q Δ numbers α a
  unfolding accepts
  accepts-true t q Δ numbers α a = equal-true l _ _

  -- the written proof, as elements
  pub proof-written : (w : ℕ → ℕ → Bool) (v r s α : List ℕ) → proof_at l S (proof_words l S w v r s α) ≡ proof S w (elements l S.places v) (element_at l r) (element_at l s) (element_at l α)
  unfolding proof_at proof_words element_at
  proof-written w v r s α = coefficient_ext (K l) d _ _ (λ k b. coefficient-vector (K l) d (element_at l (proof_words l S w v r s α)) k b
      ∙ ap (element l) (concat-part l.coordinates (λ k. words l (c k)) (λ k. words-length l (c k)) d k b) ∙ element-words l (c k))
    where
      c : ℕ → (K l).Carrier
      c = coefficient (K l) d (proof S w (elements l S.places v) (element_at l r) (element_at l s) (element_at l α))

  -- only the bits in range of the masked witness count
  expected_cong : (t t' : ℕ → ℕ → Bool) (q : ℕ → ℕ → (K l).Carrier) (Δ : (K l).Carrier) (numbers α : ℕ → (K l).Carrier) → ((i k : ℕ) → i < S.rows → k < S.places → t i k ≡ t' i k) → expected S t q Δ numbers α ≡ expected S t' q Δ numbers α
  unfolding expected weighted
  expected_cong t t' q Δ numbers α h = ap (λ y. (K l).add y (mask_sum (K l) (d - 1) Δ numbers)) (summed_cong (K l).zero (K l).add S.size _ _ (λ j a. ap (λ y. (K l).mul (α j) y) (value_cong S t t' q Δ h j)))

  -- the honest proof of polynomials whose tops are zero is accepted
  pub complete_written : (w : ℕ → ℕ → Bool) (u v r s α q Δ numbers : List ℕ) → HonestNumbers l S u v q Δ → HonestMaskNumbers l S r s Δ numbers → tops_zero l S w v ≡ true
      → accepts l S (masked_bytes S w u) q Δ numbers α (proof_words l S w v r s α) ≡ true
  complete_written w u v r s α q Δ numbers h g e = (accepts-true (masked_bytes S w u) q Δ numbers α (proof_words l S w v r s α)).1
      (ap (λ a. eval (K l) d a (element l Δ)) (proof-written w v r s α)
      ∙ complete S w (bits S.places u) (elements l S.places v) (element_at l r) (element_at l s) (element_at l α) (elements l S.places q) (element l Δ) (element_at l numbers) h g ((tops-true w v).0 e)
      ∙ sym (expected_cong (bits S.places (masked_bytes S w u)) (masked w (bits S.places u)) (elements l S.places q) (element l Δ) (element_at l numbers) (element_at l α) (bits-written l S w u)))

  -- what is written is not refused: lengths, bits and the limit
  pub proof-length : (w : ℕ → ℕ → Bool) (v r s α : List ℕ) → length (proof_words l S w v r s α) ≡ l.coordinates * S.degree
  unfolding proof_words
  proof-length w v r s α = concat-length l.coordinates _ (λ k. words-length l _) d

  pub proof-within : 2 ^ l.width ≤ l.limit + 1 → (w : ℕ → ℕ → Bool) (v r s α : List ℕ) → within l (proof_words l S w v r s α) ≡ true
  unfolding proof_words within
  proof-within h w v r s α = all-concat _ d _ (λ k a. words-within l h _)

  pub masked-length : (w : ℕ → ℕ → Bool) (u : List ℕ) → length (masked_bytes S w u) ≡ S.places * S.rows
  unfolding masked_bytes
  masked-length w u = rows-length 1 S.places _ (λ i k. refl) S.rows ∙ ap (λ c. c * S.rows) one
    where
      one : 1 * S.places ≡ S.places
      one = omega arith

  pub masked_below : (w : ℕ → ℕ → Bool) (u : List ℕ) → below 1 (masked_bytes S w u) ≡ true
  unfolding masked_bytes below
  masked_below w u = all-concat _ S.rows _ (λ i a. all-concat _ S.places _ (λ k b. byte (masked w (bits S.places u) i k)))
    where
      byte : (b : Bool) → all (λ x. ltb x (2 ^ 1)) (cond b 1 0 ∷ []) ≡ true
      byte false = unfold all in refl
      byte true = unfold all in refl
