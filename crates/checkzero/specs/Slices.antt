-- CheckZero on slices: what prove tests and writes, and what verify compares.
use Rattle.std.specs.Prelude.{Bool, true, ◌&&◌, List, ℕ, zero, suc}
use Rattle.lists.specs.Words.{concat}
use Rattle.field.specs.Vector.{Vector}
use Rattle.field.specs.declared.Level.{Level}
use Rattle.field.specs.Level.{K}
use Rattle.field.specs.Word.{vector, element, words, is_zero, equal}
use Rattle.constraints.specs.Graded.{coefficient, top, eval}
use Rattle.constraints.specs.System.{System, polynomial}
use Rattle.constraints.specs.Slices.{bits, element_at, elements}
use Rattle.checkzero.specs.CheckZero.{proof, expected, Accepts, HonestMasks}

-- whether the test holds of every number below n
unfoldable pub every : (n : ℕ) → (ℕ → Bool) → Bool
every zero test = true
every (suc n) test = every n test && test n

module _ (l : Level) (S : System (K l)) where
  -- whether each of the polynomials has top coefficient zero
  unfoldable pub tops_zero : (w : ℕ → ℕ → Bool) (v : List ℕ) → Bool
  tops_zero w v = every S.size (λ j. is_zero l (top (K l) S.degree (polynomial S w (elements l S.places v) j)))

  -- what is written: the d coefficients of the proof, lowest first
  unfoldable pub proof_words : (w : ℕ → ℕ → Bool) (v r s α : List ℕ) → List ℕ
  proof_words w v r s α = concat S.degree (λ k. words l (coefficient (K l) S.degree (proof S w (elements l S.places v) (element_at l r) (element_at l s) (element_at l α)) k))

  -- the proof of a slice
  unfoldable pub proof_at : List ℕ → Vector (K l).Carrier S.degree
  proof_at a = vector S.degree (element_at l a)

  -- the verifier's equation, as a statement and as a test
  abbrev pub AcceptsSlices : (t q Δ numbers α a : List ℕ) → Type 0
  AcceptsSlices t q Δ numbers α a = Accepts S (bits S.places t) (elements l S.places q) (element l Δ) (element_at l numbers) (element_at l α) (proof_at a)

  unfoldable pub accepts : (t q Δ numbers α a : List ℕ) → Bool
  accepts t q Δ numbers α a = equal l (eval (K l) S.degree (proof_at a) (element l Δ)) (expected S (bits S.places t) (elements l S.places q) (element l Δ) (element_at l numbers) (element_at l α))

  -- each mask number of the slice is s times Δ plus r
  abbrev pub HonestMaskNumbers : (r s Δ numbers : List ℕ) → Type 0
  HonestMaskNumbers r s Δ numbers = HonestMasks S (element_at l r) (element_at l s) (element l Δ) (element_at l numbers)
