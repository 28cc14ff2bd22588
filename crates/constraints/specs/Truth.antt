-- Demand 3, as a statement about slices.
use Rattle.std.specs.Prelude.{◌≡◌, ◌↔◌, List, ℕ, suc, ◌+◌, ◌<◌}
use Rattle.lists.specs.Words.{concat}
use Rattle.field.specs.declared.Level.{Level}
use Rattle.field.specs.Level.{K}
use Rattle.field.specs.Word.{element, words}
use Rattle.constraints.specs.Graded.{top, eval}
use Rattle.constraints.specs.System.{System, Honest}
use Rattle.key.specs.Key.{degree, KeySlices}
use Rattle.constraints.specs.Order.{Order, Solves}
use Rattle.constraints.specs.Slices.{bits, element_at, elements, polynomial_at, value_words, key_of, system_of, position_at}

module _ (l : Level) (S : System (K l)) where
  -- "every verifier's number is the mask bit times the challenge plus the offset"
  abbrev pub HonestNumbers : (u v q Δ : List ℕ) → Type 0
  HonestNumbers u v q Δ = Honest S (bits S.places u) (elements l S.places v) (elements l S.places q) (element l Δ)

  -- polynomial j of p at the challenge
  abbrev pub evaluated : (p Δ : List ℕ) → ℕ → (K l).Carrier
  evaluated p Δ j = eval (K l) (suc S.degree) (polynomial_at l S.degree p j) (element l Δ)

  -- "each of the n + m values it writes equals the polynomial of the same number at the challenge": as elements, and as the written words
  pub record Agrees (u v t p : List ℕ) : Type 0 where
    pub each : (q Δ : List ℕ) → HonestNumbers u v q Δ → (j : ℕ) → j < S.size → element_at l (value_words l S t q Δ) j ≡ evaluated p Δ j
    pub whole : (q Δ : List ℕ) → HonestNumbers u v q Δ → value_words l S t q Δ ≡ concat S.size (λ j. words l (evaluated p Δ j))

-- of a well-formed key, its prover's positions, mask bits u and offsets v, and the masked witness t and polynomials p made of them
pub record Truth (l : Level) (n m : ℕ) (lent : KeySlices) (positions u v t p : List ℕ) : Type 0 where
  -- "wherever the entry values is handed that key, that masked witness and that challenge"
  pub agrees : Agrees l (system_of l n m lent) u v t p
  -- "the top coefficients of all n + m polynomials are zero exactly when the positions are the numbers 0 to n - 1, each once,
  -- and H times the vector x in that order is" y
  pub tops : ((j : ℕ) → j < n + m → top (K l) (degree n) (polynomial_at l (degree n) p j) ≡ (K l).zero) ↔ (Order n (position_at positions) × Solves (key_of l n m lent) (position_at positions))
