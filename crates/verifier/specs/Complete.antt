-- Completeness: what prove writes for a solving order is accepted by an honest verifier.
use Rattle.std.specs.Prelude.{◌≡◌, Ok, true, List, [], ◌∷◌, length, ℕ}
use Rattle.refusal.specs.Answer.{first_of, Done}
use Rattle.refusal.specs.declared.Verdict.TheVariants.{Accepted}
use Rattle.field.specs.declared.Level.{Level}
use Rattle.key.specs.declared.Key.{Key}
use Rattle.key.specs.Key.{KeySlices, lengths, withins}
use Rattle.constraints.specs.Truth.{HonestNumbers}
use Rattle.constraints.specs.Entry.{system}
use Rattle.checkzero.specs.Slices.{HonestMaskNumbers}
use Rattle.prover.specs.Entry.{rows_to7, prove_outcome}
use Rattle.prover.specs.Solved.{SolvesKey}
use Rattle.verifier.specs.Entry.{verify_outcome}

-- q, Δ and the mask numbers of an honest verifier: of their lengths, within the limit, and
-- "An honest q is u times Δ plus v"; "an honest verifier's number is s times Δ plus r"
pub record HonestVerifier (l : Level) (key : Key) (lent : KeySlices) (u v r s q Δ masks : List ℕ) : Type 0 where
  pub q-length : length q ≡ (lengths l key).elements
  pub Δ-length : length Δ ≡ (lengths l key).one
  pub masks-length : length masks ≡ (lengths l key).masks
  pub within-limit : withins l (q ∷ Δ ∷ masks ∷ []) ≡ true
  pub honest : HonestNumbers l (system l key lent) u v q Δ
  pub honest-masks : HonestMaskNumbers l (system l key lent) r s Δ masks

-- what prove leaves in t and a, handed to verify with the same key and weights
pub record Complete (l : Level) (key : Key) (lent : KeySlices) (positions u v r s α t a q Δ masks : List ℕ) : Type 0 where
  pub done : (prove_outcome l key lent positions u v r s α t a).0 ≡ Done
  pub accepted : verify_outcome l key lent (prove_outcome l key lent positions u v r s α t a).1.0 q Δ masks α (prove_outcome l key lent positions u v r s α t a).1.1 ≡ Ok Accepted

-- past refusals 1 to 7 and 15, so of a well-formed key, for positions that solve the key, so that none is a spare code, and an honest verifier
abbrev pub Completeness : Level → Type 0
Completeness l = (key : Key) (lent : KeySlices) (positions u v r s α t a q Δ masks : List ℕ) → first_of (rows_to7 l key lent positions u v r s α t a) ≡ Done → SolvesKey l key lent positions → HonestVerifier l key lent u v r s q Δ masks → Complete l key lent positions u v r s α t a q Δ masks
