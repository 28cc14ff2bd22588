-- What the entry verify answers.
use Rattle.refusal.specs.declared.Refusal.{Refusal}
use Rattle.std.specs.Prelude.{◌≡◌, ◌↔◌, Result, Bool, List, [], ◌∷◌, ◌++◌, ℕ}
use Rattle.lists.specs.Lent.{long}
use Rattle.refusal.specs.Answer.{first_of, Done}
use Rattle.refusal.specs.Verdict.{judged}
use Rattle.refusal.specs.declared.Verdict.{Verdict}
use Rattle.field.specs.declared.Level.{Level}
use Rattle.key.specs.declared.Key.{Key}
use Rattle.key.specs.declared.Lengths.{Lengths}
use Rattle.key.specs.declared.Code.TheVariants.{Column}
use Rattle.key.specs.Key.{KeySlices, lengths, sizes, key_lent, below, withins, checks, Leans}
use Rattle.constraints.specs.Entry.{system}
use Rattle.checkzero.specs.Slices.{AcceptsSlices, accepts}

-- "verify (takes these with the mask numbers, α and a; answers Accepted or Rejected)", these being "the key, t, q and Δ"
abbrev pub verify_lent : Lengths → KeySlices → (t q Δ masks α a : List ℕ) → List (List ℕ × ℕ)
verify_lent len lent t q Δ masks α a =
    key_lent len lent
    ++ ((t, len.bits)
    ∷ (q, len.elements)
    ∷ (Δ, len.one)
    ∷ (masks, len.masks)
    ∷ (α, len.values)
    ∷ (a, len.proof)
    ∷ [])

module _ (l : Level) (key : Key) where
  -- its refusals, in order
  abbrev pub verify_rows : KeySlices → (t q Δ masks α a : List ℕ) → List (Bool × Refusal)
  verify_rows lent t q Δ masks α a = sizes l key ++ checks l key (long (verify_lent (lengths l key) lent t q Δ masks α a)) lent (below 1 t) (withins l (q ∷ Δ ∷ masks ∷ α ∷ a ∷ [])) Column

  -- past 1 to 4, 15 is the answer exactly when the rows of H lean on each other
  abbrev pub verify_leans : KeySlices → (t q Δ masks α a : List ℕ) → (IsFifteen : Type 0) → Type 0
  verify_leans lent t q Δ masks α a = Leans l key (long (verify_lent (lengths l key) lent t q Δ masks α a)) lent

  unfoldable pub verify_outcome : KeySlices → (t q Δ masks α a : List ℕ) → Result Verdict Refusal
  verify_outcome lent t q Δ masks α a = judged (first_of (verify_rows lent t q Δ masks α a)) (accepts l (system l key lent) t q Δ masks α a)

  -- where no refusal applies: "The verifier accepts exactly when a at Δ equals" the verifier's side. Each function says how its answer tells
  -- Accepted and Rejected.
  pub record Judges (lent : KeySlices) (t q Δ masks α a : List ℕ) (IsAccepted IsRejected : Type 0) : Type 0 where
    pub accepted : IsAccepted ↔ ((first_of (verify_rows lent t q Δ masks α a) ≡ Done) × AcceptsSlices l (system l key lent) t q Δ masks α a)
    pub rejected : IsRejected ↔ ((first_of (verify_rows lent t q Δ masks α a) ≡ Done) × (AcceptsSlices l (system l key lent) t q Δ masks α a → ⊥))
