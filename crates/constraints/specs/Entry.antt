-- What the entries constraints and values answer and write.
use Rattle.refusal.specs.declared.Refusal.{Refusal}
use Rattle.std.specs.Prelude.{Bool, List, [], ◌∷◌, ◌++◌, ℕ}
use Rattle.lists.specs.Lent.{long}
use Rattle.refusal.specs.Answer.{decided, Answer}
use Rattle.field.specs.declared.Level.{Level}
use Rattle.field.specs.Level.{K}
use Rattle.key.specs.declared.Key.{Key}
use Rattle.key.specs.declared.Lengths.{Lengths}
use Rattle.key.specs.declared.Code.TheVariants.{Column}
use Rattle.key.specs.Key.{KeySlices, lengths, sizes, key_lent, below, codes_of, withins, checks, Leans}
use Rattle.constraints.specs.System.{System}
use Rattle.constraints.specs.Slices.{masked_bytes, polynomial_words, value_words, system_of, witness_of}

-- "constraints (takes the key, positions, u and v; writes t and all polynomials, polynomial 0 first)": its slices and their lengths
abbrev pub constraints_lent : Lengths → KeySlices → (positions u v t p : List ℕ) → List (List ℕ × ℕ)
constraints_lent len lent positions u v t p = key_lent len lent ++ ((positions, len.positions) ∷ (u, len.bits) ∷ (v, len.elements) ∷ (t, len.bits) ∷ (p, len.polynomials) ∷ [])

-- "values (takes the key, t, q and Δ; writes n + m values)"
abbrev pub values_lent : Lengths → KeySlices → (t q Δ p : List ℕ) → List (List ℕ × ℕ)
values_lent len lent t q Δ p = key_lent len lent ++ ((t, len.bits) ∷ (q, len.elements) ∷ (Δ, len.one) ∷ (p, len.values) ∷ [])

module _ (l : Level) (key : Key) where
  abbrev pub system : KeySlices → System (K l)
  system lent = system_of l key.n key.m lent

  -- the refusals of each, in order
  abbrev pub constraints_rows : KeySlices → (positions u v t p : List ℕ) → List (Bool × Refusal)
  constraints_rows lent positions u v t p = sizes l key ++ checks l key (long (constraints_lent (lengths l key) lent positions u v t p)) lent (below 1 u) (withins l (v ∷ [])) (codes_of key.n positions)

  abbrev pub values_rows : KeySlices → (t q Δ p : List ℕ) → List (Bool × Refusal)
  values_rows lent t q Δ p = sizes l key ++ checks l key (long (values_lent (lengths l key) lent t q Δ p)) lent (below 1 t) (withins l (q ∷ Δ ∷ [])) Column

  -- past 1 to 4, 15 is the answer exactly when the rows of H lean on each other
  abbrev pub constraints_leans : KeySlices → (positions u v t p : List ℕ) → (IsFifteen : Type 0) → Type 0
  constraints_leans lent positions u v t p = Leans l key (long (constraints_lent (lengths l key) lent positions u v t p)) lent

  abbrev pub values_leans : KeySlices → (t q Δ p : List ℕ) → (IsFifteen : Type 0) → Type 0
  values_leans lent t q Δ p = Leans l key (long (values_lent (lengths l key) lent t q Δ p)) lent

  -- t and the polynomials, as they are left
  unfoldable pub constraints_outcome : KeySlices → (positions u v t p : List ℕ) → Answer × (List ℕ × List ℕ)
  constraints_outcome lent positions u v t p = decided (constraints_rows lent positions u v t p)
      (masked_bytes (system lent) (witness_of key.n positions) u, polynomial_words l (system lent) (witness_of key.n positions) v) (t, p)

  -- the values, as they are left
  unfoldable pub values_outcome : KeySlices → (t q Δ p : List ℕ) → Answer × List ℕ
  values_outcome lent t q Δ p = decided (values_rows lent t q Δ p) (value_words l (system lent) t q Δ) p
