-- What the entry prove answers and writes.
use Rattle.refusal.specs.declared.Refusal.{Refusal}
use Rattle.refusal.specs.declared.Refusal.TheVariants.{Top}
use Rattle.std.specs.Prelude.{Bool, not, List, [], ◌∷◌, ◌++◌, ℕ}
use Rattle.lists.specs.Lent.{long}
use Rattle.refusal.specs.Answer.{decided, Answer}
use Rattle.field.specs.declared.Level.{Level}
use Rattle.key.specs.declared.Key.{Key}
use Rattle.key.specs.declared.Lengths.{Lengths}
use Rattle.key.specs.Key.{KeySlices, lengths, sizes, key_lent, below, codes_of, withins, checks, Leans, spare_row}
use Rattle.constraints.specs.Entry.{system}
use Rattle.constraints.specs.Slices.{masked_bytes, witness_of}
use Rattle.checkzero.specs.Slices.{tops_zero, proof_words}

-- "prove (takes these with r, s and α; writes t and a)", these being "the key, positions, u and v"
abbrev pub prove_lent : Lengths → KeySlices → (positions u v r s α t a : List ℕ) → List (List ℕ × ℕ)
prove_lent len lent positions u v r s α t a =
    key_lent len lent
    ++ ((positions, len.positions)
    ∷ (u, len.bits)
    ∷ (v, len.elements)
    ∷ (r, len.masks)
    ∷ (s, len.masks)
    ∷ (α, len.values)
    ∷ (t, len.bits)
    ∷ (a, len.proof)
    ∷ [])

module _ (l : Level) (key : Key) where
  -- refusals 1 to 7, and 15 after 4, in order
  abbrev pub rows_to7 : KeySlices → (positions u v r s α t a : List ℕ) → List (Bool × Refusal)
  rows_to7 lent positions u v r s α t a =
      sizes l key ++ checks l key (long (prove_lent (lengths l key) lent positions u v r s α t a)) lent (below 1 u) (withins l (v ∷ r ∷ s ∷ α ∷ [])) (codes_of key.n positions)

  -- and 16, "after 7 and before 8"
  abbrev pub prove_rows : KeySlices → (positions u v r s α t a : List ℕ) → List (Bool × Refusal)
  prove_rows lent positions u v r s α t a = rows_to7 lent positions u v r s α t a ++ spare_row (codes_of key.n positions)

  -- past 1 to 4, 15 is the answer exactly when the rows of H lean on each other
  abbrev pub prove_leans : KeySlices → (positions u v r s α t a : List ℕ) → (IsFifteen : Type 0) → Type 0
  prove_leans lent positions u v r s α t a = Leans l key (long (prove_lent (lengths l key) lent positions u v r s α t a)) lent

  -- "prove, before writing": 8 "some top coefficient of the n + m polynomials isn't zero"
  abbrev pub tops_row : KeySlices → (positions v : List ℕ) → List (Bool × Refusal)
  tops_row lent positions v = (not (tops_zero l (system l key lent) (witness_of key.n positions) v), Top) ∷ []

  -- t and a, as they are left
  abbrev pub prove_result : KeySlices → (positions u v r s α : List ℕ) → List ℕ × List ℕ
  prove_result lent positions u v r s α =
      (masked_bytes (system l key lent) (witness_of key.n positions) u, proof_words l (system l key lent) (witness_of key.n positions) v r s α)

  unfoldable pub prove_outcome : KeySlices → (positions u v r s α t a : List ℕ) → Answer × (List ℕ × List ℕ)
  prove_outcome lent positions u v r s α t a = decided (prove_rows lent positions u v r s α t a ++ tops_row lent positions v) (prove_result lent positions u v r s α) (t, a)
