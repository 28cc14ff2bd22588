-- The starred examples of the specification: what the definitions give, beside the result that it states.
use Rattle.refusal.specs.declared.Refusal.{Refusal}
use Rattle.std.specs.Prelude.{Result, List, [], ◌∷◌, ◌++◌, ℕ, suc, ◌+◌, ◌*◌, set, replicate}
use Rattle.lists.specs.Words.{part, concat}
use Rattle.field.specs.Level.{first, F, K}
use Rattle.field.specs.Word.{small, word, element, words}
use Rattle.refusal.specs.Answer.{number_of, Answer}
use Rattle.refusal.specs.Verdict.{verdict_number}
use Rattle.refusal.specs.declared.Verdict.{Verdict}
use Rattle.key.specs.declared.Key.{Key}
use Rattle.key.specs.Key.{degree, KeySlices, key_slices, lengths}
use Rattle.constraints.specs.System.{System}
use Rattle.constraints.specs.Slices.{masked_bytes, polynomial_words, value_words, system_of, witness_of}
use Rattle.prover.specs.Entry.{prove_outcome}
use Rattle.verifier.specs.Entry.{verify_outcome}

pub record Example : Type 0 where
  pub given : List ℕ
  pub stated : List ℕ

-- "in F, a times b"
unfoldable pub in_f : ℕ → ℕ → List ℕ
in_f a b = word first ((F first).mul (small first a) (small first b)) ∷ []

-- "Elements of K below have only the coordinates shown, the rest 0": Y^i, and the product of two elements
abbrev pub zeros : List ℕ
zeros = replicate first.coordinates 0

abbrev pub Y^ : ℕ → List ℕ
Y^ i = set zeros i 1

unfoldable pub in_k : List ℕ → List ℕ → List ℕ
in_k a b = words first ((K first).mul (element first a) (element first b))

-- "a bare number is coordinate 0": its words, and those of several, one after the other
abbrev pub bare : ℕ → List ℕ
bare a = set zeros 0 a

unfoldable pub bares : List ℕ → List ℕ
bares [] = []
bares (a ∷ s) = bare a ++ bares s

-- a key with offsets v, mask bits u, masks r and s, and weights α; elements of K are bare numbers
pub record Numbers : Type 0 where
  pub n : ℕ
  pub m : ℕ
  pub lent : KeySlices
  pub v : List ℕ
  pub u : List ℕ
  pub r : List ℕ
  pub s : List ℕ
  pub α : List ℕ

module _ (key : Numbers) where
  open key use {n, m, lent, v, u, r, s, α}

  abbrev system : System (K first)
  system = system_of first n m lent

  -- what constraints writes: t, and the words of all polynomials
  unfoldable pub t_of : (positions : List ℕ) → List ℕ
  t_of positions = masked_bytes system (witness_of n positions) u

  unfoldable pub polynomials_of : (positions : List ℕ) → List ℕ
  polynomials_of positions = polynomial_words first system (witness_of n positions) (bares v)

  -- of these words, those of the tops of the columns: coefficient d of each of the first n polynomials
  unfoldable pub column_tops : (positions : List ℕ) → List ℕ
  column_tops positions = concat n (λ j. part (first.coordinates * (j * suc (degree n) + degree n)) first.coordinates (polynomials_of positions))

  -- what values writes: the words of all values
  unfoldable pub values_of : (t q : List ℕ) (Δ : ℕ) → List ℕ
  values_of t q Δ = value_words first system t (bares q) (bare Δ)

  abbrev pub sizes : Key
  sizes = record { n = n; m = m }

  -- what prove answers and leaves in t and a, lent as zeros of their lengths
  unfoldable pub prove_of : (positions : List ℕ) → Answer × (List ℕ × List ℕ)
  prove_of positions = prove_outcome first sizes lent positions u (bares v) (bares r) (bares s) (bares α) (replicate (lengths first sizes).bits 0) (replicate (lengths first sizes).proof 0)

  -- what verify answers
  unfoldable pub verdict_of : (t q : List ℕ) (Δ : ℕ) (masks a : List ℕ) → Result Verdict Refusal
  verdict_of t q Δ masks a = verify_outcome first sizes lent t (bares q) (bare Δ) (bares masks) (bares α) (bares a)

-- "Key A is n = 2, m = 1, H = (2 1), x = (1 2), v = (1, 4), u = (1, 0)."; "α = 1, 2, 1"; d is 1, so there are no masks
abbrev pub A : Numbers
A = record { n = 2; m = 1; lent = key_slices (2 ∷ 1 ∷ []) (1 ∷ 2 ∷ []) (0 ∷ []); v = 1 ∷ 4 ∷ []; u = 1 ∷ 0 ∷ []; r = []; s = []; α = 1 ∷ 2 ∷ 1 ∷ [] }

-- "n = 3": the document leaves the other numbers open, as neither the column tops nor this answer of prove depend on them
abbrev pub three : Numbers
three = record { n = 3; m = 1; lent = key_slices (1 ∷ 0 ∷ 0 ∷ []) (0 ∷ 1 ∷ 2 ∷ []) (0 ∷ []); v = 1 ∷ 2 ∷ 3 ∷ 4 ∷ 5 ∷ 6 ∷ []; u = replicate 6 0; r = 7 ∷ []; s = 8 ∷ []; α = 1 ∷ 2 ∷ 3 ∷ 4 ∷ [] }

abbrev pub starred : List Example
starred =
    -- "in F, 1024 times 2": "5"
    record { given = in_f 1024 2; stated = 5 ∷ [] }
    -- "in F, 1024 times 1024": "517"
    ∷ record { given = in_f 1024 1024; stated = 517 ∷ [] }
    -- "in F, 2047 times 2": "2043"
    ∷ record { given = in_f 2047 2; stated = 2043 ∷ [] }
    -- "Y^11 times Y": "ones in coordinates 0 and 3"
    ∷ record { given = in_k (Y^ 11) (Y^ 1); stated = set (set zeros 0 1) 3 1 }
    -- "Y^11 times Y^11": "ones in coordinates 1, 4, 10"
    ∷ record { given = in_k (Y^ 11) (Y^ 11); stated = set (set (set zeros 1 1) 4 1) 10 1 }
    -- "key A, positions 0 1": "t = 1 1; polynomials 5, 5, 10, tops all 0"
    ∷ record { given = t_of A (0 ∷ 1 ∷ []); stated = 1 ∷ 1 ∷ [] }
    ∷ record { given = polynomials_of A (0 ∷ 1 ∷ []); stated = bares (5 ∷ 0 ∷ 5 ∷ 0 ∷ 10 ∷ 0 ∷ []) }
    -- "the same, Δ = 2, q = 3, 4": "values 5, 5, 10"
    ∷ record { given = values_of A (1 ∷ 1 ∷ []) (3 ∷ 4 ∷ []) 2; stated = bares (5 ∷ 5 ∷ 10 ∷ []) }
    -- "the same, α = 1, 2, 1": "a = 5, accepted; a = 4 rejected"
    ∷ record { given = number_of (prove_of A (0 ∷ 1 ∷ [])).0 ∷ []; stated = 0 ∷ [] }
    ∷ record { given = (prove_of A (0 ∷ 1 ∷ [])).1.1; stated = bares (5 ∷ []) }
    ∷ record { given = verdict_number (verdict_of A (1 ∷ 1 ∷ []) (3 ∷ 4 ∷ []) 2 [] (5 ∷ [])) ∷ []; stated = 0 ∷ [] }
    ∷ record { given = verdict_number (verdict_of A (1 ∷ 1 ∷ []) (3 ∷ 4 ∷ []) 2 [] (4 ∷ [])) ∷ []; stated = 255 ∷ [] }
    -- "n = 3, positions 1 1 1": "column tops 1, 0, 1"
    ∷ record { given = column_tops three (1 ∷ 1 ∷ 1 ∷ []); stated = bares (1 ∷ 0 ∷ 1 ∷ []) }
    -- "n = 3, positions 0 1 3": "column tops 0, 0, 1"; "the example 0 1 3 now answers 16"
    ∷ record { given = column_tops three (0 ∷ 1 ∷ 3 ∷ []); stated = bares (0 ∷ 0 ∷ 1 ∷ []) }
    ∷ record { given = number_of (prove_of three (0 ∷ 1 ∷ 3 ∷ [])).0 ∷ []; stated = 16 ∷ [] }
    ∷ []
