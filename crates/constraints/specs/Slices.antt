-- What the lent slices mean, and what is written to them.
use Rattle.std.specs.Prelude.{Bool, cond, List, [], ◌∷◌, ℕ, suc, ◌+◌, ◌*◌, ◌%◌, get_or}
use Rattle.lists.specs.Words.{part, concat}
use Rattle.field.specs.Ring.{Ring}
use Rattle.field.specs.declared.Level.{Level}
use Rattle.field.specs.Level.{F, K, embed}
use Rattle.field.specs.Word.{odd, vector, small_at, element, words}
use Rattle.constraints.specs.Graded.{Polynomial, coefficient}
use Rattle.constraints.specs.System.{System, masked, polynomial, value}
use Rattle.key.specs.Key.{degree, KeySlices}
use Rattle.constraints.specs.Digits.{Instance, witness}
use Rattle.constraints.specs.Modelling.{digits}

-- "Bits are lent as bytes 0 or 1; bits, offsets and q go row after row, k = 0 first": bit (i,k), with `places` bits in a row
unfoldable pub bits : (places : ℕ) → List ℕ → ℕ → ℕ → Bool
bits places s i k = odd (get_or s (i * places + k) 0 % 2)

-- what is written: the masked witness, of the witness w and the mask bits u
unfoldable pub masked_bytes : {K : Ring} (S : System K) (w : ℕ → ℕ → Bool) (u : List ℕ) → List ℕ
masked_bytes S w u = concat S.rows (λ i. concat S.places (λ k. cond (masked w (bits S.places u) i k) 1 0 ∷ []))

module _ (l : Level) where
  -- element i of a slice of elements of K, "coordinate 0 first"
  unfoldable pub element_at : List ℕ → ℕ → (K l).Carrier
  element_at s i = element l (part (l.coordinates * i) l.coordinates s)

  -- element (i,k) of K, with `places` elements in a row
  unfoldable pub elements : (places : ℕ) → List ℕ → ℕ → ℕ → (K l).Carrier
  elements places s i k = element_at s (i * places + k)

  -- polynomial j of a slice: "each of the n + m polynomials has d + 1 coefficients, lowest power first"
  unfoldable pub polynomial_at : (d : ℕ) → List ℕ → ℕ → Polynomial (K l) d
  polynomial_at d s j = vector (suc d) (elements (suc d) s j)

  module _ (S : System (K l)) where
    -- what is written: all polynomials, of the witness w and the offsets v, "polynomial 0 first"
    unfoldable pub polynomial_words : (w : ℕ → ℕ → Bool) (v : List ℕ) → List ℕ
    polynomial_words w v = concat S.size (λ j. concat (suc S.degree) (λ k. words l (coefficient (K l) (suc S.degree) (polynomial S w (elements S.places v) j) k)))

    -- what is written: all values, "value j from polynomial j"
    unfoldable pub value_words : (t q Δ : List ℕ) → List ℕ
    value_words t q Δ = concat S.size (λ j. words l (value S (bits S.places t) (elements S.places q) (element l Δ) j))

  -- "H has m rows of n elements of F, row after row. The vector x has n elements of F.", and "a target y of m elements of F"
  abbrev pub key_of : (n m : ℕ) → KeySlices → Instance (F l)
  key_of n m lent = record { n = n; m = m; H = λ e i. small_at l lent.h (e * n + i); x = small_at l lent.x; y = small_at l lent.y }

  -- the system of a key, with d digits
  abbrev pub system_of : (n m : ℕ) → KeySlices → System (K l)
  system_of n m lent = digits (embed l) (key_of n m lent) (degree n)

-- "The prover has n positions, one byte each", and their witness
abbrev pub position_at : List ℕ → ℕ → ℕ
position_at positions i = get_or positions i 0

abbrev pub witness_of : (n : ℕ) (positions : List ℕ) → ℕ → ℕ → Bool
witness_of n positions = witness (degree n) (position_at positions)
