-- Numbers and words as elements of F and K, and back.
use Rattle.std.specs.Prelude.{Bool, true, false, cond, List, [], ◌∷◌, ℕ, zero, suc, ◌+◌, ◌*◌, ◌/◌, ◌%◌, ◌^◌, ◌<◌, leb, eqb, get_or}
use Rattle.lists.specs.Words.{all}
use Rattle.field.specs.Vector.{Vector}
use Rattle.field.specs.Level.{F, K}
use Rattle.field.specs.declared.Level.{Level}

abbrev pub odd : ℕ → Bool
odd zero = false
odd (suc i) = true

-- "Bit i of a number is the coefficient of z to the power i": the n lowest bits, lowest first, and the number of such bits
unfoldable pub digits : (n : ℕ) → ℕ → Vector Bool n
digits zero x = tt
digits (suc n) x = (odd (x % 2), digits n (x / 2))

unfoldable pub number : (n : ℕ) → Vector Bool n → ℕ
number zero v = 0
number (suc n) v = cond v.0 1 0 + 2 * number n v.1

-- f 0, f 1, .., f (n - 1) as a vector, and the list of the numbers that f makes of a vector's places
unfoldable pub vector : {A : Type 0} (n : ℕ) → (ℕ → A) → Vector A n
vector zero f = tt
vector (suc n) f = (f 0, vector n (λ i. f (suc i)))

unfoldable pub list : {A : Type 0} (n : ℕ) → (A → ℕ) → Vector A n → List ℕ
list zero f v = []
list (suc n) f v = f v.0 ∷ list n f v.1

-- a word as an element of F, and the word of one
unfoldable pub small : (l : Level) → ℕ → (F l).Carrier
unfolding F
small l x = digits l.width x

unfoldable pub word : (l : Level) → (F l).Carrier → ℕ
unfolding F
word l a = number l.width a

-- element i of a slice of elements of F, "one word" each
unfoldable pub small_at : (l : Level) → List ℕ → ℕ → (F l).Carrier
small_at l s i = small l (get_or s i 0)

-- "In lent slices one element is twelve 16-bit words, coordinate 0 first": words as an element of K, and the words of one
unfoldable pub element : (l : Level) → List ℕ → (K l).Carrier
unfolding K
element l s = vector l.coordinates (λ i. small l (get_or s i 0))

unfoldable pub words : (l : Level) → (K l).Carrier → List ℕ
unfolding K
words l a = list l.coordinates (word l) a

-- no word is above the level's limit
unfoldable pub within : Level → List ℕ → Bool
within l s = all (λ x. leb x l.limit) s

-- every word has at most width bits
abbrev pub Words : Level → List ℕ → Type 0
Words l s = (k : ℕ) → get_or s k 0 < 2 ^ l.width

-- an element of K is zero: its words are
unfoldable pub is_zero : (l : Level) → (K l).Carrier → Bool
is_zero l a = all (λ x. eqb x 0) (words l a)

-- two elements of K are equal: their difference is zero, and minus is plus
unfoldable pub equal : (l : Level) → (a b : (K l).Carrier) → Bool
equal l a b = is_zero l ((K l).add a b)
