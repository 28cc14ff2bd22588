-- The key: its sizes, d, when it is well formed, and what positions are.
use Rattle.refusal.specs.declared.Refusal.{Refusal}
use Rattle.refusal.specs.declared.Refusal.TheVariants.{SizeN, SizeM, SliceLength, KeyElement, Bit, Coordinate, Position, DependentRows, SpareCode}
use Rattle.std.specs.Prelude.{◌≡◌, ◌↔◌, Bool, true, false, not, cond, ◌&&◌, List, [], ◌∷◌, ◌++◌, ℕ, zero, suc, ◌+◌, ◌-◌, ◌*◌, ◌^◌, ◌≤◌, ◌<◌, leb, ltb, eqb}
use Rattle.std.specs.Int.Count.{count_leading_zeros}
use Rattle.field.specs.declared.Level.{Level}
use Rattle.field.specs.Word.{within}
use Rattle.lists.specs.Words.{all}
use Rattle.refusal.specs.Answer.{first_of, Done}
use Rattle.elimination.specs.Rank.{short, Leaning}
use Rattle.key.specs.declared.Key.{Key}
use Rattle.key.specs.declared.Lent.{Lent}
use Rattle.key.specs.declared.Lengths.{Lengths}
use Rattle.key.specs.declared.Code.{Code}
use Rattle.key.specs.declared.Code.TheVariants.{Column, Spare, TooLarge}

-- "d is the number of binary digits of n - 1", of a number n below 2^64
unfoldable pub degree : ℕ → ℕ
degree n = 64 - count_leading_zeros 64 (n - 1)

-- what a modelling fixes: the rows and places of the stored bits, the degree and the number of its constraints
pub record Shape : Type 0 where
  pub rows : ℕ
  pub places : ℕ
  pub degree : ℕ
  pub size : ℕ

-- digits: "w(i,k) is digit k of position i, k from 0 to d - 1", and "n + m polynomials" of "d + 1 coefficients" each
abbrev pub shape : Key → Shape
shape key = record { rows = key.n; places = degree key.n; degree = degree key.n; size = key.n + key.m }

-- the lengths stated for the lent slices, in bytes or words
abbrev pub lengths : Level → Key → Lengths
lengths l key = record {
  matrix = key.m * key.n;
  vector = key.n;
  target = key.m;
  positions = (shape key).rows;
  bits = (shape key).rows * (shape key).places;
  elements = l.coordinates * ((shape key).rows * (shape key).places);
  polynomials = l.coordinates * ((shape key).size * ((shape key).degree + 1));
  values = l.coordinates * (shape key).size;
  masks = l.coordinates * ((shape key).degree - 1);
  proof = l.coordinates * (shape key).degree;
  one = l.coordinates;
}

-- place 'sizes': "n below 2 or above 64", 64 being the level's
abbrev pub size_n : Level → ℕ → List (Bool × Refusal)
size_n l n = (ltb n 2, SizeN) ∷ (ltb l.most n, SizeN) ∷ []

-- and "m is 0, or at least n"
abbrev pub sizes : Level → Key → List (Bool × Refusal)
sizes l key = size_n l key.n ++ ((eqb key.m 0, SizeM) ∷ (leb key.n key.m, SizeM) ∷ [])

-- "n is 2 to 64 and m is 1 to n - 1": what holds where none of them applies
pub record Sized (l : Level) (key : Key) : Type 0 where
  pub two : 2 ≤ key.n
  pub most : key.n ≤ l.most
  pub some : 0 < key.m
  pub fewer : key.m < key.n

-- no word of any of the slices is above the level's limit
abbrev pub withins : Level → List (List ℕ) → Bool
withins l [] = true
withins l (s ∷ others) = within l s && withins l others

-- the slices lent for a key: "H has m rows of n elements of F, row after row. The vector x has n elements of F", and y, "m elements of F"
pub record KeySlices : Type 0 where
  pub h : List ℕ
  pub x : List ℕ
  pub y : List ℕ

abbrev pub key_slices : (h x y : List ℕ) → KeySlices
key_slices h x y = record { h = h; x = x; y = y }

-- those that are lent with a key
abbrev pub slices_of : Lent → KeySlices
slices_of lent = key_slices lent.h.now lent.x.now lent.y.now

-- with their lengths
abbrev pub key_lent : Lengths → KeySlices → List (List ℕ × ℕ)
key_lent len k = (k.h, len.matrix) ∷ (k.x, len.vector) ∷ (k.y, len.target) ∷ []

-- no element is above the level's limit
abbrev pub key_within : Level → KeySlices → Bool
key_within l k = withins l (k.h ∷ k.x ∷ k.y ∷ [])

-- every byte has at most k binary digits
unfoldable pub below : ℕ → List ℕ → Bool
below k s = all (λ b. ltb b (2 ^ k)) s

-- what a position is: "a column (below n), a spare code (n to 2^d - 1), or too large"
unfoldable pub code_of : (n position : ℕ) → Code
code_of n position = cond (ltb position n) Column (cond (ltb position (2 ^ degree n)) Spare TooLarge)

-- the number of each case
abbrev pub code_number : Code → ℕ
code_number Column = 0
code_number Spare = 1
code_number TooLarge = 2

-- and the case of each number
abbrev pub code_at : ℕ → Code
code_at zero = Column
code_at (suc zero) = Spare
code_at (suc (suc k)) = TooLarge

-- of two cases the one with the higher number
abbrev pub higher : Code → Code → Code
higher Column c = c
higher Spare Column = Spare
higher Spare Spare = Spare
higher Spare TooLarge = TooLarge
higher TooLarge c = TooLarge

-- what positions are together: too large where one is, otherwise spare codes where one is, otherwise columns
unfoldable pub codes_of : ℕ → List ℕ → Code
codes_of n [] = Column
codes_of n (position ∷ others) = higher (code_of n position) (codes_of n others)

-- whether it is this case
abbrev pub is_spare : Code → Bool
is_spare Column = false
is_spare Spare = true
is_spare TooLarge = false

abbrev pub is_too_large : Code → Bool
is_too_large Column = false
is_too_large Spare = false
is_too_large TooLarge = true

-- place 'key': 4 "an element of H or x is above 2047", or of y, then 15 "when some coefficients from F, not all zero, combine the rows of H to
-- zero", told by the rank: "so a well-formed key now has rows that don't lean on each other"
abbrev pub contents : Level → Key → KeySlices → List (Bool × Refusal)
contents l key lent = (not (key_within l lent), KeyElement) ∷ (short l key.n key.m lent.h, DependentRows) ∷ []

-- place 'material', a row for each number; of words and bytes whether they are in order, of positions what they are, Column where an entry takes
-- none: 5 "a byte of u or t is above 1", 6 "a coordinate of an element of K is above 2047", 7 "a position is 2^d or more". "Constraints still takes
-- spare codes": no row applies to them
abbrev pub material : (bits coordinates : Bool) (positions : Code) → List (Bool × Refusal)
material bits coordinates positions = (not bits, Bit) ∷ (not coordinates, Coordinate) ∷ (is_too_large positions, Position) ∷ []

-- and place 'slices' before them: 3 "a lent slice isn't of its stated length"
abbrev pub checks : (l : Level) (key : Key) (slices : Bool) (lent : KeySlices) (bits coordinates : Bool) (positions : Code) → List (Bool × Refusal)
checks l key slices lent bits coordinates positions = (not slices, SliceLength) ∷ (contents l key lent ++ material bits coordinates positions)

-- refusals 1 to 4 of an entry that takes a key, in order
abbrev pub rows_to4 : (l : Level) (key : Key) (slices : Bool) (lent : KeySlices) → List (Bool × Refusal)
rows_to4 l key slices lent = sizes l key ++ ((not slices, SliceLength) ∷ (not (key_within l lent), KeyElement) ∷ [])

-- past them an entry answers 15 exactly when the rows of H lean on each other. Each function says how its answer tells it.
pub record Leans (l : Level) (key : Key) (slices : Bool) (lent : KeySlices) (IsFifteen : Type 0) : Type 0 where
  pub fifteen : IsFifteen ↔ ((first_of (rows_to4 l key slices lent) ≡ Done) × Leaning l key.n key.m lent.h)

-- 16 "when prove is lent a spare code and none is too large, after 7"
abbrev pub spare_row : (positions : Code) → List (Bool × Refusal)
spare_row positions = (is_spare positions, SpareCode) ∷ []
