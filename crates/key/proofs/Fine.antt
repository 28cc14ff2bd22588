-- What holds of lent words and bytes that no refusal concerns, at every place: past the end a list has zeros.
use mathlib.Core.Path.{◌≡◌, refl, ap₂, ◌∙◌}
use mathlib.Core.Bool.{Bool, true, false, ◌&&◌, and-eq-true_iff}
use mathlib.Core.List.{List, [], ◌∷◌}
use Prim.Native.Nat.{ℕ, ◌^◌, ◌≤◌, ◌<◌}
use native.Mathlib.Omega.{arith}
use borrow.Author.Tests.{le-leb, leb-true, lt-ltb, ltb-true}
use lib.Bits.{bit_or}
use lib.Dec.{leb, ltb, eqb}
use lib.ListN.{get_or}
use lib.Pow.{pow_pos}
use Rattle.lists.proofs.Lent.{or-none}
use Rattle.lists.proofs.Words.{all_everywhere}
use Rattle.field.specs.declared.Level.{Level}
use Rattle.field.specs.Word.{within}
use Rattle.key.specs.Key.{below, withins}

pub within-le : (l : Level) (s : List ℕ) → within l s ≡ true → (k : ℕ) → get_or s k 0 ≤ l.limit
unfolding within
within-le l s e k = leb-true (get_or s k 0) l.limit (all_everywhere (λ x. leb x l.limit) s e (le-leb 0 l.limit (omega arith)) k)

pub below-lt : (d : ℕ) (s : List ℕ) → below d s ≡ true → (k : ℕ) → get_or s k 0 < 2 ^ d
unfolding below
below-lt d s e k = ltb-true (get_or s k 0) (2 ^ d) (all_everywhere (λ b. ltb b (2 ^ d)) s e (lt-ltb 0 (2 ^ d) (pow_pos d)) k)

-- slices tested one by one, and the results joined by or
pub withins_more : (l : Level) (s : List ℕ) (others : List (List ℕ)) (a b : ℕ) → eqb a 0 ≡ within l s → eqb b 0 ≡ withins l others → eqb (bit_or a b) 0 ≡ withins l (s ∷ others)
withins_more l s others a b e f = or-none a b ∙ ap₂ ◌&&◌ e f

pub withins-last : (l : Level) (s : List ℕ) (a : ℕ) → eqb a 0 ≡ within l s → eqb a 0 ≡ withins l (s ∷ [])
withins-last l s a e = e ∙ last (within l s)
  where
    last : (b : Bool) → b ≡ (b && true)
    last true = refl
    last false = refl

-- each of the slices is within the limit
abbrev pub Withins : Level → List (List ℕ) → Type 0
Withins l [] = Unit {0}
Withins l (s ∷ others) = ((k : ℕ) → get_or s k 0 ≤ l.limit) × Withins l others

pub each_within : (l : Level) (slices : List (List ℕ)) → withins l slices ≡ true → Withins l slices
each_within l [] e = tt
each_within l (s ∷ others) e = let b = (and-eq-true_iff (within l s) (withins l others)).0 e in (within-le l s b.0, each_within l others b.1)
