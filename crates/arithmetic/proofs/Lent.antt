-- What holds of the slices lent to sum and product where no refusal applies, and what they then hold.
use Rattle.refusal.specs.declared.Refusal.{Refusal}
use Rattle.refusal.specs.declared.Refusal.TheVariants.{SliceLength, Coordinate}
use mathlib.Core.Path.{◌≡◌, sym, ◌∙◌}
use mathlib.Core.Bool.{Bool, true, not}
use mathlib.Core.List.{List, [], ◌∷◌}
use Prim.Native.Nat.{ℕ, ◌^◌, ◌<◌}
use native.Mathlib.Omega.{arith}
use borrow.Author.Tests.{eqb-true, leb-true, not-false}
use lib.Dec.{leb}
use lib.ListN.{length, get_or}
use Rattle.lists.specs.Words.{part, put}
use Rattle.lists.proofs.Words.{part-whole, put_whole, all-at}
use Rattle.refusal.specs.Answer.{first_of, Answer, Done}
use Rattle.refusal.proofs.Answers.{none}
use Rattle.field.specs.Level.{first, K}
use Rattle.field.specs.Word.{element, words, within}
use Rattle.arithmetic.specs.Entry.{long, rows}
use Rattle.field.proofs.Elements.{words-length, words-element-lt}

pub record Lent (a b out : List ℕ) : Type 0 where
  pub a-length : length a ≡ first.coordinates
  pub b-length : length b ≡ first.coordinates
  pub out_length : length out ≡ first.coordinates
  pub a-words : part 0 first.coordinates a ≡ words first (element first a)
  pub b-words : part 0 first.coordinates b ≡ words first (element first b)

-- words within the limit are those of an element
pub within-words : (s : List ℕ) → length s ≡ first.coordinates → within first s ≡ true → part 0 first.coordinates s ≡ words first (element first s)
unfolding within
within-words s n e = part-whole first.coordinates s n ∙ sym (words-element-lt first s n below)
  where
    below : (i : ℕ) → i < first.coordinates → get_or s i 0 < 2 ^ first.width
    below i h = omega (arith, leb-true (get_or s i 0) first.limit (all-at (λ x. leb x first.limit) s e i (omega arith)))

-- the rows after each that concerns a length, and after those
module _ (a b out : List ℕ) where
  abbrev pub rows4 : List (Bool × Refusal)
  rows4 = (not (within first b), Coordinate) ∷ []

  abbrev pub rows3 : List (Bool × Refusal)
  rows3 = (not (within first a), Coordinate) ∷ rows4

  abbrev pub rows2 : List (Bool × Refusal)
  rows2 = (not (long out), SliceLength) ∷ rows3

  abbrev pub rows1 : List (Bool × Refusal)
  rows1 = (not (long b), SliceLength) ∷ rows2

  lent : first_of (rows a b out) ≡ Done → Lent a b out
  lent e =
      let f = none (rows a b out) e in
      let la : length a ≡ first.coordinates = eqb-true (length a) first.coordinates (not-false (long a) f.0) in
      let lb : length b ≡ first.coordinates = eqb-true (length b) first.coordinates (not-false (long b) f.1.0) in
      record {
        a-length = la;
        b-length = lb;
        out_length = eqb-true (length out) first.coordinates (not-false (long out) f.1.1.0);
        a-words = within-words a la (not-false (within first a) f.1.1.1.0);
        b-words = within-words b lb (not-false (within first b) f.1.1.1.1.0);
      }

  -- past the refusals
  pub slices : {r : Answer} → r ≡ first_of (rows a b out) → r ≡ Done → Lent a b out
  slices e d = lent (sym e ∙ d)

-- an element stored in a slice as long
pub stored : (s : List ℕ) {t : List ℕ} (x : (K first).Carrier) → length s ≡ first.coordinates → t ≡ put 0 (words first x) s → t ≡ words first x
stored s x n e = e ∙ put_whole (words first x) s (words-length first x ∙ sym n)
