-- The rows of an entry that takes a key: sizes, and then refusals 3, 4, 15, 5 to 7, and 16.
use Rattle.std.specs.Prelude.{Err}
use Rattle.refusal.specs.declared.Refusal.TheVariants.{SliceLength, KeyElement, Bit, Coordinate, Position, DependentRows}
use mathlib.Core.Path.{◌≡◌, sym, ap, ◌∙◌}
use mathlib.Core.Bool.{Bool, true, false, not}
use mathlib.Core.List.{List, [], ◌∷◌, ◌++◌}
use Prim.Native.Nat.{ℕ}
use borrow.Author.Tests.{not-false, eq-eqb, ne_eqb}
use lib.Dec.{eqb}
use Rattle.refusal.specs.Answer.{first_of, Answer, Done}
use Rattle.refusal.specs.declared.Refusal.{Refusal}
use Rattle.refusal.proofs.Answers.{none, after-done, after-refused, pass, stop}
use Rattle.field.specs.declared.Level.{Level}
use Rattle.elimination.specs.Rank.{short}
use Rattle.key.specs.declared.Key.{Key}
use Rattle.key.specs.declared.Code.{Code}
use Rattle.key.specs.Key.{KeySlices, sizes, key_within, is_too_large, contents, material, checks, spare_row, Sized}
use Rattle.key.proofs.Codes.{spare_taken, taken}
use Rattle.key.proofs.Sized.{sized, sizes-done}

module _ (l : Level) (key : Key) where
  -- what holds where no row applies
  pub record Checked (slices : Bool) (lent : KeySlices) (bits coordinates : Bool) (positions : Code) : Type 0 where
    pub is-sized : Sized l key
    pub slices-fine : slices ≡ true
    pub elements-fine : key_within l lent ≡ true
    pub rows-fine : short l key.n key.m lent.h ≡ false
    pub bits-fine : bits ≡ true
    pub coordinates-fine : coordinates ≡ true
    pub positions-fine : is_too_large positions ≡ false

  module _ (slices : Bool) (lent : KeySlices) (bits coordinates : Bool) (positions : Code) where
    pub checked : first_of (sizes l key ++ checks l key slices lent bits coordinates positions) ≡ Done → Checked slices lent bits coordinates positions
    checked e =
        let f = none (sizes l key ++ checks l key slices lent bits coordinates positions) e in
        let g = f.1.1.1.1 in
        record {
          is-sized = sized l key (f.0, (f.1.0, (f.1.1.0, (f.1.1.1.0, tt))));
          slices-fine = not-false slices g.0;
          elements-fine = not-false (key_within l lent) g.1.0;
          rows-fine = g.1.1.0;
          bits-fine = not-false bits g.1.1.1.0;
          coordinates-fine = not-false coordinates g.1.1.1.1.0;
          positions-fine = g.1.1.1.1.1.0;
        }

    -- and the other way round
    pub checked-done : Checked slices lent bits coordinates positions → first_of (sizes l key ++ checks l key slices lent bits coordinates positions) ≡ Done
    checked-done c = after-done (sizes l key) (checks l key slices lent bits coordinates positions) (sizes-done l key c.is-sized)
        ∙ (λ t. first_of ((not (c.slices-fine t), SliceLength) ∷ (not (c.elements-fine t), KeyElement) ∷ (c.rows-fine t, DependentRows) ∷ (not (c.bits-fine t), Bit) ∷ (not (c.coordinates-fine t), Coordinate) ∷ (c.positions-fine t, Position) ∷ []))

    -- past the sizes, the lengths, then the key and then the material decide, whatever rows follow; the lengths are told by the test of a number k
    module _ (others : List (Bool × Refusal)) (h : first_of (sizes l key) ≡ Done) (k : ℕ) (e : eqb k 0 ≡ slices) where
      module _ (z : k ≡ 0) where
        past : first_of (contents l key lent ++ (material bits coordinates positions ++ others)) ≡ first_of (sizes l key ++ checks l key slices lent bits coordinates positions ++ others)
        past = sym (after-done (sizes l key) (checks l key slices lent bits coordinates positions ++ others) h ∙ pass SliceLength (contents l key lent ++ (material bits coordinates positions ++ others)) (ap not (sym e ∙ eq-eqb k 0 z)))

        pub told-key : {r : Answer} {q : Refusal} → r ≡ first_of (contents l key lent) → r ≡ Err q → r ≡ first_of (sizes l key ++ checks l key slices lent bits coordinates positions ++ others)
        told-key f g = after-refused (contents l key lent) (material bits coordinates positions ++ others) f g ∙ past

        past-key : first_of (contents l key lent) ≡ Done → first_of (material bits coordinates positions ++ others) ≡ first_of (sizes l key ++ checks l key slices lent bits coordinates positions ++ others)
        past-key f = sym (after-done (contents l key lent) (material bits coordinates positions ++ others) f) ∙ past

    -- the material is told by the tests c and d and by the case p: in an entry that refuses spare codes, and in one that does not
    module _ (h : first_of (sizes l key) ≡ Done) (k : ℕ) (e : eqb k 0 ≡ slices) (z : k ≡ 0) (f : first_of (contents l key lent) ≡ Done) {c d : Bool} {p : Code} {r : Answer} (q : r ≡ first_of (material c d p ++ spare_row p)) (g : c ≡ bits) (i : d ≡ coordinates) where
      pub told-spare : p ≡ positions → r ≡ first_of (sizes l key ++ checks l key slices lent bits coordinates positions ++ spare_row positions)
      told-spare j = q ∙ (λ t. first_of (material (g t) (i t) (j t) ++ spare_row (j t))) ∙ past-key (spare_row positions) h k e z f

      pub told : p ≡ spare_taken positions → r ≡ first_of (sizes l key ++ checks l key slices lent bits coordinates positions)
      told j = q ∙ (λ t. first_of (material (g t) (i t) (j t) ++ spare_row (j t))) ∙ taken bits coordinates positions ∙ past-key [] h k e z f
