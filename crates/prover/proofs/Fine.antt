-- What holds of the slices lent to prove where none of refusals 1 to 7 applies.
use mathlib.Core.Path.{◌≡◌}
use mathlib.Core.Bool.{false}
use mathlib.Core.List.{List, [], ◌∷◌}
use Prim.Native.Nat.{ℕ, ◌+◌, ◌^◌, ◌≤◌, ◌<◌}
use native.Mathlib.Nat.{mul-le-mul}
use native.Mathlib.Omega.{arith}
use lib.ListN.{length, get_or}
use Rattle.lists.specs.Lent.{long}
use Rattle.lists.proofs.Lent.{each_long}
use Rattle.refusal.specs.Answer.{first_of, Done}
use Rattle.refusal.proofs.Answers.{both_done}
use Rattle.field.specs.declared.Level.{Level}
use Rattle.field.specs.Level.{FIRST, level_at}
use Rattle.field.proofs.Fields.{bounded, first-most, first-narrow}
use Rattle.field.specs.Word.{Words}
use Rattle.row.specs.Elements.{Bits, Fits}
use Rattle.row.specs.Lent.{LentKey, LentTarget}
use Rattle.key.specs.declared.Key.{Key}
use Rattle.key.specs.declared.Lengths.{Lengths}
use Rattle.key.specs.Key.{degree, KeySlices, lengths, Sized, below, codes_of, is_too_large, withins, spare_row}
use Rattle.key.proofs.Sized.{degree-fits}
use Rattle.key.proofs.Fine.{below-lt, each_within}
use Rattle.key.proofs.Codes.{codes_lt}
use Rattle.key.proofs.Checked.{checked}
use Rattle.constraints.proofs.Fine.{words-lt, lent_key, lent-target}
use Rattle.prover.specs.Entry.{prove_lent, rows_to7, prove_rows}

module _ (number : ℕ) (key : Key) where
  abbrev l : Level
  l = level_at number

  abbrev len : Lengths
  len = lengths l key

  pub record ProveFine (lent : KeySlices) (positions u v r s α t a : List ℕ) : Type 0 where
    pub is-sized : Sized l key
    pub is_key : LentKey l key.n key.m lent.h lent.x
    pub is-target : LentTarget l key.m lent.y
    pub positions-length : length positions ≡ len.positions
    pub u-length : length u ≡ len.bits
    pub v-length : length v ≡ len.elements
    pub r-length : length r ≡ len.masks
    pub s-length : length s ≡ len.masks
    pub α-length : length α ≡ len.values
    pub t-length : length t ≡ len.bits
    pub a-length : length a ≡ len.proof
    pub u-bits : Bits u
    pub v-words : Words l v
    pub r-words : Words l r
    pub s-words : Words l s
    pub α-words : Words l α
    pub none-large : is_too_large (codes_of key.n positions) ≡ false
    pub positions-lt : (i : ℕ) → get_or positions i 0 < 2 ^ degree key.n

  pub prove_fine : (lent : KeySlices) (positions u v r s α t a : List ℕ) → first_of (rows_to7 l key lent positions u v r s α t a) ≡ Done → ProveFine lent positions u v r s α t a
  prove_fine lent positions u v r s α t a e =
      let c = checked l key (long (prove_lent len lent positions u v r s α t a)) lent (below 1 u) (withins l (v ∷ r ∷ s ∷ α ∷ [])) (codes_of key.n positions) e in
      let b = each_long (prove_lent len lent positions u v r s α t a) c.slices-fine in
      let f = each_within l (v ∷ r ∷ s ∷ α ∷ []) c.coordinates-fine in
      record {
        is-sized = c.is-sized;
        is_key = lent_key number key lent b.0 b.1.0 c.elements-fine;
        is-target = lent-target number key lent b.1.1.0 c.elements-fine;
        positions-length = b.1.1.1.0;
        u-length = b.1.1.1.1.0;
        v-length = b.1.1.1.1.1.0;
        r-length = b.1.1.1.1.1.1.0;
        s-length = b.1.1.1.1.1.1.1.0;
        α-length = b.1.1.1.1.1.1.1.1.0;
        t-length = b.1.1.1.1.1.1.1.1.1.0;
        a-length = b.1.1.1.1.1.1.1.1.1.1.0;
        u-bits = below-lt 1 u c.bits-fine;
        v-words = words-lt number key v f.0;
        r-words = words-lt number key r f.1.0;
        s-words = words-lt number key s f.1.1.0;
        α-words = words-lt number key α f.1.1.1.0;
        none-large = c.positions-fine;
        positions-lt = codes_lt key.n (degree-fits key.n (omega (arith, c.is-sized.most, (bounded number).most))) positions c.positions-fine;
      }

  -- the same where 16 does not apply either
  pub passed_fine : (lent : KeySlices) (positions u v r s α t a : List ℕ) → first_of (prove_rows l key lent positions u v r s α t a) ≡ Done → ProveFine lent positions u v r s α t a
  passed_fine lent positions u v r s α t a e = prove_fine lent positions u v r s α t a (both_done (rows_to7 l key lent positions u v r s α t a) (spare_row (codes_of key.n positions)) e).0

-- the room for n + m elements
pub elements-room : (key : Key) → Sized (level_at FIRST) key → Fits (level_at FIRST) (key.n + key.m) 1524
elements-room key s = (mul-le-mul first-narrow all, omega (arith, all))
  where
    all : key.n + key.m ≤ 127
    all = omega (arith, s.most, s.fewer, first-most)
