-- What holds of the slices lent to verify where no refusal applies.
use mathlib.Core.Path.{◌≡◌}
use mathlib.Core.List.{List, [], ◌∷◌}
use Prim.Native.Nat.{ℕ, ◌≤◌}
use native.Mathlib.Omega.{arith}
use lib.ListN.{length}
use Rattle.lists.specs.Lent.{long}
use Rattle.lists.proofs.Lent.{each_long}
use Rattle.refusal.specs.Answer.{first_of, Done}
use Rattle.field.specs.declared.Level.{Level}
use Rattle.field.specs.Level.{level_at}
use Rattle.field.proofs.Fields.{bounded}
use Rattle.field.specs.Word.{Words}
use Rattle.row.specs.Elements.{Bits}
use Rattle.row.specs.Lent.{LentKey, LentTarget}
use Rattle.key.specs.declared.Key.{Key}
use Rattle.key.specs.declared.Lengths.{Lengths}
use Rattle.key.specs.declared.Code.TheVariants.{Column}
use Rattle.key.specs.Key.{degree, KeySlices, lengths, Sized, below, withins}
use Rattle.key.proofs.Sized.{degree-some}
use Rattle.key.proofs.Fine.{below-lt, each_within}
use Rattle.key.proofs.Checked.{checked}
use Rattle.constraints.proofs.Fine.{words-lt, lent_key, lent-target}
use Rattle.verifier.specs.Entry.{verify_lent, verify_rows}

module _ (number : ℕ) (key : Key) where
  abbrev l : Level
  l = level_at number

  abbrev len : Lengths
  len = lengths l key

  pub some-degree : Sized l key → 1 ≤ degree key.n
  some-degree s = degree-some key.n s.two (omega (arith, s.most, (bounded number).most))

  pub record VerifyFine (lent : KeySlices) (t q Δ masks α a : List ℕ) : Type 0 where
    pub is-sized : Sized l key
    pub is_key : LentKey l key.n key.m lent.h lent.x
    pub is-target : LentTarget l key.m lent.y
    pub t-length : length t ≡ len.bits
    pub q-length : length q ≡ len.elements
    pub Δ-length : length Δ ≡ len.one
    pub masks-length : length masks ≡ len.masks
    pub α-length : length α ≡ len.values
    pub a-length : length a ≡ len.proof
    pub t-bits : Bits t
    pub q-words : Words l q
    pub Δ-words : Words l Δ
    pub masks-words : Words l masks
    pub α-words : Words l α
    pub a-words : Words l a

  pub verify_fine : (lent : KeySlices) (t q Δ masks α a : List ℕ) → first_of (verify_rows l key lent t q Δ masks α a) ≡ Done → VerifyFine lent t q Δ masks α a
  verify_fine lent t q Δ masks α a e =
      let c = checked l key (long (verify_lent len lent t q Δ masks α a)) lent (below 1 t) (withins l (q ∷ Δ ∷ masks ∷ α ∷ a ∷ [])) Column e in
      let s = each_long (verify_lent len lent t q Δ masks α a) c.slices-fine in
      let f = each_within l (q ∷ Δ ∷ masks ∷ α ∷ a ∷ []) c.coordinates-fine in
      record {
        is-sized = c.is-sized;
        is_key = lent_key number key lent s.0 s.1.0 c.elements-fine;
        is-target = lent-target number key lent s.1.1.0 c.elements-fine;
        t-length = s.1.1.1.0;
        q-length = s.1.1.1.1.0;
        Δ-length = s.1.1.1.1.1.0;
        masks-length = s.1.1.1.1.1.1.0;
        α-length = s.1.1.1.1.1.1.1.0;
        a-length = s.1.1.1.1.1.1.1.1.0;
        t-bits = below-lt 1 t c.bits-fine;
        q-words = words-lt number key q f.0;
        Δ-words = words-lt number key Δ f.1.0;
        masks-words = words-lt number key masks f.1.1.0;
        α-words = words-lt number key α f.1.1.1.0;
        a-words = words-lt number key a f.1.1.1.1.0;
      }
