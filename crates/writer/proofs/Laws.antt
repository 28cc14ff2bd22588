-- The writer undoes the reader.
use Rattle.refusal.specs.declared.Refusal.TheVariants.{ShortOutput}
use mathlib.Core.Path.{◌≡◌, refl, sym, ap, ◌∙◌}
use mathlib.Core.List.{[], ◌∷◌, ◌++◌}
use Prim.Native.Nat.{◌≤◌}
use native.Mathlib.Omega.{arith}
use borrow.Author.Tests.{le-ltb}
use lib.ListN.{length, drop}
use Rattle.lists.specs.Lent.{long}
use Rattle.lists.proofs.Lent.{Long, long-each}
use Rattle.refusal.specs.Answer.{first_of, written as kept, room_row, Done}
use Rattle.refusal.proofs.Answers.{after-done}
use Rattle.field.specs.Level.{FIRST, level_at}
use Rattle.key.specs.declared.Code.TheVariants.{Column}
use Rattle.key.specs.Key.{lengths, below, withins}
use Rattle.key.proofs.Checked.{checked-done}
use Rattle.package.specs.Written.{KeyData, Group, package_form, written}
use Rattle.package.proofs.Opening.{valid-stands}
use Rattle.package.proofs.Said.{package_data, package_said}
use Rattle.std.specs.Prelude.{Ok}
use Rattle.writer.specs.Entry.{length_as, write_lent, write_checks, write_rows, write_outcome}
use Rattle.writer.specs.Laws.{WritesBack}

-- no check refuses data within the limits
checks-done : (k : KeyData) (g : Group) → (package_form (level_at FIRST)).Limits (k, g) → first_of (write_checks (level_at FIRST) k.sizes k.slices g.t g.a) ≡ Done
checks-done k g v =
    let l = level_at FIRST in
    let lent = write_lent (lengths l k.sizes) k.slices g.t g.a in
    let fine : Long lent = (v.0.h.0, (v.0.x.0, (v.0.y.0, (v.1.t.0, (v.1.a.0, tt))))) in
    checked-done l k.sizes (long lent) k.slices (below 1 g.t) (withins l (g.a ∷ [])) Column (record {
      is-sized = v.0.sized;
      slices-fine = long-each lent fine;
      elements-fine = rw (v.0.h.1, v.0.x.1, v.0.y.1);
      rows-fine = valid-stands k v.0;
      bits-fine = v.1.t.1;
      coordinates-fine = rw v.1.a.1;
      positions-fine = refl;
    })

pub writes_back : WritesBack (level_at FIRST)
unfolding write_outcome
writes_back s b e out h =
    let l = level_at FIRST in
    let w = package_said s b e in
    let k = (package_data s).0 in
    let g = (package_data s).1 in
    let bytes = written (package_form l) (k, g) in
    let room : length bytes ≤ length out = omega (arith, ap length w.1) in
    let done : first_of (write_rows l k.sizes k.slices g.serial g.t g.a (length out)) ≡ Done
    = after-done (write_checks l k.sizes k.slices g.t g.a) (room_row (length bytes) (length out)) (checks-done k g w.0) ∙ (λ i. first_of ((le-ltb (length out) (length bytes) room i, ShortOutput) ∷ [])) in
    ap (λ r. (length_as r (length bytes), kept r (bytes ++ drop (length bytes) out) out)) done ∙ ap (λ u. (Ok (length u), u ++ drop (length u) out)) (sym w.1)
