-- What holds where the writer refuses nothing, and what its answer tells.
use Rattle.refusal.specs.declared.Refusal.TheVariants.{ShortOutput, DependentRows}
use mathlib.Core.Path.{◌≡◌, refl, sym, ap, ap₂, ◌∙◌}
use mathlib.Core.Bool.{Bool, true, and-eq-true_iff}
use mathlib.Core.List.{List, [], ◌∷◌, ◌++◌}
use Prim.Native.Nat.{ℕ, ◌*◌, ◌≤◌, ◌<◌}
use native.Mathlib.Omega.{arith}
use borrow.Author.Tests.{lt-ltb, le-ltb, ltb-false}
use lib.Dec.{ltb}
use lib.ListN.{length, take, drop, length-append}
use lib.Seq.{take_at}
use Rattle.lists.specs.Lent.{long}
use Rattle.lists.proofs.Lent.{each_long}
use Rattle.copying.proofs.Filled.{Stands, first-stands}
use Rattle.refusal.specs.Answer.{first_of, written as kept, room_row, number as paper_number, Answer, Done}
use Rattle.refusal.specs.declared.Refusal.{Refusal}
use Rattle.refusal.proofs.Answers.{none, after-done}
use Rattle.field.specs.declared.Level.{Level}
use Rattle.field.specs.Level.{FIRST, level_at}
use Rattle.field.specs.Word.{within}
use Rattle.elimination.proofs.Leaning.{leaning}
use Rattle.key.specs.declared.Key.{Key}
use Rattle.key.specs.declared.Code.TheVariants.{Column}
use Rattle.key.specs.Key.{KeySlices, lengths, below, withins}
use Rattle.key.proofs.Checked.{Checked, checked}
use Rattle.key.proofs.Leans.{leans}
use Rattle.layout.proofs.Rows.{none-append, none_done}
use Rattle.layout.proofs.Bounds.{bounds}
use Rattle.package.specs.Reading.{package_reader, reading}
use Rattle.package.specs.Written.{package_form, handed}
use Rattle.package.proofs.Forms.{package_faithful}
use Rattle.std.specs.Prelude.{Result, Ok, Err}
use Rattle.writer.specs.Entry.{length_as, data_of, write_lent, package_bytes, write_checks, write_rows, write_leans, write_outcome}
use Rattle.writer.specs.Laws.{ReadBack}

module _ (key : Key) (lent : KeySlices) (t a : List ℕ) where
  abbrev l : Level
  l = level_at FIRST

  -- what holds where the checks find nothing
  pub fine : first_of (write_checks (level_at FIRST) key lent t a) ≡ Done → Checked (level_at FIRST) key (long (write_lent (lengths (level_at FIRST) key) lent t a)) lent (below 1 t) (withins (level_at FIRST) (a ∷ [])) Column
  fine e = checked l key (long (write_lent (lengths l key) lent t a)) lent (below 1 t) (withins l (a ∷ [])) Column e

  -- two bytes can state the length of each field
  pub record Short : Type 0 where
    pub n : key.n < 256
    pub m : key.m < 256
    pub h : 2 * length lent.h < 65536
    pub x : 2 * length lent.x < 65536
    pub y : 2 * length lent.y < 65536
    pub t-bytes : length t < 65536
    pub a-words : 2 * length a < 65536

  pub stated : first_of (write_checks (level_at FIRST) key lent t a) ≡ Done → Short
  stated e =
      let f = fine e in
      let b = bounds key f.is-sized in
      let s = each_long (write_lent (lengths l key) lent t a) f.slices-fine in
      record {
        n = omega (arith, b.vector);
        m = omega (arith, b.target);
        h = omega (arith, b.matrix, s.0);
        x = omega (arith, b.vector, s.1.0);
        y = omega (arith, b.target, s.1.1.0);
        t-bytes = omega (arith, b.bits, s.1.1.1.0);
        a-words = omega (arith, b.proof, s.1.1.1.1.0);
      }

  -- what is lent is within the limits of a package
  pub valid : (serial : ℕ) → serial < 4294967296 → first_of (write_checks (level_at FIRST) key lent t a) ≡ Done → (package_form (level_at FIRST)).Limits (data_of key lent serial t a)
  valid serial small e =
      let f = fine e in
      let s = each_long (write_lent (lengths l key) lent t a) f.slices-fine in
      let w = (and-eq-true_iff (within l lent.h) (withins l (lent.x ∷ lent.y ∷ []))).0 f.elements-fine in
      let v = (and-eq-true_iff (within l lent.x) (withins l (lent.y ∷ []))).0 w.1 in
      let u = (and-eq-true_iff (within l lent.y) true).0 v.1 in
      let c = (and-eq-true_iff (within l a) true).0 f.coordinates-fine in (
        record {
          sized = f.is-sized;
          h = (s.0, w.0);
          x = (s.1.0, v.0);
          y = (s.1.1.0, u.0);
          rows = λ r. let z = sym f.rows-fine ∙ (leaning FIRST key.n key.m lent.h).1 r in let z : ◌≡◌ {A = ℕ} 0 1 = cc in absurd (omega arith);
        },
        record {
          serial = small;
          t = (s.1.1.1.0, f.bits-fine);
          a = (s.1.1.1.1.0, c.0);
        },
      )

  module _ (serial : ℕ) where
    abbrev bytes : List ℕ
    bytes = package_bytes (level_at FIRST) key lent serial t a

    -- nothing is refused: neither what is lent nor the room
    pub passed : (room : ℕ) → first_of (write_rows (level_at FIRST) key lent serial t a room) ≡ Done → (first_of (write_checks (level_at FIRST) key lent t a) ≡ Done) × (length bytes ≤ room)
    passed room e =
        let f = none-append (write_checks l key lent t a) (room_row (length bytes) room) (none (write_rows l key lent serial t a room) e) in
        (none_done (write_checks l key lent t a) f.0, ltb-false room (length bytes) f.1.0)

    -- past the checks the room decides, where n bytes are needed
    module _ (room n : ℕ) (d : first_of (write_checks (level_at FIRST) key lent t a) ≡ Done) (e : n ≡ length (package_bytes (level_at FIRST) key lent serial t a)) where
      by_room : {b : Bool} → ltb room n ≡ b → first_of (write_rows (level_at FIRST) key lent serial t a room) ≡ first_of ((b, ShortOutput) ∷ [])
      by_room f = after-done (write_checks l key lent t a) (room_row (length bytes) room) d ∙ ap (λ k. first_of ((ltb room k, ShortOutput) ∷ [])) (sym e) ∙ ap (λ b. first_of ((b, ShortOutput) ∷ [])) f

      pub room-short : room < n → (Err ShortOutput) ≡ first_of (write_rows (level_at FIRST) key lent serial t a room)
      room-short h = sym (by_room (lt-ltb room n h))

      pub room-enough : n ≤ room → Done ≡ first_of (write_rows (level_at FIRST) key lent serial t a room)
      room-enough h = sym (by_room (le-ltb room n h))

    module _ (out : List ℕ) where
      abbrev rows : Answer
      rows = first_of (write_rows (level_at FIRST) key lent serial t a (length out))

      -- an answer as the outcome has it
      abbrev outcome : Result ℕ Refusal × List ℕ
      outcome = (length_as rows (length bytes), kept rows (bytes ++ drop (length bytes) out) out)

      -- a refusal of the answer is that of the rows
      refused-only : (b : Answer) (n : ℕ) {k : Refusal} → length_as b n ≡ Err k → b ≡ Err k
      refused-only (Ok _) n e = let z : ◌≡◌ {A = ℕ} 0 1 = cc in absurd (omega arith)
      refused-only (Err r) n e = cc

      leaning_told : {w : Result ℕ Refusal} → w ≡ length_as rows (length bytes) → write_leans (level_at FIRST) key lent t a (w ≡ Err DependentRows)
      leaning_told e =
          let known = leans FIRST key (long (write_lent (lengths l key) lent t a)) lent (below 1 t) (withins l (a ∷ [])) Column (room_row (length bytes) (length out)) (λ z. omega (arith, ap paper_number z), tt) {r = rows} refl in
          record { fifteen = (λ v. known.fifteen.0 (refused-only rows (length bytes) (sym e ∙ v)), λ p. e ∙ ap (λ r. length_as r (length bytes)) (known.fifteen.1 p)) }

      -- what the entry promises of an answer and an output
      abbrev Told : Result ℕ Refusal → List ℕ → Type 0
      Told w s = ((w, s) ≡ write_outcome (level_at FIRST) key lent serial t a out) × (write_leans (level_at FIRST) key lent t a (w ≡ Err DependentRows) × ((k : ℕ) → w ≡ Ok k → ReadBack (level_at FIRST) key lent serial t a k s))

      -- the package at the start is read back
      reads : {k : ℕ} {s : List ℕ} → (package_form (level_at FIRST)).Limits (data_of key lent serial t a) → k ≡ length bytes → s ≡ bytes ++ drop (length bytes) out → ReadBack (level_at FIRST) key lent serial t a k s
      reads {k} {s} v e f =
          let is : take k s ≡ bytes = ap₂ (λ (n : ℕ) (u : List ℕ). take n u) e f ∙ take_at bytes (drop (length bytes) out) (length bytes) refl in
          record {
            fits = omega (arith, ap length f, length-append bytes (drop (length bytes) out));
            read = ap (reading (package_reader (level_at FIRST))) is ∙ package_faithful.read (data_of key lent serial t a) v;
            fields = λ tag. ap (λ u. handed (package_form (level_at FIRST)) u tag) is ∙ package_faithful.contents (data_of key lent serial t a) v tag;
          }

      module _ {o : Answer} (e : o ≡ rows) where
        pub length-told : {r : ℕ} {s : List ℕ} → serial < 4294967296 → o ≡ Done → Stands out 0 bytes s r → Told (Ok r) s
        unfolding write_outcome
        length-told {r} {s} small d w =
            let done = sym d ∙ e in
            let is = (first-stands w).0 in
            let size = (first-stands w).1 in
            let told : Ok r ≡ length_as rows (length bytes) = ap Ok size ∙ ap (λ x. length_as x (length bytes)) done in
            let v = valid serial small (passed (length out) (sym done)).0 in (
              ap₂ (λ (x : Result ℕ Refusal) (y : List ℕ). (x, y)) told (is ∙ ap (λ x. kept x (bytes ++ drop (length bytes) out) out) done),
              (leaning_told told, λ k f. reads v (sym (ap value f) ∙ size) is),
            )
          where
            value : Result ℕ Refusal → ℕ
            value (Ok n) = n
            value (Err r) = 0

        pub refused-told : {q : Refusal} → o ≡ Err q → Told (Err q) out
        unfolding write_outcome
        refused-told {q} d =
            let given = sym d ∙ e in
            let told : Err q ≡ length_as rows (length bytes) = ap (λ x. length_as x (length bytes)) given in (
              ap₂ (λ (x : Result ℕ Refusal) (y : List ℕ). (x, y)) told (ap (λ x. kept x (bytes ++ drop (length bytes) out) out) given),
              (leaning_told told, λ k f. let z : ◌≡◌ {A = ℕ} 0 1 = cc in absurd (omega arith)),
            )
