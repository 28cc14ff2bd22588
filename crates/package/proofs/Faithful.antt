-- The laws of any form of file, from those of its segments.
use mathlib.Core.Path.{◌≡◌, sym, ap, ap₂, ◌∙◌, subst}
use mathlib.Core.List.{List, [], ◌++◌, append-nil}
use Prim.Native.Nat.{ℕ, ◌≤◌}
use native.Mathlib.Omega.{arith}
use lib.ListN.{length, drop_of_length-le}
use Rattle.lists.specs.Words.{part}
use Rattle.copying.specs.Words.{Bytes, from_bytes}
use Rattle.refusal.proofs.Answers.{none}
use Rattle.field.specs.declared.Level.{Level}
use Rattle.key.specs.declared.Key.{Key}
use Rattle.layout.specs.declared.Row.{Row}
use Rattle.layout.specs.Tests.{key_of, tests, after, part_of}
use Rattle.layout.specs.Steps.{Whole}
use Rattle.layout.proofs.Rows.{none_done}
use Rattle.std.specs.Prelude.{Ok}
use Rattle.package.specs.Reading.{part_if, read_as, contents_of, reading}
use Rattle.package.specs.Written.{joined, content_of, serial_bytes, Form, written, Accepted, handed, Faithful}
use Rattle.package.proofs.Joined.{joined_bytes, cut, part_cut, Back, read_back, exact}
use Rattle.package.proofs.Serial.{from_serial}
use Rattle.package.proofs.Segments.{SegmentLaws, OpeningLaws}

module _ (l : Level) (form : Form) (Passes : form.Data → Type 0) (table : form.Data → List Row) (rows : List ℕ → ℕ → List Row) (Before : List ℕ → Type 0) where
  -- what a form owes: its fields are a segment from the start on, where the tests of none refuse it. Their rows end with it where it is
  -- accepted, and it is accepted exactly where its data, which pass, are within the limits
  pub record FormLaws : Type 0 where
    pub opening : OpeningLaws l form.fields Passes table rows Before form.key
    pub passing : (x : form.Data) → form.Limits x → Passes x
    pub serial : (x : form.Data) → content_of 0x05 (form.fields x) ≡ serial_bytes (form.serial x)
    pub last : Before []
    pub told : (s : List ℕ) → form.reader.rows s ≡ rows s 0
    pub whole : (s : List ℕ) → Accepted form s → Whole l s (form.reader.rows s)
    pub passes : (x : form.Data) → form.Limits x → let s = written form x in Whole l s (form.reader.rows s) → Accepted form s
    pub limits : (x : form.Data) → Passes x → Accepted form (written form x) → form.Limits x

  module _ (f : FormLaws) where
    abbrev laws : SegmentLaws l form.fields Passes table rows Before
    laws = f.opening.laws

    -- the rows of a file that is written are the table of what was written
    rows_written : (x : form.Data) → form.Limits x → form.reader.rows (written form x) ≡ table x
    rows_written x v = f.told (written form x) ∙ ap (λ s. rows s 0) (sym (append-nil (joined (form.fields x)))) ∙ laws.there [] [] f.last x (f.passing x v)

    back : (x : form.Data) → form.Limits x → Back l (written form x) 0 (form.reader.rows (written form x)) (form.fields x)
    back x v = subst (λ t. Back l (written form x) 0 t (form.fields x)) (sym (rows_written x v)) (read_back l [] (table x) (form.fields x) (laws.fits x (f.passing x v)))

    starts : (x : form.Data) → form.Limits x → key_of (written form x) ≡ form.key x
    starts x v = ap key_of (sym (append-nil (joined (form.fields x)))) ∙ f.opening.starts [] [] x (f.passing x v)

    written-accepted : (x : form.Data) → form.Limits x → Accepted form (written form x)
    written-accepted x v = let r = back x v in f.passes x v (record { accepted = none_done (tests l (written form x) 0 (form.reader.rows (written form x))) r.accepted; ends = r.ends })

    content_of_lem : (x : form.Data) → form.Limits x → (tag : ℕ) → let p = part_of tag 0 (form.reader.rows (written form x)) in part p.start p.len (written form x) ≡ content_of tag (form.fields x)
    content_of_lem x v tag = part_cut (written form x) tag 0 (form.reader.rows (written form x)) ∙ ap (content_of tag) (back x v).same

    accepted-written : (s : List ℕ) → Bytes s → Accepted form s → (x : form.Data) × form.Limits x × (s ≡ written form x)
    accepted-written s b e =
        let w = subst (Whole l s) (f.told s) (f.whole s e) in
        let passed = none (tests l s 0 (rows s 0)) w.accepted in
        let r = laws.read s b 0 passed in
        let ends : length s ≤ after 0 (rows s 0) = omega (arith, w.ends) in
        let all : s ≡ joined (cut s 0 (rows s 0)) = exact l s b 0 (rows s 0) passed
        ∙ ap (λ t. joined (cut s 0 (rows s 0)) ++ t) (drop_of_length-le s {i = after 0 (rows s 0)} ends)
        ∙ append-nil (joined (cut s 0 (rows s 0))) in
        let same = all ∙ ap joined (sym r.2) in
        (r.0, f.limits r.0 r.1 (subst (Accepted form) same e), same)

    read-written : (x : form.Data) → form.Limits x → reading form.reader (written form x) ≡ Ok (record { n = (form.key x).n; m = (form.key x).m; serial = form.serial x })
    read-written x v =
        let t = form.reader.rows (written form x) in
        let serial = ap from_bytes (content_of_lem x v 0x05 ∙ f.serial x) ∙ from_serial (form.serial x) in
        ap (λ a. read_as a (contents_of (written form x) t)) (written-accepted x v)
        ∙ ap₂ (λ (key : Key) (k : ℕ). Ok (record { n = key.n; m = key.m; serial = k })) (starts x v) serial

    written-injective : (x y : form.Data) → form.Limits x → form.Limits y → written form x ≡ written form y → x ≡ y
    written-injective x y v w e = laws.single x y (f.passing x v) (f.passing y w) (sym (back x v).same ∙ ap (λ s. cut s 0 (form.reader.rows s)) e ∙ (back y w).same)

    handed-written : (x : form.Data) → form.Limits x → (tag : ℕ) → handed form (written form x) tag ≡ content_of tag (form.fields x)
    handed-written x v tag =
        ap (λ a. let p = part_if a (part_of tag 0 (form.reader.rows (written form x))) in part p.start p.len (written form x)) (written-accepted x v) ∙ content_of_lem x v tag

    pub faithful : Faithful form
    faithful = record {
      accepted = accepted-written;
      read = read-written;
      bytes = λ x v. joined_bytes l (table x) (form.fields x) (laws.fits x (f.passing x v)) (laws.bytes x (f.passing x v));
      injective = written-injective;
      contents = handed-written;
    }
