-- What bytes that a reader accepts have: sizes, and rows that end with them.
use Rattle.std.specs.Prelude.{Ok, Err}
use mathlib.Core.Path.{◌≡◌, refl, sym, ap, ◌∙◌}
use mathlib.Core.Bool.{Bool, true, false, cond}
use mathlib.Core.List.{List, [], ◌∷◌, ◌++◌}
use Prim.Native.Nat.{ℕ, ◌+◌, ◌≤◌, ◌<◌}
use native.Mathlib.Omega.{arith}
use borrow.Author.Tests.{ltb-false, le-ltb}
use lib.Dec.{eqb}
use lib.ListN.{length, get_or, drop, length-take}
use Rattle.lists.specs.Words.{part}
use Rattle.copying.specs.Words.{Bytes, word, from_bytes}
use Rattle.copying.proofs.Bytes.{from_lt, bytes-part}
use Rattle.refusal.specs.Answer.{first_of, Answer, Done}
use Rattle.refusal.proofs.Answers.{None, none}
use Rattle.field.specs.declared.Level.{Level}
use Rattle.key.specs.Key.{Sized}
use Rattle.layout.specs.declared.Row.{Row}
use Rattle.layout.specs.Layout.{serial_length, optional, first_rows, target_row, key_segment, key_end, group_segment, check_segment, leans, package_rows, package_tests, check_file_rows, check_file_tests}
use Rattle.layout.specs.Tests.{key_of, tests, after, end_tests, part_of}
use Rattle.layout.specs.Steps.{Whole}
use Rattle.package.specs.declared.Contents.{Contents}
use Rattle.package.specs.Reading.{Reader, read_as, serial_of, contents_of, reading}
use Rattle.layout.proofs.Rows.{none-append, none-join, none_done, head_passed}
use Rattle.layout.proofs.Files.{first-sized, package_tests_lem, check_file_tests_lem}

-- fields that are not refused end within the bytes
pub after-within : (l : Level) (s : List ℕ) (at : ℕ) (rows : List Row) → at ≤ length s → None (tests l s at rows) → after at rows ≤ length s
unfolding after
after-within l s at [] h e = h
after-within l s at (row ∷ rows) h e =
    let w = head_passed l s at row rows e in
    after-within l s (at + 3 + row.len) rows w.0.fits w.1

whole : (l : Level) (s : List ℕ) (rows : List Row) → None (tests l s 0 rows ++ end_tests s (after 0 rows)) → Whole l s rows
whole l s rows e =
    let both = none-append (tests l s 0 rows) (end_tests s (after 0 rows)) e in
    record {
      accepted = none_done (tests l s 0 rows) both.0;
      ends = omega (arith, after-within l s 0 rows (omega arith) both.0, ltb-false (after 0 rows) (length s) both.1.0);
    }

passes : (l : Level) (s : List ℕ) (rows : List Row) → Whole l s rows → None (tests l s 0 rows ++ end_tests s (after 0 rows))
passes l s rows w = none-join (tests l s 0 rows) (end_tests s (after 0 rows)) (none (tests l s 0 rows) w.accepted) (le-ltb (after 0 rows) (length s) (omega (arith, w.ends)), tt)

module _ (l : Level) (s : List ℕ) where
  pub package_whole : first_of (package_tests l s) ≡ Done → Whole l s (package_rows l s)
  package_whole e = whole l s (package_rows l s) ((package_tests_lem l s).0 (none (package_tests l s) e)).0

  pub check_file_whole : first_of (check_file_tests l s) ≡ Done → Whole l s (check_file_rows l s)
  check_file_whole e = whole l s (check_file_rows l s) ((check_file_tests_lem l s).0 (none (check_file_tests l s) e)).0

  -- the rows of H do not lean on each other
  pub package_stands : first_of (package_tests l s) ≡ Done → leans l s ≡ false
  package_stands e = ((package_tests_lem l s).0 (none (package_tests l s) e)).1

  pub check_file_stands : first_of (check_file_tests l s) ≡ Done → leans l s ≡ false
  check_file_stands e = ((check_file_tests_lem l s).0 (none (check_file_tests l s) e)).1

  pub package_passes : Whole l s (package_rows l s) → leans l s ≡ false → first_of (package_tests l s) ≡ Done
  package_passes w r = none_done (package_tests l s) ((package_tests_lem l s).1 (passes l s (package_rows l s) w, r))

  pub check_file_passes : Whole l s (check_file_rows l s) → leans l s ≡ false → first_of (check_file_tests l s) ≡ Done
  check_file_passes w r = none_done (check_file_tests l s) ((check_file_tests_lem l s).1 (passes l s (check_file_rows l s) w, r))

  -- field 01 comes first
  pub package_sized : first_of (package_tests l s) ≡ Done → Sized l (key_of s)
  unfolding package_rows
  package_sized e = first-sized l s _ (none (tests l s 0 (package_rows l s)) (package_whole e).accepted)

  pub check_file_sized : first_of (check_file_tests l s) ≡ Done → Sized l (key_of s)
  unfolding package_rows check_file_rows
  check_file_sized e = first-sized l s _ (none (tests l s 0 (check_file_rows l s)) (check_file_whole e).accepted)

fields-only : (a : Answer) (c : Contents) {d : Contents} → read_as a c ≡ Ok d → (a ≡ Done) × (c ≡ d)
fields-only (Ok _) c e = (refl, cc)
fields-only (Err r) c e = let z : ◌≡◌ {A = ℕ} 0 1 = cc in absurd (omega arith)

-- a reader that answers with contents refuses nothing, and its n and m are the file's
pub read-accepts : (reader : Reader) (s : List ℕ) {c : Contents} → reading reader s ≡ Ok c → (first_of (reader.tests s) ≡ Done) × (record { n = c.n; m = c.m } ≡ key_of s)
read-accepts reader s e =
    let f = fields-only (first_of (reader.tests s)) (contents_of s (reader.rows s)) e in
    (f.0, ap (λ (c : Contents). record { n = c.n; m = c.m }) (sym f.1))

-- what a function tells of an answer and a reader's rows holds of the reader's own answer
pub of_reader : {A : Type 0} (l : Level) (reader : Reader) (s : List ℕ) (f : Answer → List Row → A) {r : Answer} {p : A}
    → (first_of (reader.tests s) ≡ Done → Whole l s (reader.rows s)) → r ≡ first_of (reader.tests s)
    → ((r ≡ Done → Whole l s (reader.rows s)) → p ≡ f r (reader.rows s)) → p ≡ f (first_of (reader.tests s)) (reader.rows s)
of_reader l reader s f accepts e told = told (λ d. accepts (sym e ∙ d)) ∙ ap (λ a. f a (reader.rows s)) e

-- a serial has four bytes at most, so it is below 2^32
pub serial-most : (stated : ℕ) → serial_length stated ≤ 4
serial-most stated = pick (eqb stated 4)
  where
    pick : (b : Bool) → cond b 4 2 ≤ 4
    pick true = omega arith
    pick false = omega arith

pub part-lt : (s : List ℕ) (i n : ℕ) → Bytes s → n ≤ 4 → from_bytes (part i n s) < 4294967296
part-lt s i n b h = from_lt (part i n s) (bytes-part s i n b) (rw (length-take n (drop i s)) (omega arith))

-- the length that rows give a tag, and others after them
rows-most : (tag k at : ℕ) (rows others : List Row) → (part_of tag at rows).len ≤ k → ((p : ℕ) → (part_of tag p others).len ≤ k) → (part_of tag at (rows ++ others)).len ≤ k
unfolding part_of
rows-most tag k at [] others h g = g at
rows-most tag k at (row ∷ rows) others h g = pick (eqb row.tag tag) h (rows-most tag k (at + 3 + row.len) rows others)
  where
    pick : (b : Bool) → (cond b (record { start = at + 3; len = row.len }) (part_of tag (at + 3 + row.len) rows)).len ≤ k
        → ((part_of tag (at + 3 + row.len) rows).len ≤ k → ((p : ℕ) → (part_of tag p others).len ≤ k) → (part_of tag (at + 3 + row.len) (rows ++ others)).len ≤ k)
        → (cond b (record { start = at + 3; len = row.len }) (part_of tag (at + 3 + row.len) (rows ++ others))).len ≤ k
    pick true h later = h
    pick false h later = later h g

-- y is no serial, whether it is there or not
target-most : (l : Level) (s : List ℕ) (i at : ℕ) → (part_of 0x05 at (optional s i (target_row l (key_of s)))).len ≤ 4
unfolding part_of
target-most l s i at = pick (eqb (get_or s i 0) 0x04)
  where
    pick : (b : Bool) → (part_of 0x05 at (cond b (target_row l (key_of s) ∷ []) [])).len ≤ 4
    pick true = omega arith
    pick false = omega arith

module _ (l : Level) (s : List ℕ) where
  package_most : (part_of 0x05 0 (package_rows l s)).len ≤ 4
  unfolding package_rows part_of
  package_most =
      rows-most 0x05 4 0 (key_segment l s) (group_segment l s) (rows-most 0x05 4 0 (first_rows l (key_of s)) (optional s _ (target_row l (key_of s))) (omega arith) (target-most l s _)) (λ p. serial-most (word s (key_end l s + 1)))

  check_file_most : (part_of 0x05 0 (check_file_rows l s)).len ≤ 4
  unfolding check_file_rows part_of
  check_file_most = rows-most 0x05 4 0 (package_rows l s) (check_segment l s) package_most (λ p. omega arith)

  pub package_serial : Bytes s → serial_of s (package_rows l s) < 4294967296
  package_serial b = part-lt s (part_of 0x05 0 (package_rows l s)).start _ b package_most

  pub check_file_serial : Bytes s → serial_of s (check_file_rows l s) < 4294967296
  check_file_serial b = part-lt s (part_of 0x05 0 (check_file_rows l s)).start _ b check_file_most
