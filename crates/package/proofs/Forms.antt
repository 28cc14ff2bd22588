-- The laws of groups and of the fields of a check, at any position, and of packages and check files.
use mathlib.Core.Path.{◌≡◌, refl, sym, ap, ◌∙◌}
use mathlib.Core.Bool.{not}
use mathlib.Core.List.{List, [], ◌∷◌, ◌++◌, append_assoc}
use Prim.Native.Nat.{ℕ, ◌+◌}
use native.Mathlib.Omega.{arith}
use borrow.Author.Tests.{not-false}
use lib.ListN.{length, drop}
use Rattle.copying.specs.Words.{Bytes, word, words}
use Rattle.copying.proofs.Bytes.{words-bytes, words-length, bytes-words}
use Rattle.field.specs.Level.{FIRST, level_at}
use Rattle.elimination.specs.Rank.{short}
use Rattle.key.specs.declared.Key.{Key}
use Rattle.key.specs.Key.{Sized}
use Rattle.key.proofs.Fine.{below-lt}
use Rattle.layout.specs.declared.Row.{Row}
use Rattle.layout.specs.declared.Kind.TheVariants.{Serial, Coordinates}
use Rattle.layout.specs.Layout.{serial_length, group_rows, check_rows, leans, package_rows, check_file_rows}
use Rattle.layout.specs.Tests.{key_at, key_of, after}
use Rattle.layout.proofs.Files.{package_end}
use Rattle.layout.proofs.Bounds.{bounds}
use Rattle.package.specs.Written.{joined, content_of, serial_bytes, target_fields, KeyData, Group, Check, key_fields, group_fields, check_fields, ValidGroup, ValidCheck, package_form, check_form, written, Faithful}
use Rattle.package.specs.Said.{group_said}
use Rattle.package.proofs.Accepted.{serial-most, part-lt, package_whole, package_stands, package_passes, check_file_whole, check_file_stands, check_file_passes}
use Rattle.package.proofs.Joined.{Fits, AllBytes, cut, same, content-bytes, next-len, cut_fits}
use Rattle.package.proofs.Serial.{from_serial, serial-short, serial-bytes, serial-judged, serial-passes, serial_of_lem}
use Rattle.package.proofs.Words.{fit_words, test-coordinates, within-bytes}
use Rattle.package.proofs.Segments.{Any, SegmentLaws, OpeningLaws, followed}
use Rattle.package.proofs.Target.{NotTarget, past-target}
use Rattle.package.proofs.Opening.{key_rows_at, key_table, KeyPasses, key_laws, key-leans, valid-passes, valid-stands, stands-valid}
use Rattle.package.proofs.Faithful.{FormLaws, faithful}

-- the fields of a group, whose first row its own bytes tell
abbrev pub group_table : Key → Group → List Row
group_table key g = group_rows (level_at FIRST) key (joined (group_fields g)) 0

abbrev pub unpack_group : List (ℕ × List ℕ) → Group
unpack_group fields = group_said (λ tag. content_of tag fields)

pub group_packed : (g : Group) → unpack_group (group_fields g) ≡ g
unfolding content_of
group_packed g = rw (from_serial g.serial, words-bytes g.a)

-- the length that is stated of the serial, where a group stands and in the group alone
stated : (pre rest : List ℕ) (g : Group) → word (pre ++ (joined (group_fields g) ++ rest)) (length pre + 1) ≡ length (serial_bytes g.serial)
unfolding joined
stated pre rest g = next-len pre 0x05 (length (serial_bytes g.serial)) _ (serial-short g.serial)

stated_alone : (g : Group) → word (joined (group_fields g)) 1 ≡ length (serial_bytes g.serial)
unfolding joined
stated_alone g = next-len [] 0x05 (length (serial_bytes g.serial)) (serial_bytes g.serial ++ joined (drop 1 (group_fields g))) (serial-short g.serial)

module _ (key : Key) where
  pub group-fits : Sized (level_at FIRST) key → (g : Group) → ValidGroup (level_at FIRST) key g → Fits (level_at FIRST) (group_table key g) (group_fields g)
  group-fits h g v =
      let l = level_at FIRST in
      let judged : serial_length (word (joined (group_fields g)) 1) ≡ length (serial_bytes g.serial) = ap serial_length (stated_alone g) ∙ serial-judged g.serial in
      let b = bounds key h in (
        record {
          tag = refl;
          len = sym judged;
          short = omega (arith, serial-short g.serial, judged);
          values = serial-passes l g.serial;
        },
        (
          record { tag = refl; len = v.t.0; short = omega (arith, b.bits); values = (ap not v.t.1, tt) },
          (fit_words l 0x07 _ Coordinates g.a (omega (arith, b.proof)) v.a (test-coordinates l _), tt),
        ),
      )

  pub group-bytes : (g : Group) → ValidGroup (level_at FIRST) key g → AllBytes (group_fields g)
  group-bytes g v = (
    omega arith,
    serial-bytes g.serial v.serial,
    (
      omega arith,
      λ i. omega (arith, below-lt 1 g.t v.t.1 i),
      (omega arith, within-bytes g.a v.a.1, tt),
    ),
  )

  module _ (s : List ℕ) (b : Bytes s) (at : ℕ) where
    abbrev pub group_found : List (ℕ × List ℕ)
    group_found = cut s at (group_rows (level_at FIRST) key s at)

    pub group-valid : Fits (level_at FIRST) (group_rows (level_at FIRST) key s at) group_found → ValidGroup (level_at FIRST) key (unpack_group group_found)
    unfolding cut content_of
    group-valid w =
        let f = w.1 in
        record {
          serial = part-lt s (at + 3) _ b (serial-most (word s (at + 1)));
          t = (f.0.len, not-false _ f.0.values.0);
          a = (words-length _ _ f.1.0.len, not-false _ f.1.0.values.0);
        }

    pub group-found : Fits (level_at FIRST) (group_rows (level_at FIRST) key s at) group_found → group_fields (unpack_group group_found) ≡ group_found
    unfolding cut content_of
    group-found w =
        let c : (tag : ℕ) → List ℕ = λ tag. content_of tag group_found in
        let all : (tag : ℕ) → Bytes (c tag) = λ tag. content-bytes s b tag at (group_rows (level_at FIRST) key s at) in
        let f = w.1 in
        same 0x05 (serial_of_lem (level_at FIRST) (word s (at + 1)) (c 0x05) (all 0x05) w.0.len w.0.values)
        (same 0x06 refl
        (same 0x07 (bytes-words (c 0x07) _ (all 0x07) f.1.0.len) refl))

  pub group_laws : Sized (level_at FIRST) key → SegmentLaws (level_at FIRST) group_fields (ValidGroup (level_at FIRST) key) (group_table key) (group_rows (level_at FIRST) key) Any
  group_laws h = record {
    fits = group-fits h;
    bytes = group-bytes;
    there = λ pre rest m g v. ap (λ (k : ℕ). record { tag = 0x05; len = serial_length k; kind = Serial } ∷ drop 1 (group_rows (level_at FIRST) key [] 0)) (stated pre rest g ∙ sym (stated_alone g));
    read = λ s b at e. let w = cut_fits (level_at FIRST) s b at (group_rows (level_at FIRST) key s at) e in (unpack_group (group_found s b at), group-valid s b at w, group-found s b at w);
    single = λ x y v w e. sym (group_packed x) ∙ ap unpack_group e ∙ group_packed y;
  }

-- the fields that follow a package in a check file
abbrev check_table : Key → Check → List Row
check_table key c = check_rows (level_at FIRST) key [] 0

unpack_check : List (ℕ × List ℕ) → Check
unpack_check fields = record {
  q = words (content_of 0x11 fields);
  masks = words (content_of 0x12 fields);
  delta = words (content_of 0x13 fields);
  alpha = words (content_of 0x14 fields);
}

check_packed : (c : Check) → unpack_check (check_fields c) ≡ c
unfolding unpack_check content_of
check_packed c = rw (words-bytes c.q, words-bytes c.masks, words-bytes c.delta, words-bytes c.alpha)

module _ (key : Key) where
  check-fits : Sized (level_at FIRST) key → (c : Check) → ValidCheck (level_at FIRST) key c → Fits (level_at FIRST) (check_table key c) (check_fields c)
  check-fits h c v =
      let l = level_at FIRST in
      let b = bounds key h in (
        fit_words l 0x11 _ Coordinates c.q (omega (arith, b.elements)) v.q (test-coordinates l _),
        (
          fit_words l 0x12 _ Coordinates c.masks (omega (arith, b.masks)) v.masks (test-coordinates l _),
          (
            fit_words l 0x13 _ Coordinates c.delta (omega (arith, b.one)) v.delta (test-coordinates l _),
            (fit_words l 0x14 _ Coordinates c.alpha (omega (arith, b.values)) v.alpha (test-coordinates l _), tt),
          ),
        ),
      )

  check-bytes : (c : Check) → ValidCheck (level_at FIRST) key c → AllBytes (check_fields c)
  check-bytes c v = (
    omega arith,
    within-bytes c.q v.q.1,
    (
      omega arith,
      within-bytes c.masks v.masks.1,
      (
        omega arith,
        within-bytes c.delta v.delta.1,
        (omega arith, within-bytes c.alpha v.alpha.1, tt),
      ),
    ),
  )

  module _ (s : List ℕ) (b : Bytes s) (at : ℕ) where
    abbrev check_found : List (ℕ × List ℕ)
    check_found = cut s at (check_rows (level_at FIRST) key s at)

    check-valid : Fits (level_at FIRST) (check_rows (level_at FIRST) key s at) check_found → ValidCheck (level_at FIRST) key (unpack_check check_found)
    unfolding unpack_check cut content_of
    check-valid w =
        let f = w.1.1 in
        record {
          q = (words-length _ _ w.0.len, not-false _ w.0.values.0);
          masks = (words-length _ _ w.1.0.len, not-false _ w.1.0.values.0);
          delta = (words-length _ _ f.0.len, not-false _ f.0.values.0);
          alpha = (words-length _ _ f.1.0.len, not-false _ f.1.0.values.0);
        }

    check-found : Fits (level_at FIRST) (check_rows (level_at FIRST) key s at) check_found → check_fields (unpack_check check_found) ≡ check_found
    unfolding unpack_check cut content_of
    check-found w =
        let c : (tag : ℕ) → List ℕ = λ tag. content_of tag check_found in
        let all : (tag : ℕ) → Bytes (c tag) = λ tag. content-bytes s b tag at (check_rows (level_at FIRST) key s at) in
        let f = w.1.1 in
        same 0x11 (bytes-words (c 0x11) _ (all 0x11) w.0.len)
        (same 0x12 (bytes-words (c 0x12) _ (all 0x12) w.1.0.len)
        (same 0x13 (bytes-words (c 0x13) _ (all 0x13) f.0.len)
        (same 0x14 (bytes-words (c 0x14) _ (all 0x14) f.1.0.len) refl)))

  check-laws : Sized (level_at FIRST) key → SegmentLaws (level_at FIRST) check_fields (ValidCheck (level_at FIRST) key) (check_table key) (check_rows (level_at FIRST) key) Any
  check-laws h = record {
    fits = check-fits h;
    bytes = check-bytes;
    there = λ pre rest m c v. refl;
    read = λ s b at e. let w = cut_fits (level_at FIRST) s b at (check_rows (level_at FIRST) key s at) e in (unpack_check (check_found s b at), check-valid s b at w, check-found s b at w);
    single = λ x y v w e. sym (check_packed x) ∙ ap unpack_check e ∙ check_packed y;
  }

-- a group does not begin with the tag of y
pub group-next : (g : Group) (rest : List ℕ) → NotTarget (joined (group_fields g) ++ rest)
unfolding joined
group-next g rest e = omega (arith, e)

-- a package: the key's fields, then a group
abbrev package_table : KeyData × Group → List Row
package_table p = key_table p.0 ++ group_table p.0.sizes p.1

abbrev package_rows_at : List ℕ → ℕ → List Row
package_rows_at s at = key_rows_at s at ++ group_rows (level_at FIRST) (key_at s (at + 3)) s (after at (key_rows_at s at))

abbrev PackagePasses : KeyData × Group → Type 0
PackagePasses p = KeyPasses p.0 × ValidGroup (level_at FIRST) p.0.sizes p.1

package_opening : let form = package_form (level_at FIRST) in OpeningLaws (level_at FIRST) form.fields PackagePasses package_table package_rows_at Any form.key
package_opening =
    followed (level_at FIRST) key_fields KeyPasses key_table key_rows_at NotTarget (λ k. k.sizes)
    group_fields (ValidGroup (level_at FIRST)) group_table (group_rows (level_at FIRST)) Any key_laws group_laws (λ key g v rest m. group-next g rest) tt

package_laws : FormLaws (level_at FIRST) (package_form (level_at FIRST)) PackagePasses package_table package_rows_at Any
unfolding package_rows content_of
package_laws = record {
  opening = package_opening;
  passing = λ p v. (valid-passes p.0 v.0, v.1);
  serial = λ p. past-target 0x05 refl p.0.slices.y (group_fields p.1);
  last = tt;
  told = λ s. refl;
  whole = package_whole (level_at FIRST);
  passes = λ p v w. package_passes (level_at FIRST) _ w (key-leans p.0 (valid-passes p.0 v.0) (group_fields p.1) ∙ valid-stands p.0 v.0);
  limits = λ p v e. (stands-valid p.0 v.0 (sym (key-leans p.0 v.0 (group_fields p.1)) ∙ package_stands (level_at FIRST) _ e), v.1);
}

pub package_faithful : Faithful (package_form (level_at FIRST))
package_faithful = faithful (level_at FIRST) (package_form (level_at FIRST)) PackagePasses package_table package_rows_at Any package_laws

-- a check file: a package, then the check
abbrev check_file_table : (KeyData × Group) × Check → List Row
check_file_table x = package_table x.0 ++ check_table x.0.0.sizes x.1

abbrev check_file_rows_at : List ℕ → ℕ → List Row
check_file_rows_at s at = package_rows_at s at ++ check_rows (level_at FIRST) (key_at s (at + 3)) s (after at (package_rows_at s at))

abbrev CheckFilePasses : (KeyData × Group) × Check → Type 0
CheckFilePasses x = PackagePasses x.0 × ValidCheck (level_at FIRST) x.0.0.sizes x.1

-- 15 is told by the key here too
check_file_leans : (x : (KeyData × Group) × Check) → KeyPasses x.0.0 → leans (level_at FIRST) (written (check_form (level_at FIRST)) x) ≡ short (level_at FIRST) x.0.0.sizes.n x.0.0.sizes.m x.0.0.slices.h
check_file_leans x v =
    ap (λ f. leans (level_at FIRST) (joined f)) (append_assoc (key_fields x.0.0) (group_fields x.0.1) (check_fields x.1))
    ∙ key-leans x.0.0 v (group_fields x.0.1 ++ check_fields x.1)

check_file_opening : let form = check_form (level_at FIRST) in OpeningLaws (level_at FIRST) form.fields CheckFilePasses check_file_table check_file_rows_at Any form.key
check_file_opening =
    let form = package_form (level_at FIRST) in
    followed (level_at FIRST) form.fields PackagePasses package_table package_rows_at Any form.key
    check_fields (ValidCheck (level_at FIRST)) check_table (check_rows (level_at FIRST)) Any package_opening check-laws (λ key c v rest m. tt) tt

check_file_laws : FormLaws (level_at FIRST) (check_form (level_at FIRST)) CheckFilePasses check_file_table check_file_rows_at Any
unfolding package_rows check_file_rows content_of
check_file_laws = record {
  opening = check_file_opening;
  passing = λ x v. ((valid-passes x.0.0 v.0.0, v.0.1), v.1);
  serial = λ x. let y = x.0.0.slices.y in ap (content_of 0x05) (append_assoc (target_fields y) (group_fields x.0.1) (check_fields x.1)) ∙ past-target 0x05 refl y (group_fields x.0.1 ++ check_fields x.1);
  last = tt;
  told = λ s. ap (λ at. package_rows (level_at FIRST) s ++ check_rows (level_at FIRST) (key_of s) s at) (sym (package_end (level_at FIRST) s));
  whole = check_file_whole (level_at FIRST);
  passes = λ x v w. check_file_passes (level_at FIRST) _ w (check_file_leans x (valid-passes x.0.0 v.0.0) ∙ valid-stands x.0.0 v.0.0);
  limits = λ x v e. ((stands-valid x.0.0 v.0.0 (sym (check_file_leans x v.0.0) ∙ check_file_stands (level_at FIRST) _ e), v.0.1), v.1);
}

pub check_file_faithful : Faithful (check_form (level_at FIRST))
check_file_faithful = faithful (level_at FIRST) (check_form (level_at FIRST)) CheckFilePasses check_file_table check_file_rows_at Any check_file_laws
