-- The sizes that field 01 gives, and the tables of packages and check files.
use Rattle.refusal.specs.declared.Refusal.{Refusal}
use Rattle.refusal.specs.declared.Refusal.TheVariants.{DependentRows}
use mathlib.Core.Path.{◌≡◌, refl, sym, ap, ap₂, ◌∙◌, subst}
use mathlib.Core.Bool.{Bool, true, false}
use mathlib.Core.Logic.{◌↔◌}
use mathlib.Core.List.{List, [], ◌∷◌, ◌++◌, append_assoc}
use Prim.Native.Nat.{ℕ, ◌+◌, ◌*◌, ◌≤◌}
use native.Mathlib.Nat.{add-zero}
use native.Mathlib.Omega.{arith}
use borrow.Author.Tests.{not-false}
use lib.ListN.{length, get_or}
use Rattle.lists.specs.Words.{part}
use Rattle.lists.proofs.Words.{part_at}
use Rattle.copying.specs.Words.{word}
use Rattle.refusal.specs.Answer.{first_of, Done}
use Rattle.refusal.proofs.Answers.{None, none, both_done}
use Rattle.field.specs.declared.Level.{Level}
use Rattle.field.specs.Word.{within}
use Rattle.key.specs.Key.{Sized, lengths}
use Rattle.key.proofs.Sized.{sized}
use Rattle.layout.specs.declared.Row.{Row}
use Rattle.layout.specs.declared.Kind.TheVariants.{Sizes, Elements, Target, Serial, Bits, Coordinates}
use Rattle.layout.specs.Layout.{serial_length, optional, first_rows, key_segment, key_end, group_segment, check_segment, group_end, check_end, matrix_of, leans, key_tests, group_tests, check_tests, package_rows, check_file_rows, package_tests, check_file_tests}
use Rattle.layout.specs.Tests.{key_at, key_of, tests, after, end_tests}
use Rattle.layout.proofs.Rows.{head_passed, tests-append, after-append}

-- field 01
abbrev pub sizes_row : Row
sizes_row = record { tag = 0x01; len = 2; kind = Sizes }

-- n and m of its content are those of the bytes
pub key-part : (s : List ℕ) (at : ℕ) → key_at (part at 2 s) 0 ≡ key_at s at
key-part s at = ap₂ (λ (n m : ℕ). record { n = n; m = m }) (part_at at 2 s 0 (omega arith) ∙ ap (λ i. get_or s i 0) (add-zero at)) (part_at at 2 s 1 (omega arith))

-- they are sizes where the rows that it leads are not refused
pub first-sized : (l : Level) (s : List ℕ) (rows : List Row) → None (tests l s 0 (sizes_row ∷ rows)) → Sized l (key_of s)
first-sized l s rows e = subst (Sized l) (key-part s 3) (sized l (key_at (part 3 2 s) 0) (head_passed l s 0 sizes_row rows e).0.values)

pub key-sized : (l : Level) (s : List ℕ) → first_of (key_tests l s) ≡ Done → Sized l (key_of s)
key-sized l s e = first-sized l s _ (none (tests l s 0 (key_segment l s)) (both_done (tests l s 0 (key_segment l s)) ((leans l s, DependentRows) ∷ []) e).0)

-- what the test of the rows of H relies on, past those of the key's fields
pub record Filled (l : Level) (s : List ℕ) : Type 0 where
  pub is-sized : Sized l (key_of s)
  pub fits : 8 + 2 * (lengths l (key_of s)).matrix ≤ length s
  pub fine : within l (matrix_of l s) ≡ true

pub filled : (l : Level) (s : List ℕ) → first_of (tests l s 0 (key_segment l s)) ≡ Done → Filled l s
filled l s e =
    let first = none (tests l s 0 (key_segment l s)) e in
    let h = (head_passed l s 5 _ _ (head_passed l s 0 sizes_row _ first).1).0 in
    record { is-sized = first-sized l s _ first; fits = h.fits; fine = not-false _ h.values.0 }

-- a row of its own between others
between : (xs ys zs : List (Bool × Refusal)) (b : Bool) (k : Refusal) → None (xs ++ (b, k) ∷ [] ++ ys ++ zs) ↔ (None (xs ++ ys ++ zs) × (b ≡ false))
between [] ys zs b k = (λ e. (e.1, e.0), λ e. (e.1, e.0))
between ((c, j) ∷ xs) ys zs b k =
    let r = between xs ys zs b k in
    (λ e. let f = r.0 e.1 in ((e.0, f.0), f.1), λ e. (e.0.0, r.1 (e.0.1, e.1)))

module _ (l : Level) (s : List ℕ) where
  pub package_end : after 0 (package_rows l s) ≡ group_end l s
  unfolding package_rows
  package_end = after-append 0 (key_segment l s) (group_segment l s)

  pub check_file_end : after 0 (check_file_rows l s) ≡ check_end l s
  unfolding check_file_rows
  check_file_end = after-append 0 (package_rows l s) (check_segment l s) ∙ ap (λ at. after at (check_segment l s)) package_end

  -- a package is refused nothing: by P1 to P5 of its rows, "then P6", nor for the rows of H
  pub package_tests_lem : None (package_tests l s) ↔ (None (tests l s 0 (package_rows l s) ++ end_tests s (after 0 (package_rows l s))) × (leans l s ≡ false))
  unfolding package_rows
  package_tests_lem =
      subst (λ t. None (package_tests l s) ↔ (None t × (leans l s ≡ false)))
      (ap₂ (λ (t : List (Bool × Refusal)) (at : ℕ). t ++ end_tests s at) (sym (tests-append l s 0 (key_segment l s) (group_segment l s))) (sym package_end))
      (between (tests l s 0 (key_segment l s)) (group_tests l s) (end_tests s (group_end l s)) (leans l s) DependentRows)

  pub package_rows_lem : package_rows l s ≡ sizes_row
      ∷ record { tag = 0x02; len = 2 * (lengths l (key_of s)).matrix; kind = Elements }
      ∷ record { tag = 0x03; len = 2 * (lengths l (key_of s)).vector; kind = Elements }
      ∷ (optional s (after 0 (first_rows l (key_of s))) (record { tag = 0x04; len = 2 * (lengths l (key_of s)).target; kind = Target })
      ++ (record { tag = 0x05; len = serial_length (word s (key_end l s + 1)); kind = Serial }
      ∷ record { tag = 0x06; len = (lengths l (key_of s)).bits; kind = Bits }
      ∷ record { tag = 0x07; len = 2 * (lengths l (key_of s)).proof; kind = Coordinates }
      ∷ []))
  unfolding package_rows
  package_rows_lem = refl

  -- those of a check file are of these and four more
  pub check_file_tests_lem : None (check_file_tests l s) ↔ (None (tests l s 0 (check_file_rows l s) ++ end_tests s (after 0 (check_file_rows l s))) × (leans l s ≡ false))
  unfolding package_rows check_file_rows
  check_file_tests_lem =
      let first = tests l s 0 (key_segment l s) in
      let last = end_tests s (check_end l s) in
      subst (λ t. None t ↔ (None (tests l s 0 (check_file_rows l s) ++ end_tests s (after 0 (check_file_rows l s))) × (leans l s ≡ false)))
      (sym (append_assoc (key_tests l s ++ group_tests l s) (check_tests l s) last))
      (subst (λ t. None (key_tests l s ++ group_tests l s ++ (check_tests l s ++ last)) ↔ (None t × (leans l s ≡ false)))
      (sym (append_assoc (first ++ group_tests l s) (check_tests l s) last)
      ∙ ap₂ (λ (t : List (Bool × Refusal)) (at : ℕ). t ++ end_tests s at)
      (ap₂ (λ (t : List (Bool × Refusal)) (at : ℕ). t ++ tests l s at (check_segment l s)) (sym (tests-append l s 0 (key_segment l s) (group_segment l s))) (sym package_end)
      ∙ sym (tests-append l s 0 (package_rows l s) (check_segment l s)))
      (sym check_file_end))
      (between first (group_tests l s) (check_tests l s ++ last) (leans l s) DependentRows))

  pub check_file_rows_lem : check_file_rows l s ≡ package_rows l s ++
      (record { tag = 0x11; len = 2 * (lengths l (key_of s)).elements; kind = Coordinates }
      ∷ record { tag = 0x12; len = 2 * (lengths l (key_of s)).masks; kind = Coordinates }
      ∷ record { tag = 0x13; len = 2 * (lengths l (key_of s)).one; kind = Coordinates }
      ∷ record { tag = 0x14; len = 2 * (lengths l (key_of s)).values; kind = Coordinates }
      ∷ [])
  unfolding check_file_rows
  check_file_rows_lem = refl
