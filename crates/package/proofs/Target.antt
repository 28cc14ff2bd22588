-- The laws of field 04, which is absent where all its elements are zero, at any position.
use mathlib.Core.Path.{◌≡◌, refl, sym, ap, ap₂, ◌∙◌, subst}
use mathlib.Core.Bool.{Bool, true, false, cond, and-eq-true_iff}
use mathlib.Core.List.{List, [], ◌∷◌, ◌++◌}
use Prim.Native.Nat.{ℕ, zero, suc, ◌+◌, ◌*◌, ◌<◌}
use native.Mathlib.Nat.{add-zero}
use native.Mathlib.Omega.{arith}
use borrow.Author.Tests.{eq-eqb, ne_eqb, eqb-true, le-leb, not-false}
use lib.Dec.{eqb}
use lib.ListN.{length, get_or, replicate, length-replicate}
use lib.Seq.{get_or-append_seam, get_or-append-add}
use Rattle.lists.specs.Words.{part, all}
use Rattle.copying.specs.Words.{Bytes, words, word_bytes}
use Rattle.copying.proofs.Bytes.{words-bytes, words-length, bytes-words, bytes-part}
use Rattle.refusal.proofs.Answers.{None}
use Rattle.field.specs.declared.Level.{Level}
use Rattle.field.specs.Level.{FIRST, level_at}
use Rattle.field.specs.Word.{within}
use Rattle.layout.specs.declared.Row.{Row}
use Rattle.layout.specs.declared.Kind.TheVariants.{Target}
use Rattle.layout.specs.Layout.{optional}
use Rattle.layout.specs.Tests.{zeros, tests}
use Rattle.package.specs.Written.{joined, content_of, target_fields, Within}
use Rattle.package.proofs.Joined.{Fits, AllBytes, cut, same, cut_fits}
use Rattle.package.proofs.Words.{fit_words, test-target, within-bytes}
use Rattle.package.proofs.Segments.{SegmentLaws}

-- bytes that do not begin with the tag
abbrev pub NotTarget : List ℕ → Type 0
NotTarget rest = get_or rest 0 0 ≡ 0x04 → ⊥

-- a list of zeros, either way
pub zeros-replicate : (k : ℕ) → zeros (replicate k 0) ≡ true
unfolding all
zeros-replicate zero = refl
zeros-replicate (suc k) = zeros-replicate k

within-replicate : (l : Level) (k : ℕ) → within l (replicate k 0) ≡ true
unfolding within all
within-replicate l zero = refl
within-replicate l (suc k) = rw (le-leb 0 l.limit (omega arith)) (within-replicate l k)

pub replicate-zeros : (k : ℕ) (s : List ℕ) → length s ≡ k → zeros s ≡ true → s ≡ replicate k 0
unfolding all
replicate-zeros zero [] h e = refl
replicate-zeros zero (x ∷ s) h e = absurd (omega arith)
replicate-zeros (suc k) [] h e = absurd (omega arith)
replicate-zeros (suc k) (x ∷ s) h e = let b = (and-eq-true_iff (eqb x 0) (zeros s)).0 e in ap₂ ◌∷◌ (eqb-true x 0 b.0) (replicate-zeros k s (omega arith) b.1)

-- either form
pub absent : (y : List ℕ) → zeros y ≡ true → target_fields y ≡ []
absent y e = rw e refl

pub present : (y : List ℕ) → zeros y ≡ false → target_fields y ≡ (0x04, word_bytes y) ∷ []
present y e = rw e refl

-- what holds of no field where all elements are zero, and of the field where not, holds of what is written
by_form : (P : Bool → List (ℕ × List ℕ) → Type 0) (y : List ℕ) → (zeros y ≡ true → P true []) → (zeros y ≡ false → P false ((0x04, word_bytes y) ∷ [])) → P (zeros y) (target_fields y)
by_form P y none some = pick (zeros y) refl
  where
    pick : (b : Bool) → zeros y ≡ b → P (zeros y) (target_fields y)
    pick true e = subst (P (zeros y)) (sym (absent y e)) (subst (λ b. P b []) (sym e) (none e))
    pick false e = subst (P (zeros y)) (sym (present y e)) (subst (λ b. P b ((0x04, word_bytes y) ∷ [])) (sym e) (some e))

-- the contents of fields after it are theirs
pub past-target : (tag : ℕ) → eqb 0x04 tag ≡ false → (y : List ℕ) (fields : List (ℕ × List ℕ)) → content_of tag (target_fields y ++ fields) ≡ content_of tag fields
unfolding content_of
past-target tag h y fields = by_form (λ b f. content_of tag (f ++ fields) ≡ content_of tag fields) y (λ e. refl) (λ e. ap (λ t. cond t (word_bytes y) (content_of tag fields)) h)

-- its content, among fields of which no other has its tag
pub target-content : (y : List ℕ) (fields : List (ℕ × List ℕ)) → content_of 0x04 fields ≡ [] → content_of 0x04 (target_fields y ++ fields) ≡ cond (zeros y) [] (word_bytes y)
unfolding content_of
target-content y fields h = by_form (λ b f. content_of 0x04 (f ++ fields) ≡ cond b [] (word_bytes y)) y (λ e. h) (λ e. refl)

-- of k elements
module _ (k : ℕ) where
  abbrev row : Row
  row = record { tag = 0x04; len = 2 * k; kind = Target }

  abbrev pub target_table : List ℕ → List Row
  target_table y = cond (zeros y) [] (row ∷ [])

  fits : 2 * k < 65536 → (y : List ℕ) → Within (level_at FIRST) k y → Fits (level_at FIRST) (target_table y) (target_fields y)
  fits short y v =
      let l = level_at FIRST in
      by_form (λ b f. Fits l (cond b [] (row ∷ [])) f) y (λ e. tt) (λ e. (fit_words l 0x04 k Target y short v (test-target l _ (ap zeros (words-bytes y) ∙ e)), tt))

  bytes : (y : List ℕ) → Within (level_at FIRST) k y → AllBytes (target_fields y)
  bytes y v = by_form (λ b f. AllBytes f) y (λ e. tt) (λ e. (omega arith, within-bytes y v.1, tt))

  -- the byte where the field stands, or where it is left out
  there : (pre rest : List ℕ) → NotTarget rest → (y : List ℕ) → optional (pre ++ (joined (target_fields y) ++ rest)) (length pre) row ≡ target_table y
  unfolding joined
  there pre rest m y =
      by_form (λ b f. optional (pre ++ (joined f ++ rest)) (length pre) row ≡ cond b [] (row ∷ [])) y
      (λ e. ap (λ t. cond t (row ∷ []) []) (ne_eqb _ 0x04 (λ h. m (sym (get_or-append-add pre rest 0 0) ∙ ap (λ i. get_or (pre ++ rest) i 0) (add-zero (length pre)) ∙ h))))
      (λ e. ap (λ t. cond t (row ∷ []) []) (eq-eqb _ 0x04 (get_or-append_seam pre 0x04 _ 0)))

  -- what is found where the byte is the tag, and the zeros where it is not
  read : (s : List ℕ) → Bytes s → (at : ℕ) → None (tests (level_at FIRST) s at (optional s at row))
      → (y : List ℕ) × Within (level_at FIRST) k y × (target_fields y ≡ cut s at (optional s at row))
  unfolding cut
  read s b at e = pick (eqb (get_or s at 0) 0x04) e
    where
      pick : (t : Bool) → None (tests (level_at FIRST) s at (cond t (row ∷ []) [])) → (y : List ℕ) × Within (level_at FIRST) k y × (target_fields y ≡ cut s at (cond t (row ∷ []) []))
      pick true e =
          let c = part (at + 3) (2 * k) s in
          let w = (cut_fits (level_at FIRST) s b at (row ∷ []) e).0 in
          (words c, (words-length c k w.len, not-false _ w.values.0), present (words c) w.values.1.0 ∙ same 0x04 (bytes-words c k (bytes-part s (at + 3) (2 * k) b) w.len) refl)
      pick false e = (replicate k 0, (length-replicate k 0, within-replicate (level_at FIRST) k), absent (replicate k 0) (zeros-replicate k))

  single : (x y : List ℕ) → Within (level_at FIRST) k x → Within (level_at FIRST) k y → target_fields x ≡ target_fields y → x ≡ y
  unfolding content_of
  single x y v w =
      by_form (λ a f. f ≡ target_fields y → x ≡ y) x
      (λ p. by_form (λ b g. [] ≡ g → x ≡ y) y (λ q e. replicate-zeros k x v.0 p ∙ sym (replicate-zeros k y w.0 q)) (λ q e. absurd (omega (arith, ap length e))))
      (λ p. by_form (λ b g. (0x04, word_bytes x) ∷ [] ≡ g → x ≡ y) y (λ q e. absurd (omega (arith, ap length e))) (λ q e. sym (words-bytes x) ∙ ap (λ f. words (content_of 0x04 f)) e ∙ words-bytes y))

  pub target-laws : 2 * k < 65536 → SegmentLaws (level_at FIRST) target_fields (Within (level_at FIRST) k) target_table (λ s at. optional s at row) NotTarget
  target-laws short = record {
    fits = fits short;
    bytes = bytes;
    there = λ pre rest m y v. there pre rest m y;
    read = read;
    single = single;
  }
