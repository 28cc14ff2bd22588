-- The rows that are left from a position on, of rows that refuse nothing and end with the bytes.
use mathlib.Core.Path.{◌≡◌, refl, sym, ap, ◌∙◌}
use mathlib.Core.Bool.{Bool, cond}
use mathlib.Core.List.{List, [], ◌∷◌}
use Prim.Native.Nat.{ℕ, ◌+◌, ◌≤◌, ◌<◌}
use native.Mathlib.Omega.{arith}
use borrow.Author.Tests.{eq-eqb, ne_eqb}
use lib.ListN.{length, get_or}
use Rattle.refusal.proofs.Answers.{None, none}
use Rattle.copying.specs.Words.{word}
use Rattle.field.specs.declared.Level.{Level}
use Rattle.layout.specs.declared.Row.{Row}
use Rattle.layout.specs.declared.Part.{Part}
use Rattle.layout.specs.Tests.{tests, after, part_of, empty}
use Rattle.layout.specs.Steps.{Whole}
use Rattle.layout.proofs.Rows.{head_passed}

module _ (l : Level) (s : List ℕ) (tag : ℕ) (p : Part) where
  -- the part of the tag is among them
  abbrev pub Rest : ℕ → Type 0
  Rest at = (rows : List Row) × (None (tests l s at rows) × (after at rows ≡ length s) × (part_of tag at rows ≡ p))

  abbrev picked : ℕ → Row → List Row → Bool → Part
  picked at row rows b = cond b (record { start = at + 3; len = row.len }) (part_of tag (at + 3 + row.len) rows)

  -- the field at a position lies within the bytes
  pub rest-fits : (at : ℕ) (r : Rest at) → at < length s → at + 3 + word s (at + 1) ≤ length s
  unfolding after
  rest-fits at ([], r) h = absurd (omega (arith, r.1))
  rest-fits at ((row ∷ rows), r) h = let w = (head_passed l s at row rows r.0).0 in rw w.len w.fits

  pub rest-found : (at : ℕ) (r : Rest at) → at < length s → get_or s at 0 ≡ tag → record { start = at + 3; len = word s (at + 1) } ≡ p
  unfolding after part_of
  rest-found at ([], r) h e = absurd (omega (arith, r.1))
  rest-found at ((row ∷ rows), r) h e =
      let w = (head_passed l s at row rows r.0).0 in
      rw w.len (sym (ap (picked at row rows) (eq-eqb row.tag tag (sym w.tag ∙ e))) ∙ r.2)

  pub rest-past : (at : ℕ) (r : Rest at) → at < length s → (get_or s at 0 ≡ tag → ⊥) → Rest (at + 3 + word s (at + 1))
  unfolding after part_of
  rest-past at ([], r) h e = absurd (omega (arith, r.1))
  rest-past at ((row ∷ rows), r) h e =
      let w = head_passed l s at row rows r.0 in
      rw w.0.len (rows, (w.1, r.1, sym (ap (picked at row rows) (ne_eqb row.tag tag (λ f. e (w.0.tag ∙ f)))) ∙ r.2))

  pub rest_end : (at : ℕ) (r : Rest at) → length s ≤ at → empty ≡ p
  unfolding part_of
  rest_end at ([], r) h = r.2
  rest_end at ((row ∷ rows), r) h = absurd (omega (arith, (head_passed l s at row rows r.0).0.fits))

pub rest_all : (l : Level) (s : List ℕ) (tag : ℕ) (rows : List Row) → Whole l s rows → Rest l s tag (part_of tag 0 rows) 0
rest_all l s tag rows w = (rows, (none (tests l s 0 rows) w.accepted, w.ends, refl))
