-- What accepted bytes say: the data that they are written of, which are within the limits.
use mathlib.Core.Path.{◌≡◌, refl, sym, ap, ap₂, ◌∙◌, subst}
use mathlib.Core.Bool.{Bool, true, false, cond, false≢true}
use mathlib.Core.List.{List, [], ◌∷◌, ◌++◌, append-nil}
use Prim.Native.Nat.{ℕ}
use lib.Dec.{eqb}
use lib.ListN.{length}
use Rattle.lists.specs.Words.{all}
use Rattle.copying.specs.Words.{Bytes, words, word_bytes}
use Rattle.copying.proofs.Bytes.{words-bytes}
use Rattle.field.specs.Level.{FIRST, level_at}
use Rattle.key.specs.declared.Key.{Key}
use Rattle.layout.specs.Tests.{zeros}
use Rattle.package.specs.Written.{content_of, target_fields, KeyData, Group, key_fields, group_fields, Form, package_form, written, Accepted, handed, Faithful}
use Rattle.package.specs.Said.{target_of, key_data_of, group_of}
use Rattle.package.proofs.Accepted.{read-accepts}
use Rattle.package.proofs.Serial.{from_serial}
use Rattle.package.proofs.Target.{replicate-zeros, past-target, target-content}
use Rattle.package.proofs.Forms.{package_faithful}

-- y as the content of field 04 says it, or its absence
pub target-said : (m : ℕ) (y : List ℕ) → length y ≡ m → target_of m (words (cond (zeros y) [] (word_bytes y))) ≡ y
unfolding words all
target-said m y h = pick (zeros y) refl
  where
    some : (y : List ℕ) → zeros y ≡ false → target_of m y ≡ y
    some [] e = absurd (false≢true (sym e))
    some (a ∷ s) e = refl

    pick : (b : Bool) → zeros y ≡ b → target_of m (words (cond b [] (word_bytes y))) ≡ y
    pick true e = sym (replicate-zeros m y h e)
    pick false e = ap (target_of m) (words-bytes y) ∙ some y e

-- a file of any form whose fields are those of a key, of a group and others without field 04 says this key and this group
module _ (form : Form) (f : Faithful form) (x : form.Data) (v : form.Limits x) (k : KeyData) (g : Group) (others : List (ℕ × List ℕ)) (e : form.fields x ≡ key_fields k ++ (group_fields g ++ others)) where
  at : (tag : ℕ) → handed form (written form x) tag ≡ content_of tag (key_fields k ++ (group_fields g ++ others))
  at tag = f.contents x v tag ∙ ap (content_of tag) e

  pub key-said : form.key x ≡ k.sizes → length k.slices.y ≡ k.sizes.m → content_of 0x04 others ≡ [] → key_data_of form (written form x) ≡ k
  unfolding content_of
  key-said sizes long apart =
      let key = sym (read-accepts form.reader (written form x) (f.read x v)).1 ∙ sizes in
      let y = k.slices.y in
      let target = ap₂ (λ m s. target_of m (words s)) (ap (λ (z : Key). z.m) key) (at 0x04 ∙ target-content y (group_fields g ++ others) apart) ∙ target-said k.sizes.m y long in
      rw (target, at 0x02, at 0x03, words-bytes k.slices.h, words-bytes k.slices.x, key)

  pub group-said : group_of form (written form x) ≡ g
  unfolding content_of
  group-said =
      let past : (tag : ℕ) → eqb 0x04 tag ≡ false → content_of tag (target_fields k.slices.y ++ (group_fields g ++ others)) ≡ content_of tag (group_fields g ++ others) = λ tag h. past-target tag h k.slices.y (group_fields g ++ others) in
      rw (at 0x05 ∙ past 0x05 refl, at 0x06 ∙ past 0x06 refl, at 0x07 ∙ past 0x07 refl, from_serial g.serial, words-bytes g.a)

-- what a package says, as the data of its form
abbrev pub package_data : List ℕ → KeyData × Group
package_data s = (key_data_of (package_form (level_at FIRST)) s, group_of (package_form (level_at FIRST)) s)

data_written : (x : KeyData × Group) → (package_form (level_at FIRST)).Limits x → package_data (written (package_form (level_at FIRST)) x) ≡ x
unfolding content_of
data_written x v =
    let form = package_form (level_at FIRST) in
    let e : form.fields x ≡ key_fields x.0 ++ (group_fields x.1 ++ []) = ap (λ fields. key_fields x.0 ++ fields) (sym (append-nil (group_fields x.1))) in
    ap₂ (λ (k : KeyData) (g : Group). (k, g)) (key-said form package_faithful x v x.0 x.1 [] e refl v.0.y.0 refl) (group-said form package_faithful x v x.0 x.1 [] e)

-- an accepted package is written of what it says, and that is within the limits
pub package_said : (s : List ℕ) → Bytes s → Accepted (package_form (level_at FIRST)) s → (package_form (level_at FIRST)).Limits (package_data s) × (s ≡ written (package_form (level_at FIRST)) (package_data s))
package_said s b e =
    let form = package_form (level_at FIRST) in
    let w = package_faithful.accepted s b e in
    let is = sym (ap package_data w.2 ∙ data_written w.0 w.1) in
    (subst form.Limits is w.1, w.2 ∙ ap (written form) is)
