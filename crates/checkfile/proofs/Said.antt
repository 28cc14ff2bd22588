-- What an accepted check file says: the data that it is written of, which are within the limits.
use mathlib.Core.Path.{◌≡◌, refl, sym, ap, ◌∙◌, subst}
use mathlib.Core.Bool.{false}
use mathlib.Core.List.{List, ◌++◌, append_assoc}
use Prim.Native.Nat.{ℕ}
use lib.Dec.{eqb}
use Rattle.copying.specs.Words.{Bytes}
use Rattle.copying.proofs.Bytes.{words-bytes}
use Rattle.field.specs.Level.{FIRST, level_at}
use Rattle.package.specs.Written.{content_of, target_fields, key_fields, group_fields, check_fields, check_form, written}
use Rattle.package.specs.Said.{key_data_of, group_of}
use Rattle.package.proofs.Target.{past-target}
use Rattle.package.proofs.Said.{key-said, group-said}
use Rattle.package.proofs.Forms.{check_file_faithful}
use Rattle.checkfile.specs.Checking.{Accepts, content, check_of}

-- what a file says, as the data of its form
abbrev pub data_of : List ℕ → (check_form (level_at FIRST)).Data
data_of s = ((key_data_of (check_form (level_at FIRST)) s, group_of (check_form (level_at FIRST)) s), check_of (level_at FIRST) s)

-- a file that is written says the data written
pub data_written : (x : (check_form (level_at FIRST)).Data) → (check_form (level_at FIRST)).Limits x → data_of (written (check_form (level_at FIRST)) x) ≡ x
unfolding content_of
data_written x v =
    let form = check_form (level_at FIRST) in
    let s = written form x in
    let f = check_file_faithful in
    let k = x.0.0 in
    let g = x.0.1 in
    let c = x.1 in
    let y = k.slices.y in
    let e = append_assoc (key_fields k) (group_fields g) (check_fields c) in
    let others = group_fields g ++ check_fields c in
    let at : (tag : ℕ) → content (level_at FIRST) s tag ≡ content_of tag (key_fields k ++ others) = λ tag. f.contents x v tag ∙ ap (content_of tag) e in
    let past : (tag : ℕ) → eqb 0x04 tag ≡ false → content_of tag (target_fields y ++ others) ≡ content_of tag others = λ tag h. past-target tag h y others in
    rw (key-said form f x v k g (check_fields c) e refl v.0.0.y.0 refl, group-said form f x v k g (check_fields c) e, at 0x11 ∙ past 0x11 refl, at 0x12 ∙ past 0x12 refl, at 0x13 ∙ past 0x13 refl, at 0x14 ∙ past 0x14 refl, words-bytes c.q, words-bytes c.masks, words-bytes c.delta, words-bytes c.alpha)

-- accepted bytes are written of data within the limits, so what they say is within the limits
pub within-limits : (s : List ℕ) → Bytes s → Accepts (level_at FIRST) s → (check_form (level_at FIRST)).Limits (data_of s)
within-limits s b e =
    let w = check_file_faithful.accepted s b e in
    subst (check_form (level_at FIRST)).Limits (sym (ap data_of w.2 ∙ data_written w.0 w.1)) w.1
