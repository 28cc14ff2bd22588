-- The laws of bundles: what the reader owes to what is written.
use Rattle.refusal.specs.declared.Refusal.TheVariants.{DependentRows}
use mathlib.Core.Path.{◌≡◌, refl, sym, ap, ap₂, ◌∙◌, subst}
use mathlib.Core.Bool.{false}
use mathlib.Core.List.{List, [], ◌∷◌, ◌++◌, map, append-nil}
use Prim.Native.Nat.{ℕ, zero, suc, ◌≤◌, ◌<◌}
use native.Mathlib.Omega.{arith}
use lib.ListN.{length, get_or, take, drop, length-append, length-drop, take-append-drop}
use lib.Seq.{drop_at, take_at, length-take-le}
use Rattle.copying.specs.Words.{Bytes, words}
use Rattle.copying.proofs.Bytes.{words-bytes, bytes-append}
use Rattle.refusal.specs.Answer.{first_of, Done}
use Rattle.refusal.proofs.Answers.{None, none}
use Rattle.field.specs.Level.{FIRST, level_at}
use Rattle.key.specs.declared.Key.{Key}
use Rattle.key.specs.Key.{Sized, key_slices}
use Rattle.layout.specs.Layout.{leans, key_segment, key_end, key_tests}
use Rattle.layout.specs.Tests.{key_of, tests, after}
use Rattle.layout.proofs.Rows.{none-append, none-join, none_done}
use Rattle.layout.proofs.Files.{first-sized}
use Rattle.package.specs.Written.{joined, content_of, KeyData, Group, key_fields, target_fields, group_fields, ValidKey}
use Rattle.package.specs.Said.{target_of, key_said}
use Rattle.package.proofs.Accepted.{after-within}
use Rattle.package.proofs.Joined.{cut, part_cut, joined-append, joined_bytes, after-joined, read-there, exact}
use Rattle.package.proofs.Target.{NotTarget, target-content}
use Rattle.package.proofs.Opening.{key_table, KeyPasses, key_laws, rest-leans, key-leans, valid-passes, valid-stands, stands-valid}
use Rattle.package.proofs.Forms.{group_table, group-fits, group-bytes, group-next}
use Rattle.package.proofs.Said.{target-said}
use Rattle.bundle.specs.declared.Contents.{Contents}
use Rattle.std.specs.Prelude.{Ok}
use Rattle.bundle.specs.Bundle.{group_at, starts_from, groups_tests, starts, bundle_tests, key_data_of, groups_of}
use Rattle.bundle.specs.Reading.{read_as, reading}
use Rattle.bundle.specs.Written.{Bundle, groups_fields, written, ValidGroups, ValidBundle, Accepted, said, Faithful}
use Rattle.bundle.proofs.Places.{Walked, walked, Stood, stand}

pub map-length : {A B : Type 0} (f : A → B) (s : List A) → length (map f s) ≡ length s
map-length f [] = refl
map-length f (x ∷ s) = ap suc (map-length f s)

-- the data of the key from the contents of its fields
key_packed : (k : KeyData) → KeyPasses k → key_said (λ tag. content_of tag (key_fields k)) k.sizes ≡ k
unfolding content_of
key_packed k v =
    let y = k.slices.y in
    let target = ap (λ f. content_of 0x04 f) (sym (append-nil (target_fields y))) ∙ target-content y [] refl in
    ap₂ (λ (h x : List ℕ). record { sizes = k.sizes; slices = key_slices h x (target_of k.sizes.m (words (content_of 0x04 (target_fields y)))) }) (words-bytes k.slices.h) (words-bytes k.slices.x)
    ∙ ap (λ (t : List ℕ). record { sizes = k.sizes; slices = key_slices k.slices.h k.slices.x t }) (ap (λ c. target_of k.sizes.m (words c)) target ∙ target-said k.sizes.m y v.1.0)

-- what the key fields of bytes say, where these are the fields of a key
key-said : (s : List ℕ) (k : KeyData) → KeyPasses k → key_of s ≡ k.sizes → cut s 0 (key_segment (level_at FIRST) s) ≡ key_fields k → key_data_of (level_at FIRST) s ≡ k
key-said s k v e f =
    (λ i. key_said (λ tag. part_cut s tag 0 (key_segment (level_at FIRST) s) i) (key_of s))
    ∙ ap₂ (λ (fields : List (ℕ × List ℕ)) (key : Key). key_said (λ tag. content_of tag fields) key) f e
    ∙ key_packed k v

-- accepted bytes
module _ (s : List ℕ) (b : Bytes s) (e : Accepted (level_at FIRST) s) where
  parts : None (key_tests (level_at FIRST) s) × None (groups_tests (level_at FIRST) (key_of s) s 0 (starts (level_at FIRST) s))
  parts = none-append (key_tests (level_at FIRST) s) (groups_tests (level_at FIRST) (key_of s) s 0 (starts (level_at FIRST) s)) (none (bundle_tests (level_at FIRST) s) e)

  opening : None (tests (level_at FIRST) s 0 (key_segment (level_at FIRST) s)) × (leans (level_at FIRST) s ≡ false)
  opening = let p = none-append (tests (level_at FIRST) s 0 (key_segment (level_at FIRST) s)) ((leans (level_at FIRST) s, DependentRows) ∷ []) parts.0 in (p.0, p.1.0)

  pub bundle_sized : Sized (level_at FIRST) (key_of s)
  bundle_sized = first-sized (level_at FIRST) s _ opening.0

  pub key-within : key_end (level_at FIRST) s ≤ length s
  key-within = after-within (level_at FIRST) s 0 (key_segment (level_at FIRST) s) (omega arith) opening.0

  pub groups-walked : Walked (key_of s) s 0 (key_end (level_at FIRST) s) (groups_of (level_at FIRST) s)
  groups-walked = walked (key_of s) s b (suc (length s)) 0 (key_end (level_at FIRST) s) (omega arith) key-within parts.1

  -- the key that its fields say, and these fields at the start of the bytes
  key-read : KeyPasses (key_data_of (level_at FIRST) s) × (s ≡ joined (key_fields (key_data_of (level_at FIRST) s)) ++ drop (key_end (level_at FIRST) s) s)
  key-read =
      let l = level_at FIRST in
      let r = key_laws.laws.read s b 0 opening.0 in
      let is : key_data_of l s ≡ r.0 = key-said s r.0 r.1 (sym (key_laws.told s b 0 opening.0)) (sym r.2) in
      (subst KeyPasses (sym is) r.1, exact l s b 0 (key_segment l s) opening.0 ∙ ap (λ f. joined f ++ drop (key_end l s) s) (sym r.2 ∙ ap key_fields (sym is)))

  -- the bytes of the key fields
  pub key-bytes : take (key_end (level_at FIRST) s) s ≡ joined (key_fields (key_data_of (level_at FIRST) s))
  key-bytes =
      let k = joined (key_fields (key_data_of (level_at FIRST) s)) in
      let end = key_end (level_at FIRST) s in
      let long : length k ≡ end = omega (arith, ap length key-read.1, length-append k (drop end s), length-drop end s, key-within) in
      ap (take end) key-read.1 ∙ take_at k (drop end s) end long

  accepted-written : s ≡ written (said (level_at FIRST) s)
  accepted-written =
      key-read.1
      ∙ ap (λ t. joined (key_fields (key_data_of (level_at FIRST) s)) ++ t) groups-walked.bytes
      ∙ sym (joined-append (key_fields (key_data_of (level_at FIRST) s)) (groups_fields (groups_of (level_at FIRST) s)))

  accepted-key : ValidKey (level_at FIRST) (key_data_of (level_at FIRST) s)
  accepted-key =
      let k = key_data_of (level_at FIRST) s in
      stands-valid k key-read.0 (sym (key-leans k key-read.0 (groups_fields (groups_of (level_at FIRST) s))) ∙ ap (leans (level_at FIRST)) (sym accepted-written) ∙ opening.1)

  accepted-some : 0 < length (groups_of (level_at FIRST) s)
  unfolding starts_from
  accepted-some = omega arith

  accepted-valid : ValidBundle (level_at FIRST) (said (level_at FIRST) s)
  accepted-valid = record {
    key = accepted-key;
    groups = groups-walked.valid;
    rising = groups-walked.rising;
    some = accepted-some;
  }

-- bytes that begin with the fields of a key within the limits, before bytes that do not begin with the tag of y
module _ (k : KeyData) (v : ValidKey (level_at FIRST) k) (rest : List ℕ) (next : NotTarget rest) where
  abbrev opened : List ℕ
  opened = joined (key_fields k) ++ rest

  passing : KeyPasses k
  passing = valid-passes k v

  pub opened-key : key_of opened ≡ k.sizes
  opened-key = key_laws.starts [] rest k passing

  segment : key_segment (level_at FIRST) opened ≡ key_table k
  segment = key_laws.laws.there [] rest next k passing

  opened-there : None (tests (level_at FIRST) opened 0 (key_segment (level_at FIRST) opened)) × (cut opened 0 (key_segment (level_at FIRST) opened) ≡ key_fields k)
  opened-there =
      subst (λ rows. None (tests (level_at FIRST) opened 0 rows) × (cut opened 0 rows ≡ key_fields k)) (sym segment)
      (read-there (level_at FIRST) [] (key_table k) (key_fields k) rest (key_laws.laws.fits k passing))

  pub opened-end : key_end (level_at FIRST) opened ≡ length (joined (key_fields k))
  opened-end = ap (after 0) segment ∙ after-joined (level_at FIRST) 0 (key_table k) (key_fields k) (key_laws.laws.fits k passing) ∙ omega arith

  pub opened-none : None (key_tests (level_at FIRST) opened)
  opened-none = none-join (tests (level_at FIRST) opened 0 (key_segment (level_at FIRST) opened)) ((leans (level_at FIRST) opened, DependentRows) ∷ []) opened-there.0 (rest-leans k passing rest ∙ valid-stands k v, tt)

-- bytes that are written
module _ (k : KeyData) (g : Group) (groups : List Group) (v : ValidBundle (level_at FIRST) (record { key = k; groups = g ∷ groups })) where
  abbrev bytes : List ℕ
  bytes = written (record { key = k; groups = g ∷ groups })

  abbrev rest : List ℕ
  rest = joined (groups_fields (g ∷ groups))

  split : bytes ≡ joined (key_fields k) ++ rest
  split = joined-append (key_fields k) (groups_fields (g ∷ groups))

  next : NotTarget rest
  unfolding groups_fields
  next = subst NotTarget (sym (joined-append (group_fields g) (groups_fields groups))) (group-next g (joined (groups_fields groups)))

  starts-key : key_of bytes ≡ k.sizes
  starts-key = ap key_of split ∙ opened-key k v.key rest next

  key-there : cut bytes 0 (key_segment (level_at FIRST) bytes) ≡ key_fields k
  key-there = ap (λ t. cut t 0 (key_segment (level_at FIRST) t)) split ∙ (opened-there k v.key rest next).1

  key-ends : key_end (level_at FIRST) bytes ≡ length (joined (key_fields k))
  key-ends = ap (key_end (level_at FIRST)) split ∙ opened-end k v.key rest next

  groups_stand : Stood (key_of bytes) bytes 0 (starts (level_at FIRST) bytes) (g ∷ groups)
  groups_stand =
      let l = level_at FIRST in
      let end = key_end l bytes in
      let past : drop end bytes ≡ rest = ap₂ (λ (i : ℕ) (t : List ℕ). drop i t) key-ends split ∙ drop_at (joined (key_fields k)) rest (length (joined (key_fields k))) refl in
      let within : end ≤ length bytes = omega (arith, key-ends, ap length split, length-append (joined (key_fields k)) rest) in
      stand (key_of bytes) bytes (subst (Sized l) (sym starts-key) v.key.sized) (suc (length bytes)) 0 end g groups (omega arith) within (subst (λ key. ValidGroups l key (g ∷ groups)) (sym starts-key) v.groups) v.rising past

  written-accepted : Accepted (level_at FIRST) bytes
  written-accepted =
      let l = level_at FIRST in
      none_done (bundle_tests l bytes)
      (none-join (key_tests l bytes) (groups_tests l (key_of bytes) bytes 0 (starts l bytes)) (subst (λ t. None (key_tests l t)) (sym split) (opened-none k v.key rest next)) groups_stand.0)

  written-said : said (level_at FIRST) bytes ≡ record { key = k; groups = g ∷ groups }
  written-said = ap₂ (λ (k : KeyData) (gs : List Group). record { key = k; groups = gs }) (key-said bytes k (valid-passes k v.key) starts-key key-there) groups_stand.1

  written_read : reading (level_at FIRST) bytes ≡ Ok (record { n = k.sizes.n; m = k.sizes.m; groups = length (g ∷ groups) })
  written_read =
      let c : (key : Key) (n : ℕ) → Contents = λ key n. record { n = key.n; m = key.m; groups = n } in
      ap (λ a. read_as a (c (key_of bytes) (length (starts (level_at FIRST) bytes)))) written-accepted
      ∙ ap₂ (λ (key : Key) (n : ℕ). Ok (c key n)) starts-key (sym (map-length (group_at (level_at FIRST) (key_of bytes) bytes) (starts (level_at FIRST) bytes)) ∙ ap length groups_stand.1)

groups-bytes : (key : Key) → Sized (level_at FIRST) key → (groups : List Group) → ValidGroups (level_at FIRST) key groups → Bytes (joined (groups_fields groups))
unfolding joined groups_fields
groups-bytes key h [] v = λ i. omega arith
groups-bytes key h (g ∷ groups) v =
    subst Bytes (sym (joined-append (group_fields g) (groups_fields groups)))
    (bytes-append (joined (group_fields g)) (joined (groups_fields groups)) (joined_bytes (level_at FIRST) (group_table key g) (group_fields g) (group-fits key h g v.0) (group-bytes key g v.0)) (groups-bytes key h groups v.1))

written-bytes : (x : Bundle) → ValidBundle (level_at FIRST) x → Bytes (written x)
written-bytes x v =
    let k = x.key in
    let p = valid-passes k v.key in
    subst Bytes (sym (joined-append (key_fields k) (groups_fields x.groups)))
    (bytes-append (joined (key_fields k)) (joined (groups_fields x.groups))
    (joined_bytes (level_at FIRST) (key_table k) (key_fields k) (key_laws.laws.fits k p) (key_laws.laws.bytes k p))
    (groups-bytes k.sizes v.key.sized x.groups v.groups))

-- by cases of the groups, of which there are some
by_groups : (P : Bundle → Type 0) (x : Bundle) → ValidBundle (level_at FIRST) x → ((k : KeyData) (g : Group) (groups : List Group) → ValidBundle (level_at FIRST) (record { key = k; groups = g ∷ groups }) → P (record { key = k; groups = g ∷ groups })) → P x
by_groups P x v f = pick x.groups refl
  where
    pick : (gs : List Group) → x.groups ≡ gs → P x
    pick [] e = absurd (omega (arith, v.some, ap length e))
    pick (g ∷ groups) e =
        let is : x ≡ record { key = x.key; groups = g ∷ groups } = ap (λ (gs : List Group). record { key = x.key; groups = gs }) e in
        subst P (sym is) (f x.key g groups (subst (ValidBundle (level_at FIRST)) is v))

pub bundle_faithful : Faithful (level_at FIRST)
bundle_faithful =
    let l = level_at FIRST in
    let says : (x : Bundle) → ValidBundle l x → said l (written x) ≡ x = λ x v. by_groups (λ x. said l (written x) ≡ x) x v written-said in
    record {
      accepted = λ s b e. (accepted-valid s b e, accepted-written s b e);
      read = λ x v. by_groups (λ x. reading l (written x) ≡ Ok (record { n = x.key.sizes.n; m = x.key.sizes.m; groups = length x.groups })) x v written_read;
      says = says;
      bytes = written-bytes;
      injective = λ x y v w e. sym (says x v) ∙ ap (said l) e ∙ says y w;
    }

-- bytes that begin with the key fields of an accepted bundle, with another byte after them than the tag of y: these are not refused, and end there
module _ (s : List ℕ) (b : Bytes s) (e : Accepted (level_at FIRST) s) (t : List ℕ) (same : take (key_end (level_at FIRST) s) t ≡ take (key_end (level_at FIRST) s) s)
    (other : get_or t (key_end (level_at FIRST) s) 0 ≡ 0x04 → ⊥) where
  abbrev after-key : List ℕ
  after-key = drop (key_end (level_at FIRST) s) t

  not-target : NotTarget after-key
  not-target f = other (sym (get_d_drop t (key_end (level_at FIRST) s)) ∙ f)
    where
      get_d_drop : (t : List ℕ) (i : ℕ) → get_or (drop i t) 0 0 ≡ get_or t i 0
      get_d_drop t zero = refl
      get_d_drop [] (suc i) = refl
      get_d_drop (x ∷ t) (suc i) = get_d_drop t i

  is-opened : joined (key_fields (key_data_of (level_at FIRST) s)) ++ after-key ≡ t
  is-opened = ap (λ r. r ++ after-key) (sym (key-bytes s b e) ∙ sym same) ∙ take-append-drop (key_end (level_at FIRST) s) t

  pub again-done : first_of (key_tests (level_at FIRST) t) ≡ Done
  again-done = subst (λ r. first_of (key_tests (level_at FIRST) r) ≡ Done) is-opened (none_done (key_tests (level_at FIRST) (joined (key_fields (key_data_of (level_at FIRST) s)) ++ after-key)) (opened-none (key_data_of (level_at FIRST) s) (accepted-key s b e) after-key not-target))

  pub again-end : key_end (level_at FIRST) t ≡ key_end (level_at FIRST) s
  again-end =
      ap (key_end (level_at FIRST)) (sym is-opened) ∙ opened-end (key_data_of (level_at FIRST) s) (accepted-key s b e) after-key not-target
      ∙ ap length (sym (key-bytes s b e)) ∙ length-take-le (key_end (level_at FIRST) s) s (key-within s b e)
