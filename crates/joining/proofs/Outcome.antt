-- What joining answers and writes, from what its functions ensure.
use Rattle.std.specs.Prelude.{Err, Ok, Result}
use Rattle.refusal.specs.declared.Refusal.TheVariants.{ShortOutput, OtherKey, GroupsDiffer}
use mathlib.Core.Path.{◌≡◌, refl, sym, ap, ap₂, ◌∙◌, subst}
use mathlib.Core.Bool.{Bool, true, false, not, cond}
use mathlib.Core.List.{List, [], ◌∷◌, ◌++◌, append_assoc}
use Prim.Native.Nat.{ℕ, ◌+◌, ◌-◌, ◌≤◌, ◌<◌}
use native.Mathlib.Nat.{sub-zero}
use native.Mathlib.Omega.{arith}
use borrow.Author.Tests.{le-ltb, lt-ltb, ltb-false, not-false}
use lib.Dec.{ltb}
use lib.ListN.{length, get_or, take, drop, length-append}
use lib.Seq.{length-take-le, take_at}
use Rattle.lists.specs.Words.{part, put}
use Rattle.lists.proofs.Words.{part_at}
use Rattle.copying.specs.Words.{Bytes}
use Rattle.copying.proofs.Filled.{stands-next, stands-first, first-stands}
use Rattle.refusal.specs.Answer.{Done, first_of, room_row, written as kept, Answer}
use Rattle.refusal.specs.declared.Refusal.{Refusal}
use Rattle.refusal.proofs.Answers.{none, after-done, after-refused, both_done, pass, stop}
use Rattle.field.specs.Level.{FIRST, level_at}
use Rattle.key.specs.declared.Key.{Key}
use Rattle.layout.specs.declared.Row.{Row}
use Rattle.layout.specs.Layout.{key_segment, key_end}
use Rattle.layout.specs.Tests.{key_of, after}
use Rattle.package.specs.Written.{joined, Group, key_fields, ValidGroup}
use Rattle.package.proofs.Joined.{joined-append}
use Rattle.bundle.specs.Bundle.{group_at, starts, bundle_tests, key_data_of, groups_of}
use Rattle.bundle.specs.Reading.{reading}
use Rattle.bundle.specs.Written.{groups_fields, written, ValidGroups, ValidBundle, Accepted, said}
use Rattle.bundle.proofs.Faithful.{map-length, key-within, key-bytes, bundle_faithful}
use Rattle.joining.specs.declared.Size.{Size}
use Rattle.joining.specs.declared.Plan.{Plan}
use Rattle.joining.specs.Union.{insert, union, same, differ}
use Rattle.joining.specs.Entry.{size_as, key_bytes, joined_bundle, join_rows, join_outcome}
use Rattle.joining.specs.Laws.{ReadBack}
use Rattle.joining.specs.Steps.{Mates, groups_bytes, Counted, planned}
use Rattle.joining.proofs.Equal.{same_true}
use Rattle.joining.proofs.Union.{union-rises}
use Rattle.joining.proofs.Count.{count-le}

-- the key fields end after field 01
after-above : (at : ℕ) (rows : List Row) → at ≤ after at rows
unfolding after
after-above at [] = omega arith
after-above at (row ∷ rows) = omega (arith, after-above (at + 3 + row.len) rows)

key-far : (s : List ℕ) → 5 ≤ key_end (level_at FIRST) s
unfolding after
key-far s = after-above 5 (drop 1 (key_segment (level_at FIRST) s))

-- bytes of one beginning have one n and m
same_key : (s t : List ℕ) (p q : ℕ) → 5 ≤ p → 5 ≤ q → take p s ≡ take q t → key_of t ≡ key_of s
same_key s t p q h k e =
    let at : (i : ℕ) → i < 5 → get_or t (0 + i) 0 ≡ get_or s (0 + i) 0 = λ i b. sym (part_at 0 q t i (omega (arith, b, k))) ∙ ap (λ r. get_or r i 0) (sym e) ∙ part_at 0 p s i (omega (arith, b, h)) in
    ap₂ (λ (n m : ℕ). record { n = n; m = m }) (at 3 (omega arith)) (at 4 (omega arith))

-- how long an accepted bundle is, and how many groups it has
pub size_of : (s : List ℕ) → Bytes s → Accepted (level_at FIRST) s → length s ≡ key_end (level_at FIRST) s + length (groups_bytes (groups_of (level_at FIRST) s))
size_of s b e =
    let k = key_fields (key_data_of (level_at FIRST) s) in
    let is = (bundle_faithful.accepted s b e).1 ∙ joined-append k (groups_fields (groups_of (level_at FIRST) s)) in
    omega (arith, ap length is, length-append (joined k) (groups_bytes (groups_of (level_at FIRST) s)), ap length (key-bytes s b e), length-take-le (key_end (level_at FIRST) s) s (key-within s b e))

number_of : (s : List ℕ) → length (starts (level_at FIRST) s) ≡ length (groups_of (level_at FIRST) s)
number_of s = sym (map-length (group_at (level_at FIRST) (key_of s) s) (starts (level_at FIRST) s))

module _ (s t : List ℕ) (b : Bytes s) (c : Bytes t) (one : Accepted (level_at FIRST) s) (two : Accepted (level_at FIRST) t) where
  abbrev X : List Group
  X = groups_of (level_at FIRST) s

  abbrev Y : List Group
  Y = groups_of (level_at FIRST) t

  pub mates : same (key_bytes (level_at FIRST) s) (key_bytes (level_at FIRST) t) ≡ true → Mates (level_at FIRST) s t (key_end (level_at FIRST) s)
  mates e =
      let l = level_at FIRST in
      let is = same_true (key_bytes l s) (key_bytes l t) e in
      let far : key_end l t ≡ key_end l s = omega (arith, ap length is, length-take-le (key_end l s) s (key-within s b one), length-take-le (key_end l t) t (key-within t c two)) in
      record { first = one; second = two; from_first = refl; from_second = far; key = same_key s t (key_end l s) (key_end l t) (key-far s) (key-far t) is }

  -- the bytes of the joined bundle: those of the key fields, then those of the groups
  pub joined_bytes : written (joined_bundle (level_at FIRST) s t) ≡ key_bytes (level_at FIRST) s ++ groups_bytes (union X Y)
  joined_bytes =
      let k = key_fields (key_data_of (level_at FIRST) s) in
      joined-append k (groups_fields (union X Y)) ∙ ap (λ r. r ++ groups_bytes (union X Y)) (sym (key-bytes s b one))

  pub joined-size : length (written (joined_bundle (level_at FIRST) s t)) ≡ key_end (level_at FIRST) s + length (groups_bytes (union X Y))
  joined-size = omega (arith, ap length joined_bytes, length-append (key_bytes (level_at FIRST) s) (groups_bytes (union X Y)), length-take-le (key_end (level_at FIRST) s) s (key-within s b one))

  -- the sizes that are computed from what both share
  pub record Sizes (number size : ℕ) : Type 0 where
    pub short : size ≤ length s
    pub start : key_end (level_at FIRST) s ≤ length t
    pub bytes : length s - size + (length t - key_end (level_at FIRST) s) ≡ length (written (joined_bundle (level_at FIRST) s t))
    pub few : number ≤ length (starts (level_at FIRST) s)
    pub groups : length (starts (level_at FIRST) s) - number + length (starts (level_at FIRST) t) ≡ length (union X Y)
    pub small : length (starts (level_at FIRST) s) + length (starts (level_at FIRST) t) ≤ length s + length t

  pub sizes : {number size : ℕ} → key_end (level_at FIRST) t ≡ key_end (level_at FIRST) s → Counted X Y number size → Sizes number size
  sizes e w =
      let a = size_of s b one in
      let d = size_of t c two in
      record {
        short = omega (arith, a, w.short);
        start = omega (arith, d, e);
        bytes = omega (arith, a, d, e, w.bytes, w.short, joined-size);
        few = omega (arith, w.few, number_of s);
        groups = omega (arith, w.groups, w.few, number_of s, number_of t);
        small = omega (arith, a, d, number_of s, number_of t, count-le X, count-le Y);
      }

-- the answer, by the rows
module _ (s t : List ℕ) (room : ℕ) where
  abbrev A : List (Bool × Refusal)
  A = bundle_tests (level_at FIRST) s

  abbrev B : List (Bool × Refusal)
  B = bundle_tests (level_at FIRST) t

  abbrev C : List (Bool × Refusal)
  C = (not (same (key_bytes (level_at FIRST) s) (key_bytes (level_at FIRST) t)), OtherKey) ∷ (differ (groups_of (level_at FIRST) s) (groups_of (level_at FIRST) t), GroupsDiffer) ∷ []

  abbrev D : List (Bool × Refusal)
  D = room_row (length (written (joined_bundle (level_at FIRST) s t))) room

  pub by_first : {k : Refusal} → first_of A ≡ Err k → Err k ≡ planned (level_at FIRST) s t (first_of (join_rows (level_at FIRST) s t room))
  by_first e = ap (planned (level_at FIRST) s t) (sym e ∙ after-refused (A ++ B ++ C) D (after-refused (A ++ B) C (after-refused A B refl e) e) e)

  module _ (one : first_of A ≡ Done) where
    pub by_second : {k : Refusal} → first_of B ≡ Err k → Err k ≡ planned (level_at FIRST) s t (first_of (join_rows (level_at FIRST) s t room))
    by_second e = ap (planned (level_at FIRST) s t) (sym e ∙ after-refused (A ++ B ++ C) D (after-refused (A ++ B) C (sym (after-done A B one)) e) e)

    module _ (two : first_of B ≡ Done) where
      rows_left : first_of (join_rows (level_at FIRST) s t room) ≡ first_of (C ++ D)
      rows_left = ap first_of (append_assoc (A ++ B) C D) ∙ after-done (A ++ B) (C ++ D) (after-done A B one ∙ two)

      pub by_key : same (key_bytes (level_at FIRST) s) (key_bytes (level_at FIRST) t) ≡ false → Err OtherKey ≡ planned (level_at FIRST) s t (first_of (join_rows (level_at FIRST) s t room))
      by_key e = ap (planned (level_at FIRST) s t) (sym (rows_left ∙ stop OtherKey ((differ (groups_of (level_at FIRST) s) (groups_of (level_at FIRST) t), GroupsDiffer) ∷ D) (ap not e)))

      module _ (key : same (key_bytes (level_at FIRST) s) (key_bytes (level_at FIRST) t) ≡ true) where
        pub key_left : first_of (join_rows (level_at FIRST) s t room) ≡ first_of ((differ (groups_of (level_at FIRST) s) (groups_of (level_at FIRST) t), GroupsDiffer) ∷ D)
        key_left = rows_left ∙ pass OtherKey ((differ (groups_of (level_at FIRST) s) (groups_of (level_at FIRST) t), GroupsDiffer) ∷ D) (ap not key)

        pub by_groups : differ (groups_of (level_at FIRST) s) (groups_of (level_at FIRST) t) ≡ true → Err GroupsDiffer ≡ planned (level_at FIRST) s t (first_of (join_rows (level_at FIRST) s t room))
        by_groups e = ap (planned (level_at FIRST) s t) (sym (key_left ∙ stop GroupsDiffer D e))

        module _ (agree : differ (groups_of (level_at FIRST) s) (groups_of (level_at FIRST) t) ≡ false) where
          pub by_room : room < length (written (joined_bundle (level_at FIRST) s t)) → Err ShortOutput ≡ planned (level_at FIRST) s t (first_of (join_rows (level_at FIRST) s t room))
          by_room e = ap (planned (level_at FIRST) s t) (sym (key_left ∙ pass GroupsDiffer D agree ∙ stop ShortOutput [] (lt-ltb _ _ e)))

          pub by_fit : length (written (joined_bundle (level_at FIRST) s t)) ≤ room → {n g : ℕ} → n ≡ length (written (joined_bundle (level_at FIRST) s t)) → g ≡ length (joined_bundle (level_at FIRST) s t).groups
              → Ok (record { start = key_end (level_at FIRST) s; size = record { length = n; groups = g } }) ≡ planned (level_at FIRST) s t (first_of (join_rows (level_at FIRST) s t room))
          by_fit e f h =
              ap₂ (λ (n g : ℕ). Ok (record { start = key_end (level_at FIRST) s; size = record { length = n; groups = g } })) f h
              ∙ ap (planned (level_at FIRST) s t) (sym (key_left ∙ pass GroupsDiffer D agree ∙ pass ShortOutput [] (le-ltb _ _ e)))

  -- what holds where no row applies
  pub record Joins : Type 0 where
    pub first : Accepted (level_at FIRST) s
    pub second : Accepted (level_at FIRST) t
    pub key : same (key_bytes (level_at FIRST) s) (key_bytes (level_at FIRST) t) ≡ true
    pub fits : length (written (joined_bundle (level_at FIRST) s t)) ≤ room

  pub joins : first_of (join_rows (level_at FIRST) s t room) ≡ Done → Joins
  joins e =
      let p = both_done (A ++ B ++ C) D e in
      let q = both_done (A ++ B) C p.0 in
      let r = both_done A B q.0 in
      record {
        first = r.0;
        second = r.1;
        key = not-false _ (none C q.1).0;
        fits = ltb-false room (length (written (joined_bundle (level_at FIRST) s t))) (none D p.1).0;
      }

-- what a plan says of the answer behind it
pub plan_refused : (s t : List ℕ) (a : Answer) {k : Refusal} → planned (level_at FIRST) s t a ≡ Err k → a ≡ Err k
plan_refused s t (Ok _) e = let z : ◌≡◌ {A = ℕ} 0 1 = cc in absurd (omega arith)
plan_refused s t (Err r) e = cc

pub plan_fits : (s t : List ℕ) (a : Answer) {p : Plan} → planned (level_at FIRST) s t a ≡ Ok p
    → (a ≡ Done) × (p ≡ record { start = key_end (level_at FIRST) s; size = record { length = length (written (joined_bundle (level_at FIRST) s t)); groups = length (joined_bundle (level_at FIRST) s t).groups } })
plan_fits s t (Ok _) e = (refl, cc)
plan_fits s t (Err r) e = let z : ◌≡◌ {A = ℕ} 0 1 = cc in absurd (omega arith)

-- groups of either within the limits
insert-valid : (key : Key) (g : Group) (gs : List Group) → ValidGroup (level_at FIRST) key g → ValidGroups (level_at FIRST) key gs → ValidGroups (level_at FIRST) key (insert g gs)
unfolding insert
insert-valid key g [] v w = (v, tt)
insert-valid key g (h ∷ gs) v w = pick (ltb g.serial h.serial) (ltb h.serial g.serial) (insert-valid key g gs v w.1)
  where
    pick : (p q : Bool) → ValidGroups (level_at FIRST) key (insert g gs) → ValidGroups (level_at FIRST) key (cond p (g ∷ h ∷ gs) (cond q (h ∷ insert g gs) (h ∷ gs)))
    pick true q later = (v, w)
    pick false true later = (w.0, later)
    pick false false later = w

union-valid : (key : Key) (xs ys : List Group) → ValidGroups (level_at FIRST) key xs → ValidGroups (level_at FIRST) key ys → ValidGroups (level_at FIRST) key (union xs ys)
unfolding union
union-valid key [] ys v w = w
union-valid key (x ∷ xs) ys v w = insert-valid key x (union xs ys) v.0 (union-valid key xs ys v.1 w)

insert-some : (g : Group) (gs : List Group) → 0 < length (insert g gs)
unfolding insert
insert-some g [] = omega arith
insert-some g (h ∷ gs) = pick (ltb g.serial h.serial) (ltb h.serial g.serial)
  where
    pick : (p q : Bool) → 0 < length (cond p (g ∷ h ∷ gs) (cond q (h ∷ insert g gs) (h ∷ gs)))
    pick true q = omega arith
    pick false true = omega arith
    pick false false = omega arith

union-some : (xs ys : List Group) → 0 < length xs → 0 < length (union xs ys)
unfolding union
union-some [] ys h = absurd (omega arith)
union-some (x ∷ xs) ys h = insert-some x (union xs ys)

-- the joined bundle is within the limits, and read back
module _ (s t : List ℕ) (b : Bytes s) (c : Bytes t) {start : ℕ} (m : Mates (level_at FIRST) s t start) where
  joined-valid : ValidBundle (level_at FIRST) (joined_bundle (level_at FIRST) s t)
  joined-valid =
      let l = level_at FIRST in
      let v = (bundle_faithful.accepted s b m.first).0 in
      let w = (bundle_faithful.accepted t c m.second).0 in
      record {
        key = v.key;
        groups = union-valid (key_of s) (groups_of l s) (groups_of l t) v.groups (subst (λ key. ValidGroups l key (groups_of l t)) m.key w.groups);
        rising = union-rises 0 (groups_of l s) (groups_of l t) v.rising w.rising;
        some = union-some (groups_of l s) (groups_of l t) v.some;
      }

  -- what the output then holds
  pub put_both : (out : List ℕ) {mid end : List ℕ} → let U = groups_bytes (union (groups_of (level_at FIRST) s) (groups_of (level_at FIRST) t)) in
      length (written (joined_bundle (level_at FIRST) s t)) ≤ length out → mid ≡ put 0 (part 0 (start - 0) s) out → end ≡ put start U mid
      → end ≡ written (joined_bundle (level_at FIRST) s t) ++ drop (length (written (joined_bundle (level_at FIRST) s t))) out
  put_both out {mid} {end} h e f =
      let l = level_at FIRST in
      let U = groups_bytes (union (groups_of l s) (groups_of l t)) in
      let bytes = joined_bytes s t b c m.first m.second in
      let zero : start - 0 ≡ key_end l s = sub-zero start ∙ sym m.from_first in
      let long : length (key_bytes l s) ≡ start = length-take-le (key_end l s) s (key-within s b m.first) ∙ m.from_first in
      let first = stands-first {s = out} {a = key_bytes l s} {t = mid} {i = start} (e ∙ ap (λ n. put 0 (part 0 n s) out) zero) (sym long) in
      let room : start + length U ≤ length out = omega (arith, h, joined-size s t b c m.first m.second, m.from_first) in
      let both = stands-next U first room f refl in
      (first-stands both).0 ∙ ap (λ r. r ++ drop (length r) out) (sym bytes)

  pub read_back : (out : List ℕ) {size : Size} {end : List ℕ} → size ≡ record { length = length (written (joined_bundle (level_at FIRST) s t)); groups = length (joined_bundle (level_at FIRST) s t).groups }
      → end ≡ written (joined_bundle (level_at FIRST) s t) ++ drop (length (written (joined_bundle (level_at FIRST) s t))) out → ReadBack (level_at FIRST) s t size end
  read_back out {size} {end} e f =
      let l = level_at FIRST in
      let bytes = written (joined_bundle l s t) in
      let n : size.length ≡ length bytes = ap (λ (z : Size). z.length) e in
      let g : size.groups ≡ length (joined_bundle l s t).groups = ap (λ (z : Size). z.groups) e in
      let is : take size.length end ≡ bytes = ap₂ take n f ∙ take_at bytes (drop (length bytes) out) (length bytes) refl in
      record {
        fits = omega (arith, n, ap length f, length-append bytes (drop (length bytes) out));
        read = ap (reading l) is ∙ bundle_faithful.read (joined_bundle l s t) joined-valid ∙ ap (λ (k : ℕ). Ok (record { n = (key_of s).n; m = (key_of s).m; groups = k })) (sym g);
        says = ap (said l) is ∙ bundle_faithful.says (joined_bundle l s t) joined-valid;
      }

pub size_same : {x y : Size} → ◌≡◌ {A = Result Size Refusal} (Ok x) (Ok y) → x ≡ y
size_same e = cc

-- the outcome, by the answer
pub outcome-refused : (s t out : List ℕ) {k : Refusal} → first_of (join_rows (level_at FIRST) s t (length out)) ≡ Err k → (Err k, out) ≡ join_outcome (level_at FIRST) s t out
unfolding join_outcome
outcome-refused s t out e =
    let bundle = joined_bundle (level_at FIRST) s t in
    let bytes = written bundle in
    ap (λ a. (size_as a (length bytes) (length bundle.groups), kept a (bytes ++ drop (length bytes) out) out)) (sym e)

pub outcome-done : (s t out : List ℕ) {end : List ℕ} {size : Size} → first_of (join_rows (level_at FIRST) s t (length out)) ≡ Done
    → size ≡ record { length = length (written (joined_bundle (level_at FIRST) s t)); groups = length (joined_bundle (level_at FIRST) s t).groups }
    → end ≡ written (joined_bundle (level_at FIRST) s t) ++ drop (length (written (joined_bundle (level_at FIRST) s t))) out → (Ok size, end) ≡ join_outcome (level_at FIRST) s t out
unfolding join_outcome
outcome-done s t out e f h =
    let bundle = joined_bundle (level_at FIRST) s t in
    let bytes = written bundle in
    ap₂ (λ (z : Size) (r : List ℕ). (Ok z, r)) f h
    ∙ ap (λ a. (size_as a (length bytes) (length bundle.groups), kept a (bytes ++ drop (length bytes) out) out)) (sym e)
