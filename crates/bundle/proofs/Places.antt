-- Groups of a bundle, one after the other: what is read at a position, and what is written there.
use Rattle.refusal.specs.declared.Refusal.TheVariants.{SerialOrder}
use mathlib.Core.Path.{◌≡◌, refl, sym, ap, ap₂, ◌∙◌, subst}
use mathlib.Core.Bool.{Bool, true, false, cond}
use mathlib.Core.List.{List, [], ◌∷◌, ◌++◌, map}
use Prim.Native.Nat.{ℕ, zero, suc, ◌+◌, ◌≤◌, ◌<◌}
use native.Mathlib.Omega.{arith}
use borrow.Author.Tests.{lt-ltb, le-ltb, ltb-false}
use lib.Dec.{ltb}
use lib.ListN.{length, take, drop, length-append, length-drop, take-append-drop, drop_of_length-le}
use lib.Seq.{drop_at, take_at, length-take-le, drop-drop}
use Rattle.lists.specs.Words.{part}
use Rattle.copying.specs.Words.{Bytes}
use Rattle.refusal.proofs.Answers.{None}
use Rattle.field.specs.Level.{FIRST, level_at}
use Rattle.key.specs.declared.Key.{Key}
use Rattle.key.specs.Key.{Sized}
use Rattle.layout.specs.Layout.{serial_row, proof_rows, group_rows}
use Rattle.layout.specs.Tests.{tests, after}
use Rattle.layout.proofs.Rows.{none-append, none-join, tests-append}
use Rattle.package.specs.Written.{joined, Group, group_fields, ValidGroup}
use Rattle.package.specs.Said.{group_said}
use Rattle.package.proofs.Accepted.{after-within}
use Rattle.package.proofs.Joined.{cut, part_cut, joined-append, after-joined, read-there, exact, cut_fits}
use Rattle.package.proofs.Forms.{group_table, unpack_group, group_packed, group-valid, group-found, group-fits, group_laws}
use Rattle.bundle.specs.Bundle.{group_at, group_end, starts_from, serial_tests, group_tests, groups_tests}
use Rattle.bundle.specs.Written.{groups_fields, Rising, ValidGroups}

module _ (key : Key) (s : List ℕ) where
  -- a group has bytes
  pub end-above : (at : ℕ) → at + 9 ≤ group_end (level_at FIRST) key s at
  unfolding after
  end-above at = omega arith

  -- what it says, by its fields
  said-cut : (at : ℕ) → group_at (level_at FIRST) key s at ≡ unpack_group (cut s at (group_rows (level_at FIRST) key s at))
  said-cut at = λ i. group_said (λ tag. part_cut s tag at (group_rows (level_at FIRST) key s at) i)

  -- 20 stands between the tests of its fields
  pub group-none : (low at : ℕ) → None (group_tests (level_at FIRST) key s low at) → None (tests (level_at FIRST) s at (group_rows (level_at FIRST) key s at)) × (ltb (group_at (level_at FIRST) key s at).serial low ≡ false)
  group-none low at e =
      let l = level_at FIRST in
      let serial = serial_row s at ∷ [] in
      let p = none-append (serial_tests l key s low at) (tests l s (after at serial) (proof_rows l key)) e in
      let q = none-append (tests l s at serial) ((ltb (group_at l key s at).serial low, SerialOrder) ∷ []) p.0 in
      (subst None (sym (tests-append l s at serial (proof_rows l key))) (none-join (tests l s at serial) (tests l s (after at serial) (proof_rows l key)) q.0 p.1), q.1.0)

  none-group : (low at : ℕ) → None (tests (level_at FIRST) s at (group_rows (level_at FIRST) key s at)) → ltb (group_at (level_at FIRST) key s at).serial low ≡ false → None (group_tests (level_at FIRST) key s low at)
  none-group low at e f =
      let l = level_at FIRST in
      let serial = serial_row s at ∷ [] in
      let p = none-append (tests l s at serial) (tests l s (after at serial) (proof_rows l key)) (subst None (tests-append l s at serial (proof_rows l key)) e) in
      none-join (serial_tests l key s low at) (tests l s (after at serial) (proof_rows l key)) (none-join (tests l s at serial) ((ltb (group_at l key s at).serial low, SerialOrder) ∷ []) p.0 (f, tt)) p.1

  -- a group that is not refused: it is within the limits, and the bytes from its position on are its fields and what follows
  pub record Read (at : ℕ) : Type 0 where
    pub valid : ValidGroup (level_at FIRST) key (group_at (level_at FIRST) key s at)
    pub bytes : drop at s ≡ joined (group_fields (group_at (level_at FIRST) key s at)) ++ drop (group_end (level_at FIRST) key s at) s

  pub read-group : Bytes s → (at : ℕ) → None (tests (level_at FIRST) s at (group_rows (level_at FIRST) key s at)) → Read at
  read-group b at e =
      let l = level_at FIRST in
      let rows = group_rows l key s at in
      let w = cut_fits l s b at rows e in
      let said = sym (said-cut at) in
      record {
        valid = subst (ValidGroup l key) said (group-valid key s b at w);
        bytes = exact l s b at rows e ∙ ap (λ f. joined f ++ drop (group_end l key s at) s) (sym (group-found key s b at w) ∙ ap group_fields said);
      }

  -- a group within the limits that stands at a position before other bytes
  pub record Here (at : ℕ) (g : Group) (rest : List ℕ) : Type 0 where
    pub passes : None (tests (level_at FIRST) s at (group_rows (level_at FIRST) key s at))
    pub says : group_at (level_at FIRST) key s at ≡ g
    pub ends : group_end (level_at FIRST) key s at ≡ at + length (joined (group_fields g))
    pub past : drop (group_end (level_at FIRST) key s at) s ≡ rest
    pub within : group_end (level_at FIRST) key s at ≤ length s
    pub bytes : part at (length (joined (group_fields g))) s ≡ joined (group_fields g)

  pub here : Sized (level_at FIRST) key → (at : ℕ) (g : Group) (rest : List ℕ) → at ≤ length s → drop at s ≡ joined (group_fields g) ++ rest → ValidGroup (level_at FIRST) key g → Here at g rest
  here h at g rest low e v =
      let l = level_at FIRST in
      let fields = group_fields g in
      let pre = take at s in
      let long : length pre ≡ at = length-take-le at s low in
      let whole : pre ++ (joined fields ++ rest) ≡ s = ap (λ t. pre ++ t) (sym e) ∙ take-append-drop at s in
      let rows : group_rows l key s at ≡ group_table key g = ap₂ (λ (t : List ℕ) (i : ℕ). group_rows l key t i) (sym whole) (sym long) ∙ (group_laws key h).there pre rest tt g v in
      let fits = group-fits key h g v in
      let there = read-there l pre (group_table key g) fields rest fits in
      let none : None (tests l s at (group_rows l key s at)) = subst (λ r. None (tests l s at r)) (sym rows) (subst (λ i. None (tests l s i (group_table key g))) long (subst (λ t. None (tests l t (length pre) (group_table key g))) whole there.0)) in
      let found : cut s at (group_rows l key s at) ≡ fields = ap (cut s at) rows ∙ ap₂ (λ (t : List ℕ) (i : ℕ). cut t i (group_table key g)) (sym whole) (sym long) ∙ there.1 in
      let end : group_end l key s at ≡ at + length (joined fields) = ap (after at) rows ∙ after-joined l at (group_table key g) fields fits in
      let size = ap length e ∙ length-append (joined fields) rest in
      record {
        passes = none;
        says = said-cut at ∙ ap unpack_group found ∙ group_packed g;
        ends = end;
        past = ap (λ i. drop i s) end ∙ sym (drop-drop (length (joined fields)) at s) ∙ ap (drop (length (joined fields))) e ∙ drop_at (joined fields) rest (length (joined fields)) refl;
        within = omega (arith, size, length-drop at s);
        bytes = ap (take (length (joined fields))) e ∙ take_at (joined fields) rest (length (joined fields)) refl;
      }

  -- groups that are not refused, the first at a position: within the limits, of rising serials, and the bytes from there on are their fields
  pub record Walked (low at : ℕ) (groups : List Group) : Type 0 where
    pub valid : ValidGroups (level_at FIRST) key groups
    pub rising : Rising low groups
    pub bytes : drop at s ≡ joined (groups_fields groups)

  module _ (b : Bytes s) where
    -- the first of them, and those after it
    walked-first : (low at : ℕ) (starts : List ℕ) → at ≤ length s → None (groups_tests (level_at FIRST) key s low (at ∷ starts))
        → (group_end (level_at FIRST) key s at ≤ length s → None (groups_tests (level_at FIRST) key s ((group_at (level_at FIRST) key s at).serial + 1) starts)
        → Walked ((group_at (level_at FIRST) key s at).serial + 1) (group_end (level_at FIRST) key s at) (map (group_at (level_at FIRST) key s) starts))
        → Walked low at (map (group_at (level_at FIRST) key s) (at ∷ starts))
    unfolding groups_tests groups_fields
    walked-first low at starts m e others =
        let l = level_at FIRST in
        let g = group_at l key s at in
        let p = none-append (group_tests l key s low at) (groups_tests l key s (g.serial + 1) starts) e in
        let first = group-none low at p.0 in
        let r = read-group b at first.0 in
        let later = others (after-within l s at (group_rows l key s at) m first.0) p.1 in
        record {
          valid = (r.valid, later.valid);
          rising = (ltb-false g.serial low first.1, later.rising);
          bytes = r.bytes ∙ ap (λ t. joined (group_fields g) ++ t) later.bytes ∙ sym (joined-append (group_fields g) (groups_fields (map (group_at l key s) starts)));
        }

    pub walked : (k low at : ℕ) → length s < at + k → at ≤ length s → None (groups_tests (level_at FIRST) key s low (starts_from (level_at FIRST) key s k at))
        → Walked low at (map (group_at (level_at FIRST) key s) (starts_from (level_at FIRST) key s k at))
    unfolding starts_from groups_tests groups_fields joined
    walked zero low at h m e = absurd (omega arith)
    walked (suc k) low at h m e = pick (ltb (group_end (level_at FIRST) key s at) (length s)) refl e (λ low far within f. walked k low (group_end (level_at FIRST) key s at) far within f)
      where
        pick : (t : Bool) → ltb (group_end (level_at FIRST) key s at) (length s) ≡ t
            → let starts = cond t (starts_from (level_at FIRST) key s k (group_end (level_at FIRST) key s at)) [] in None (groups_tests (level_at FIRST) key s low (at ∷ starts))
            → ((low : ℕ) → length s < group_end (level_at FIRST) key s at + k → group_end (level_at FIRST) key s at ≤ length s
            → None (groups_tests (level_at FIRST) key s low (starts_from (level_at FIRST) key s k (group_end (level_at FIRST) key s at)))
            → Walked low (group_end (level_at FIRST) key s at) (map (group_at (level_at FIRST) key s) (starts_from (level_at FIRST) key s k (group_end (level_at FIRST) key s at))))
            → Walked low at (map (group_at (level_at FIRST) key s) (at ∷ starts))
        pick true d f later = walked-first low at (starts_from (level_at FIRST) key s k (group_end (level_at FIRST) key s at)) m f (λ within g. later ((group_at (level_at FIRST) key s at).serial + 1) (omega (arith, end-above at)) within g)
        pick false d f later = walked-first low at [] m f (λ within g. record { valid = tt; rising = tt; bytes = drop_of_length-le s {i = group_end (level_at FIRST) key s at} (ltb-false (group_end (level_at FIRST) key s at) (length s) d) })

  -- groups that stand from a position on to the end: none is refused, and they are what the bytes say there
  abbrev pub Stood : (low : ℕ) (starts : List ℕ) (groups : List Group) → Type 0
  Stood low starts groups = None (groups_tests (level_at FIRST) key s low starts) × (map (group_at (level_at FIRST) key s) starts ≡ groups)

  stood_first : {low at : ℕ} {g : Group} {rest : List ℕ} (starts : List ℕ) (groups : List Group) → Here at g rest → low ≤ g.serial → Stood (g.serial + 1) starts groups → Stood low (at ∷ starts) (g ∷ groups)
  unfolding groups_tests
  stood_first {low} {at} {g} starts groups w h later =
      let l = level_at FIRST in
      let above = ap (λ (x : Group). ltb x.serial low) w.says ∙ le-ltb g.serial low h in (
        none-join (group_tests l key s low at) _ (none-group low at w.passes above) (subst (λ (x : Group). None (groups_tests l key s (x.serial + 1) starts)) (sym w.says) later.0),
        ap₂ ◌∷◌ w.says later.1,
      )

  -- where no group, and where one more stands
  pub none_left : (i : ℕ) → drop i s ≡ joined (groups_fields []) → length s ≤ i
  unfolding joined groups_fields
  none_left i e = omega (arith, ap length e, length-drop i s)

  pub some_left : (i : ℕ) (g : Group) (groups : List Group) → drop i s ≡ joined (groups_fields (g ∷ groups)) → i < length s
  unfolding joined groups_fields
  some_left i g groups e = omega (arith, ap length e, length-drop i s)

  module _ (h : Sized (level_at FIRST) key) where
    -- the group at the front of others
    pub front : (at : ℕ) (g : Group) (groups : List Group) → at ≤ length s → drop at s ≡ joined (groups_fields (g ∷ groups)) → ValidGroup (level_at FIRST) key g → Here at g (joined (groups_fields groups))
    unfolding groups_fields
    front at g groups m e v = here h at g (joined (groups_fields groups)) m (e ∙ joined-append (group_fields g) (groups_fields groups)) v

    -- within the limits and of rising serials
    pub stand : (k low at : ℕ) (g : Group) (groups : List Group) → length s < at + k → at ≤ length s → ValidGroups (level_at FIRST) key (g ∷ groups) → Rising low (g ∷ groups) → drop at s ≡ joined (groups_fields (g ∷ groups))
        → Stood low (starts_from (level_at FIRST) key s k at) (g ∷ groups)
    unfolding starts_from groups_tests
    stand zero low at g groups far m v r e = absurd (omega arith)
    stand (suc k) low at g [] far m v r e =
        let w = front at g [] m e v.0 in
        subst (λ t. Stood low (at ∷ cond t (starts_from (level_at FIRST) key s k (group_end (level_at FIRST) key s at)) []) (g ∷ []))
        (sym (le-ltb (group_end (level_at FIRST) key s at) (length s) (none_left (group_end (level_at FIRST) key s at) w.past)))
        (stood_first [] [] w r.0 (tt, refl))
    stand (suc k) low at g (x ∷ groups) far m v r e =
        let w = front at g (x ∷ groups) m e v.0 in
        let end = group_end (level_at FIRST) key s at in
        subst (λ t. Stood low (at ∷ cond t (starts_from (level_at FIRST) key s k end) []) (g ∷ x ∷ groups))
        (sym (lt-ltb end (length s) (some_left end x groups w.past)))
        (stood_first (starts_from (level_at FIRST) key s k end) (x ∷ groups) w r.0 (stand k (g.serial + 1) end x groups (omega (arith, end-above at)) w.within v.1 r.1 w.past))
