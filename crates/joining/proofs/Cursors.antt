-- Two positions in two bundles of one key, each before the groups that are left, and the three steps to the next.
use mathlib.Core.Path.{◌≡◌, refl, ap, ◌∙◌}
use mathlib.Core.List.{List, [], ◌∷◌}
use Prim.Native.Nat.{ℕ, ◌+◌, ◌-◌, ◌≤◌, ◌<◌}
use native.Mathlib.Omega.{arith}
use lib.ListN.{length, drop, length-drop}
use lib.Seq.{take_all}
use Rattle.lists.specs.Words.{part}
use Rattle.field.specs.Level.{FIRST, level_at}
use Rattle.key.specs.declared.Key.{Key}
use Rattle.key.specs.Key.{Sized}
use Rattle.layout.specs.Layout.{serial_row}
use Rattle.layout.specs.Tests.{after}
use Rattle.package.specs.Written.{joined, Group, group_fields, ValidGroup}
use Rattle.bundle.specs.Bundle.{group_at, group_end}
use Rattle.bundle.specs.Written.{Rising, ValidGroups}
use Rattle.bundle.proofs.Places.{front, none_left, some_left, end-above}
use Rattle.joining.specs.Steps.{groups_bytes}
use Rattle.joining.proofs.Union.{lower}

module _ (key : Key) (sized : Sized (level_at FIRST) key) (s : List ℕ) where
  -- the groups that are left from a position on, to the end
  pub record At (i : ℕ) (groups : List Group) : Type 0 where
    pub within : i ≤ length s
    pub bytes : drop i s ≡ groups_bytes groups
    pub valid : ValidGroups (level_at FIRST) key groups
    pub rising : Rising 0 groups

  -- the first of them
  pub record First (i : ℕ) (g : Group) (groups : List Group) : Type 0 where
    pub serial : (group_at (level_at FIRST) key s i).serial ≡ g.serial
    pub fits : i + 3 + (serial_row s i).len ≤ length s
    pub end : group_end (level_at FIRST) key s i ≡ i + length (joined (group_fields g))
    pub far : i < group_end (level_at FIRST) key s i
    pub within : group_end (level_at FIRST) key s i ≤ length s
    pub bytes : part i (group_end (level_at FIRST) key s i - i) s ≡ joined (group_fields g)
    pub valid : ValidGroup (level_at FIRST) key g
    pub above : Rising (g.serial + 1) groups
    pub next : At (group_end (level_at FIRST) key s i) groups

  pub leading : (i : ℕ) (g : Group) (groups : List Group) → At i (g ∷ groups) → First i g groups
  unfolding after
  leading i g groups a =
      let w = front key s sized i g groups a.within a.bytes a.valid.0 in
      let far = end-above key s i in
      let size : group_end (level_at FIRST) key s i - i ≡ length (joined (group_fields g)) = omega (arith, w.ends) in
      record {
        serial = ap (λ (x : Group). x.serial) w.says;
        fits = omega (arith, w.within);
        end = w.ends;
        far = omega (arith, far);
        within = w.within;
        bytes = ap (λ n. part i n s) size ∙ w.bytes;
        valid = a.valid.0;
        above = a.rising.1;
        next = record { within = w.within; bytes = w.past; valid = a.valid.1; rising = lower (g.serial + 1) 0 groups (omega arith) a.rising.1 };
      }

  -- there is one where bytes are left, and none where not
  pub some : (i : ℕ) (groups : List Group) → At i groups → i < length s → (g : Group) × (others : List Group) × (groups ≡ g ∷ others)
  some i [] a h = absurd (omega (arith, none_left key s i a.bytes))
  some i (g ∷ groups) a h = (g, groups, refl)

  pub no_more : (i : ℕ) (groups : List Group) → At i groups → length s ≤ i → groups ≡ []
  no_more i [] a h = refl
  no_more i (g ∷ groups) a h = absurd (omega (arith, some_left key s i g groups a.bytes))

  -- the bytes that are left are theirs
  pub rest : (i : ℕ) (groups : List Group) → At i groups → part i (length s - i) s ≡ groups_bytes groups
  rest i groups a = take_all (length s - i) (drop i s) (omega (arith, length-drop i s)) ∙ a.bytes

  pub at_size : (i : ℕ) (groups : List Group) → At i groups → length (groups_bytes groups) ≤ length s
  at_size i groups a = omega (arith, ap length a.bytes, length-drop i s)
