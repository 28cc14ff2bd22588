-- Groups put one after the other, while two bundles are passed by two cursors.
use mathlib.Core.Path.{◌≡◌, refl, sym, ap, ap₂, ◌∙◌}
use mathlib.Core.List.{List, [], ◌∷◌, ◌++◌, append_assoc, append-nil}
use Prim.Native.Nat.{ℕ, ◌+◌, ◌-◌, ◌≤◌, ◌<◌}
use native.Mathlib.Nat.{add-zero}
use native.Mathlib.Omega.{arith}
use lib.ListN.{length, take, drop, length-append, length-drop, take-append-drop}
use Rattle.lists.specs.Words.{part, put}
use Rattle.lists.proofs.Words.{put-length}
use Rattle.copying.proofs.Filled.{Stands, stands-next}
use Rattle.field.specs.Level.{FIRST, level_at}
use Rattle.key.specs.declared.Key.{Key}
use Rattle.key.specs.Key.{Sized}
use Rattle.package.specs.Written.{joined, Group, group_fields}
use Rattle.package.proofs.Joined.{joined-append}
use Rattle.bundle.specs.Bundle.{group_at, group_end}
use Rattle.bundle.specs.Written.{groups_fields}
use Rattle.bundle.proofs.Places.{none_left}
use Rattle.joining.specs.Union.{union}
use Rattle.joining.specs.Steps.{groups_bytes}
use Rattle.joining.proofs.Union.{by_order, union-nil, step_first, step_second, step_both}
use Rattle.joining.proofs.Cursors.{At, First, leading, no_more, rest}

-- the bytes of a group and of those after it
more : (g : Group) (gs : List Group) → groups_bytes (g ∷ gs) ≡ joined (group_fields g) ++ groups_bytes gs
unfolding groups_fields
more g gs = joined-append (group_fields g) (groups_fields gs)

module _ (key : Key) (sized : Sized (level_at FIRST) key) (first second : List ℕ) (X Y : List Group) (out₀ : List ℕ) (start : ℕ) (fits : start + length (groups_bytes (union X Y)) ≤ length out₀) where
  -- what is left of both bundles, and what stands in the output so far
  pub record Putting (i j at : ℕ) (out : List ℕ) : Type 0 where
    pub xs : List Group
    pub ys : List Group
    pub one : At key sized first i xs
    pub two : At key sized second j ys
    pub done : List ℕ
    pub stands : Stands out₀ start done out at
    pub left : done ++ groups_bytes (union xs ys) ≡ groups_bytes (union X Y)

  nothing : out₀ ≡ put start [] out₀
  nothing = sym (ap₂ ◌++◌ (append-nil (take start out₀)) (ap (λ k. drop k out₀) (add-zero start)) ∙ take-append-drop start out₀)

  pub putting_start : At key sized first start X → At key sized second start Y → Putting start start start out₀
  putting_start a b = record { xs = X; ys = Y; one = a; two = b; done = []; stands = record { is = nothing; end = sym (add-zero start) }; left = refl }

  -- bytes of which so many are done: others after them, and the room for these
  module _ {done : List ℕ} {at : ℕ} {out : List ℕ} (w : Stands out₀ start done out at) (b rest : List ℕ) (e : done ++ (b ++ rest) ≡ groups_bytes (union X Y)) where
    sum : length done + length b + length rest ≡ length (groups_bytes (union X Y))
    sum = omega (arith, ap length e, length-append done (b ++ rest), length-append b rest)

    long : length out ≡ length out₀
    long = ap length w.is ∙ put-length start done out₀ (omega (arith, sum))

    room : at + length b ≤ length out
    room = omega (arith, w.end, sum, long)

    stood : {t : List ℕ} {k : ℕ} → t ≡ put at b out → k ≡ at + length b → Stands out₀ start (done ++ b) t k
    stood f g = stands-next b w (omega (arith, w.end, sum)) f g

    left_on : (done ++ b) ++ rest ≡ groups_bytes (union X Y)
    left_on = append_assoc done b rest ∙ e

  -- where a group is left in both
  pub record Seen (i j at : ℕ) (out : List ℕ) : Type 0 where
    pub x : Group
    pub xs : List Group
    pub y : Group
    pub ys : List Group
    pub one : At key sized first i (x ∷ xs)
    pub two : At key sized second j (y ∷ ys)
    pub done : List ℕ
    pub stands : Stands out₀ start done out at
    pub left : done ++ groups_bytes (union (x ∷ xs) (y ∷ ys)) ≡ groups_bytes (union X Y)

  pub seen : {i j at : ℕ} {out : List ℕ} → Putting i j at out → i < length first → j < length second → Seen i j at out
  seen {i} {j} {at} {out} g h k = see g.xs g.ys g.one g.two g.left
    where
      see : (xs ys : List Group) → At key sized first i xs → At key sized second j ys → g.done ++ groups_bytes (union xs ys) ≡ groups_bytes (union X Y) → Seen i j at out
      see [] ys a b e = absurd (omega (arith, none_left key first i a.bytes))
      see (x ∷ xs) [] a b e = absurd (omega (arith, none_left key second j b.bytes))
      see (x ∷ xs) (y ∷ ys) a b e = record { x = x; xs = xs; y = y; ys = ys; one = a; two = b; done = g.done; stands = g.stands; left = e }

  module _ {i j at : ℕ} {out : List ℕ} (v : Seen i j at out) where
    pub here : First key sized first i v.x v.xs
    here = leading key sized first i v.x v.xs v.one

    pub there : First key sized second j v.y v.ys
    there = leading key sized second j v.y v.ys v.two

    abbrev a : ℕ
    a = (group_at (level_at FIRST) key first i).serial

    abbrev b : ℕ
    b = (group_at (level_at FIRST) key second j).serial

    abbrev p : ℕ
    p = group_end (level_at FIRST) key first i

    abbrev q : ℕ
    q = group_end (level_at FIRST) key second j

    -- the group that comes next, and those that are left then
    split : (g : Group) (gs : List Group) → union (v.x ∷ v.xs) (v.y ∷ v.ys) ≡ g ∷ gs → v.done ++ (joined (group_fields g) ++ groups_bytes gs) ≡ groups_bytes (union X Y)
    split g gs e = ap (λ t. v.done ++ t) (sym (more g gs) ∙ ap groups_bytes (sym e)) ∙ v.left

    by_first : a < b → union (v.x ∷ v.xs) (v.y ∷ v.ys) ≡ v.x ∷ union v.xs (v.y ∷ v.ys)
    by_first e = step_first v.x v.y v.xs v.ys here.above there.above (omega (arith, here.serial, there.serial, e))

    by_second : b < a → union (v.x ∷ v.xs) (v.y ∷ v.ys) ≡ v.y ∷ union (v.x ∷ v.xs) v.ys
    by_second e = step_second v.x v.y v.xs v.ys here.above there.above (omega (arith, here.serial, there.serial, e))

    by_both : a ≡ b → union (v.x ∷ v.xs) (v.y ∷ v.ys) ≡ v.y ∷ union v.xs v.ys
    by_both e = step_both v.x v.y v.xs v.ys here.above there.above (omega (arith, here.serial, there.serial, e))

    first-size : length (joined (group_fields v.x)) ≡ p - i
    first-size = omega (arith, here.end)

    second-size : length (joined (group_fields v.y)) ≡ q - j
    second-size = omega (arith, there.end)

    pub room-first : a < b → at + (p - i) ≤ length out
    room-first e = omega (arith, first-size, room v.stands (joined (group_fields v.x)) (groups_bytes (union v.xs (v.y ∷ v.ys))) (split v.x (union v.xs (v.y ∷ v.ys)) (by_first e)))

    pub room-second : b ≤ a → at + (q - j) ≤ length out
    room-second e =
        let long : (gs : List Group) → union (v.x ∷ v.xs) (v.y ∷ v.ys) ≡ v.y ∷ gs → at + (q - j) ≤ length out = λ gs f. omega (arith, second-size, room v.stands (joined (group_fields v.y)) (groups_bytes gs) (split v.y gs f)) in
        by_order a b (λ f. absurd (omega (arith, e, f))) (λ f. long (union (v.x ∷ v.xs) v.ys) (by_second f)) (λ f. long (union v.xs v.ys) (by_both f))

    module _ {t : List ℕ} {k : ℕ} where
      pub put_first : a < b → t ≡ put at (part i (p - i) first) out → k ≡ at + (p - i) → Putting p j k t
      put_first e f g =
          let gs = union v.xs (v.y ∷ v.ys) in
          let bytes = joined (group_fields v.x) in
          let is = split v.x gs (by_first e) in
          record {
            xs = v.xs;
            ys = v.y ∷ v.ys;
            one = here.next;
            two = v.two;
            done = v.done ++ bytes;
            stands = stood v.stands bytes (groups_bytes gs) is (f ∙ ap (λ c. put at c out) here.bytes) (g ∙ ap (λ n. at + n) (sym first-size));
            left = left_on v.stands bytes (groups_bytes gs) is;
          }

      -- the group of the second bundle, alone or with an equal one of the first
      put_other : (n : ℕ) (xs : List Group) → At key sized first n xs → union (v.x ∷ v.xs) (v.y ∷ v.ys) ≡ v.y ∷ union xs v.ys → t ≡ put at (part j (q - j) second) out → k ≡ at + (q - j) → Putting n q k t
      put_other n xs one e f g =
          let gs = union xs v.ys in
          let bytes = joined (group_fields v.y) in
          let is = split v.y gs e in
          record {
            xs = xs;
            ys = v.ys;
            one = one;
            two = there.next;
            done = v.done ++ bytes;
            stands = stood v.stands bytes (groups_bytes gs) is (f ∙ ap (λ c. put at c out) there.bytes) (g ∙ ap (λ n. at + n) (sym second-size));
            left = left_on v.stands bytes (groups_bytes gs) is;
          }

      pub put_second : b < a → t ≡ put at (part j (q - j) second) out → k ≡ at + (q - j) → Putting i q k t
      put_second e = put_other i (v.x ∷ v.xs) v.one (by_second e)

      pub put_both : a ≡ b → t ≡ put at (part j (q - j) second) out → k ≡ at + (q - j) → Putting p q k t
      put_both e = put_other p v.xs here.next (by_both e)

  -- where one bundle is passed, what is left of the other is put
  module _ {i j at : ℕ} {out : List ℕ} (g : Putting i j at out) where
    module _ (gs : List Group) (e : union g.xs g.ys ≡ gs) where
      all_left : g.done ++ (groups_bytes gs ++ []) ≡ groups_bytes (union X Y)
      all_left = ap (λ t. g.done ++ t) (append-nil (groups_bytes gs) ∙ ap groups_bytes (sym e)) ∙ g.left

      room-last : at + length (groups_bytes gs) ≤ length out
      room-last = room g.stands (groups_bytes gs) [] all_left

      put_last : {t : List ℕ} → t ≡ put at (groups_bytes gs) out → t ≡ put start (groups_bytes (union X Y)) out₀
      put_last f = (stood g.stands (groups_bytes gs) [] all_left f refl).is ∙ ap (λ b. put start b out₀) (sym (append-nil (g.done ++ groups_bytes gs)) ∙ left_on g.stands (groups_bytes gs) [] all_left)

    second-left : length first ≤ i → union g.xs g.ys ≡ g.ys
    unfolding union
    second-left h = ap (λ z. union z g.ys) (no_more key sized first i g.xs g.one h)

    first-left : length second ≤ j → union g.xs g.ys ≡ g.xs
    first-left h = ap (λ z. union g.xs z) (no_more key sized second j g.ys g.two h) ∙ union-nil 0 g.xs g.one.rising

    pub room-rest-second : length first ≤ i → at + (length second - j) ≤ length out
    room-rest-second h = omega (arith, room-last g.ys (second-left h), ap length g.two.bytes, length-drop j second)

    pub room-rest-first : length second ≤ j → at + (length first - i) ≤ length out
    room-rest-first h = omega (arith, room-last g.xs (first-left h), ap length g.one.bytes, length-drop i first)

    pub put-rest-second : {t : List ℕ} → length first ≤ i → t ≡ put at (part j (length second - j) second) out → t ≡ put start (groups_bytes (union X Y)) out₀
    put-rest-second h f = put_last g.ys (second-left h) (f ∙ ap (λ c. put at c out) (rest key sized second j g.ys g.two))

    pub put-rest-first : {t : List ℕ} → length second ≤ j → t ≡ put at (part i (length first - i) first) out → t ≡ put start (groups_bytes (union X Y)) out₀
    put-rest-first h f = put_last g.xs (first-left h) (f ∙ ap (λ c. put at c out) (rest key sized first i g.xs g.one))

    -- the output keeps its length
    pub same_length : length out ≡ length out₀
    same_length = long g.stands (groups_bytes (union g.xs g.ys)) [] (all_left (union g.xs g.ys) refl)
