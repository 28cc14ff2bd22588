-- Counting what two lists of groups share: how many groups, and how many bytes of them, while both are passed by two cursors.
use mathlib.Core.Path.{◌≡◌, refl, sym, ap, ap₂, ◌∙◌, subst}
use mathlib.Core.Bool.{Bool, true, false, ◌||◌, false≢true}
use mathlib.Core.Logic.{◌⊎◌, inl, inr, ⊎_elim}
use mathlib.Core.List.{List, [], ◌∷◌}
use Prim.Native.Nat.{ℕ, ◌+◌, ◌-◌, ◌≤◌, ◌<◌}
use native.Mathlib.Omega.{arith}
use lib.ListN.{length, length-append}
use Rattle.lists.specs.Words.{part}
use Rattle.field.specs.Level.{FIRST, level_at}
use Rattle.key.specs.declared.Key.{Key}
use Rattle.key.specs.Key.{Sized}
use Rattle.package.specs.Written.{joined, Group, group_fields, ValidGroup}
use Rattle.package.proofs.Joined.{cut, joined-append, read_back}
use Rattle.package.proofs.Forms.{group_table, group-fits, group_laws}
use Rattle.layout.specs.Layout.{group_rows}
use Rattle.bundle.specs.Bundle.{group_at, group_end}
use Rattle.bundle.specs.Written.{groups_fields, Rising}
use Rattle.bundle.proofs.Places.{none_left}
use Rattle.joining.specs.Union.{union, same, differs, differ}
use Rattle.joining.specs.Steps.{groups_bytes, Counted}
use Rattle.joining.proofs.Equal.{same_refl, same_true, differs-same, same-group}
use Rattle.joining.proofs.Union.{union-nil, step_first, step_second, step_both, differ-nil, differ-first, differ-second, differ_both}
use Rattle.joining.proofs.Cursors.{At, First, leading, no_more}

-- the sum of what each group weighs
unfoldable pub weight : (Group → ℕ) → List Group → ℕ
weight w [] = 0
weight w (g ∷ groups) = w g + weight w groups

abbrev pub size : Group → ℕ
size g = length (joined (group_fields g))

pub weight-one : (gs : List Group) → weight (λ g. 1) gs ≡ length gs
unfolding weight
weight-one [] = refl
weight-one (g ∷ gs) = omega (arith, weight-one gs)

pub weight-size : (gs : List Group) → weight size gs ≡ length (groups_bytes gs)
unfolding weight groups_fields joined
weight-size [] = refl
weight-size (g ∷ gs) = ap (λ n. size g + n) (weight-size gs) ∙ sym (ap length (joined-append (group_fields g) (groups_fields gs)) ∙ length-append (joined (group_fields g)) (groups_bytes gs))

-- groups are no more than their bytes
pub count-le : (gs : List Group) → length gs ≤ length (groups_bytes gs)
unfolding groups_fields joined
count-le [] = omega arith
count-le (g ∷ gs) = omega (arith, count-le gs, ap length (joined-append (group_fields g) (groups_fields gs)) ∙ length-append (joined (group_fields g)) (groups_bytes gs))

-- of lists that are joined, what is left of both, and what was found in both so far
module _ (X Y : List Group) where
  pub record Weighed (w : Group → ℕ) (xs ys : List Group) (both : ℕ) : Type 0 where
    pub sum : weight w (union X Y) + weight w xs + weight w ys + both ≡ weight w X + weight w Y + weight w (union xs ys)
    pub most : both + weight w xs ≤ weight w X

  pub weighed_start : (w : Group → ℕ) → Weighed w X Y 0
  weighed_start w = record { sum = omega arith; most = omega arith }

  module _ (w : Group → ℕ) (x y : Group) (xs ys : List Group) (both : ℕ) (r : Rising (x.serial + 1) xs) (s : Rising (y.serial + 1) ys) (h : Weighed w (x ∷ xs) (y ∷ ys) both) where
    weighed_first : x.serial < y.serial → Weighed w xs (y ∷ ys) both
    unfolding weight
    weighed_first e = record { sum = omega (arith, h.sum, ap (weight w) (step_first x y xs ys r s e)); most = omega (arith, h.most) }

    weighed_second : y.serial < x.serial → Weighed w (x ∷ xs) ys both
    unfolding weight
    weighed_second e = record { sum = omega (arith, h.sum, ap (weight w) (step_second x y xs ys r s e)); most = omega (arith, h.most) }

    weighed_both : x.serial ≡ y.serial → w x ≡ w y → Weighed w xs ys (both + w x)
    unfolding weight
    weighed_both e f = record { sum = omega (arith, h.sum, f, ap (weight w) (step_both x y xs ys r s e)); most = omega (arith, h.most) }

  -- where one is passed
  weighed_end : (w : Group → ℕ) (xs ys : List Group) (both : ℕ) → Rising 0 xs → (xs ≡ []) ⊎ (ys ≡ []) → Weighed w xs ys both → (weight w (union X Y) + both ≡ weight w X + weight w Y) × (both ≤ weight w X)
  unfolding weight union
  weighed_end w xs ys both r c h =
      let end : weight w xs + weight w ys ≡ weight w (union xs ys) =
      ⊎_elim (λ e. omega (arith, ap (weight w) e, ap (λ z. weight w (union z ys)) e)) (λ e. omega (arith, ap (weight w) e, ap (λ z. weight w (union xs z)) e ∙ ap (weight w) (union-nil 0 xs r))) c in
      (omega (arith, h.sum, end), omega (arith, h.most))

-- two groups of one key that are written alike are the same
module _ (key : Key) (sized : Sized (level_at FIRST) key) where
  alike : (x y : Group) → ValidGroup (level_at FIRST) key x → ValidGroup (level_at FIRST) key y → joined (group_fields x) ≡ joined (group_fields y) → x ≡ y
  alike x y v w e =
      let l = level_at FIRST in
      let back : (g : Group) → ValidGroup l key g → cut (joined (group_fields g)) 0 (group_table key g) ≡ group_fields g = λ g v. (read_back l [] (group_table key g) (group_fields g) (group-fits key sized g v)).same in
      (group_laws key sized).single x y v w (sym (back x v) ∙ ap (λ b. cut b 0 (group_rows l key b 0)) e ∙ back y w)

  module _ (first second : List ℕ) (X Y : List Group) where
    -- what is left of both bundles, and what was found in both so far
    pub record Going (i j number bytes : ℕ) : Type 0 where
      pub xs : List Group
      pub ys : List Group
      pub one : At key sized first i xs
      pub two : At key sized second j ys
      pub agree : differ X Y ≡ differ xs ys
      pub groups : Weighed X Y (λ g. 1) xs ys number
      pub sizes : Weighed X Y size xs ys bytes

    pub going_start : {i : ℕ} → At key sized first i X → At key sized second i Y → Going i i 0 0
    going_start a b = record { xs = X; ys = Y; one = a; two = b; agree = refl; groups = weighed_start X Y (λ g. 1); sizes = weighed_start X Y size }

    -- where a group is left in both
    pub record Seen (i j number bytes : ℕ) : Type 0 where
      pub x : Group
      pub xs : List Group
      pub y : Group
      pub ys : List Group
      pub one : At key sized first i (x ∷ xs)
      pub two : At key sized second j (y ∷ ys)
      pub agree : differ X Y ≡ differ (x ∷ xs) (y ∷ ys)
      pub groups : Weighed X Y (λ g. 1) (x ∷ xs) (y ∷ ys) number
      pub sizes : Weighed X Y size (x ∷ xs) (y ∷ ys) bytes

    pub seen : {i j number bytes : ℕ} → Going i j number bytes → i < length first → j < length second → Seen i j number bytes
    seen {i} {j} {number} {bytes} g h k = see g.xs g.ys g.one g.two g.agree g.groups g.sizes
      where
        see : (xs ys : List Group) → At key sized first i xs → At key sized second j ys → differ X Y ≡ differ xs ys → Weighed X Y (λ g. 1) xs ys number → Weighed X Y size xs ys bytes → Seen i j number bytes
        see [] ys a b d m n = absurd (omega (arith, none_left key first i a.bytes))
        see (x ∷ xs) [] a b d m n = absurd (omega (arith, none_left key second j b.bytes))
        see (x ∷ xs) (y ∷ ys) a b d m n = record { x = x; xs = xs; y = y; ys = ys; one = a; two = b; agree = d; groups = m; sizes = n }

    module _ {i j number bytes : ℕ} (v : Seen i j number bytes) where
      pub here : First key sized first i v.x v.xs
      here = leading key sized first i v.x v.xs v.one

      pub there : First key sized second j v.y v.ys
      there = leading key sized second j v.y v.ys v.two

      abbrev a : ℕ
      a = (group_at (level_at FIRST) key first i).serial

      abbrev b : ℕ
      b = (group_at (level_at FIRST) key second j).serial

      pub go-first : a < b → Going (group_end (level_at FIRST) key first i) j number bytes
      go-first e =
          let less : v.x.serial < v.y.serial = omega (arith, here.serial, there.serial) in
          record {
            xs = v.xs;
            ys = v.y ∷ v.ys;
            one = here.next;
            two = v.two;
            agree = v.agree ∙ differ-first v.x v.y v.xs v.ys here.above there.above less;
            groups = weighed_first X Y (λ g. 1) v.x v.y v.xs v.ys number here.above there.above v.groups less;
            sizes = weighed_first X Y size v.x v.y v.xs v.ys bytes here.above there.above v.sizes less;
          }

      pub go-second : b < a → Going i (group_end (level_at FIRST) key second j) number bytes
      go-second e =
          let less : v.y.serial < v.x.serial = omega (arith, here.serial, there.serial) in
          record {
            xs = v.x ∷ v.xs;
            ys = v.ys;
            one = v.one;
            two = there.next;
            agree = v.agree ∙ differ-second v.x v.y v.xs v.ys here.above there.above less;
            groups = weighed_second X Y (λ g. 1) v.x v.y v.xs v.ys number here.above there.above v.groups less;
            sizes = weighed_second X Y size v.x v.y v.xs v.ys bytes here.above there.above v.sizes less;
          }

      -- the bytes of both groups
      abbrev Both : Bool
      Both = same (part i (group_end (level_at FIRST) key first i - i) first) (part j (group_end (level_at FIRST) key second j - j) second)

      both_bytes : Both ≡ same (joined (group_fields v.x)) (joined (group_fields v.y))
      both_bytes = ap₂ same here.bytes there.bytes

      module _ (e : a ≡ b) where
        one-serial : v.x.serial ≡ v.y.serial
        one-serial = sym here.serial ∙ e ∙ there.serial

        by_both : differ X Y ≡ (differs v.x v.y || differ v.xs v.ys)
        by_both = v.agree ∙ differ_both v.x v.y v.xs v.ys here.above there.above one-serial

        pub go_both : Both ≡ true → Going (group_end (level_at FIRST) key first i) (group_end (level_at FIRST) key second j) (number + 1) (bytes + (group_end (level_at FIRST) key first i - i))
        go_both d =
            let is : v.x ≡ v.y = alike v.x v.y here.valid there.valid (same_true (joined (group_fields v.x)) (joined (group_fields v.y)) (sym both_bytes ∙ d)) in
            let long : size v.x ≡ group_end (level_at FIRST) key first i - i = omega (arith, here.end) in
            record {
              xs = v.xs;
              ys = v.ys;
              one = here.next;
              two = there.next;
              agree = by_both ∙ ap (λ t. t || differ v.xs v.ys) (ap (λ g. differs v.x g) (sym is) ∙ differs-same v.x);
              groups = weighed_both X Y (λ g. 1) v.x v.y v.xs v.ys number here.above there.above v.groups one-serial refl;
              sizes = subst (λ n. Weighed X Y size v.xs v.ys (bytes + n)) long (weighed_both X Y size v.x v.y v.xs v.ys bytes here.above there.above v.sizes one-serial (ap size is));
            }

        pub found-other : Both ≡ false → differ X Y ≡ true
        found-other d = pick (differs v.x v.y) refl
          where
            pick : (t : Bool) → differs v.x v.y ≡ t → differ X Y ≡ true
            pick true p = by_both ∙ ap (λ t. t || differ v.xs v.ys) p
            pick false p =
                let is = same-group v.x v.y one-serial p in
                absurd (false≢true (sym d ∙ both_bytes ∙ ap (λ g. same (joined (group_fields v.x)) (joined (group_fields g))) (sym is) ∙ same_refl (joined (group_fields v.x))))

    -- where one bundle is passed
    going_end : {i j number bytes : ℕ} (g : Going i j number bytes) → (g.xs ≡ []) ⊎ (g.ys ≡ []) → Counted X Y number bytes
    unfolding differ
    going_end {number = number} {bytes} g c =
        let n = weighed_end X Y (λ g. 1) g.xs g.ys number g.one.rising c g.groups in
        let m = weighed_end X Y size g.xs g.ys bytes g.one.rising c g.sizes in
        record {
          agree = g.agree ∙ ⊎_elim (λ e. ap (λ z. differ z g.ys) e) (λ e. ap (λ z. differ g.xs z) e ∙ differ-nil g.xs) c;
          groups = omega (arith, n.0, weight-one (union X Y), weight-one X, weight-one Y);
          few = omega (arith, n.1, weight-one X);
          bytes = omega (arith, m.0, weight-size (union X Y), weight-size X, weight-size Y);
          short = omega (arith, m.1, weight-size X);
        }

    pub end-first : {i j number bytes : ℕ} → Going i j number bytes → length first ≤ i → Counted X Y number bytes
    end-first {i} g h = going_end g (inl (no_more key sized first i g.xs g.one h))

    pub end-second : {i j number bytes : ℕ} → Going i j number bytes → length second ≤ j → Counted X Y number bytes
    end-second {j = j} g h = going_end g (inr (no_more key sized second j g.ys g.two h))

    -- the number and the bytes are no more than the first bundle has
    pub going_most : {i j number bytes : ℕ} → Going i j number bytes → (number ≤ length X) × (bytes ≤ length (groups_bytes X))
    going_most g = (omega (arith, g.groups.most, weight-one X), omega (arith, g.sizes.most, weight-size X))
