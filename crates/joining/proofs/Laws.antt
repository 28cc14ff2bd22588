-- The laws of groups joined.
use Rattle.refusal.specs.declared.Refusal.TheVariants.{ShortOutput, GroupsDiffer}
use mathlib.Core.Path.{◌≡◌, refl, sym, ap, ap₂, ◌∙◌, subst}
use mathlib.Core.Bool.{Bool, true, false, cond, ◌||◌}
use mathlib.Core.Logic.{◌⊎◌, inl, inr, ⊎_elim}
use mathlib.Core.List.{List, [], ◌∷◌, ◌++◌}
use Prim.Native.Nat.{ℕ, zero, suc, ◌+◌, ◌≤◌}
use native.Mathlib.Omega.{arith}
use borrow.Author.Tests.{ltb-false, le-ltb}
use lib.Dec.{ltb}
use lib.ListN.{length, drop}
use Rattle.refusal.specs.Answer.{room_row}
use Rattle.refusal.proofs.Answers.{pass}
use Rattle.field.specs.Level.{FIRST, level_at}
use Rattle.package.specs.Written.{Group}
use Rattle.bundle.specs.Bundle.{key_data_of, groups_of}
use Rattle.bundle.specs.Written.{Rising, written}
use Rattle.bundle.proofs.Faithful.{bundle_faithful}
use Rattle.joining.specs.Union.{insert, union, differs, differs_from, differ}
use Rattle.joining.specs.Entry.{key_bytes, joined_bundle}
use Rattle.joining.specs.Laws.{In, UnionLaws, JoinsItself}
use Rattle.joining.proofs.Equal.{same_refl, differs-same, same-group}
use Rattle.joining.proofs.Outcome.{key_left, outcome-done}
use Rattle.joining.proofs.Union.{lower, by_order, union-rises, union-nil, step_first, step_second, step_both, differ-first, differ-second, differ_both}

-- what a group put into others makes of those that are there
insert-either : (g h : Group) (gs : List Group) → In g (insert h gs) → (g ≡ h) ⊎ In g gs
unfolding insert
insert-either g h [] i = i
insert-either g h (k ∷ gs) i = pick (ltb h.serial k.serial) (ltb k.serial h.serial) (insert-either g h gs) i
  where
    pick : (p q : Bool) → (In g (insert h gs) → (g ≡ h) ⊎ In g gs) → In g (cond p (h ∷ k ∷ gs) (cond q (k ∷ insert h gs) (k ∷ gs))) → (g ≡ h) ⊎ ((g ≡ k) ⊎ In g gs)
    pick true q later i = i
    pick false true later i = ⊎_elim (λ e. inr (inl e)) (λ j. ⊎_elim (λ e. inl e) (λ m. inr (inr m)) (later j)) i
    pick false false later i = inr i

insert_keeps : (g h : Group) (gs : List Group) → In g gs → In g (insert h gs)
unfolding insert
insert_keeps g h [] i = absurd i
insert_keeps g h (k ∷ gs) i = pick (ltb h.serial k.serial) (ltb k.serial h.serial) (insert_keeps g h gs) i
  where
    pick : (p q : Bool) → (In g gs → In g (insert h gs)) → (g ≡ k) ⊎ In g gs → In g (cond p (h ∷ k ∷ gs) (cond q (k ∷ insert h gs) (k ∷ gs)))
    pick true q later i = inr i
    pick false true later i = ⊎_elim (λ e. inl e) (λ j. inr (later j)) i
    pick false false later i = i

-- and it is there, where one with its serial is itself
insert_in : (g : Group) (gs : List Group) → ((h : Group) → In h gs → g.serial ≡ h.serial → g ≡ h) → In g (insert g gs)
unfolding insert
insert_in g [] f = inl refl
insert_in g (k ∷ gs) f = pick (ltb g.serial k.serial) (ltb k.serial g.serial) refl refl (insert_in g gs (λ h i e. f h (inr i) e))
  where
    pick : (p q : Bool) → ltb g.serial k.serial ≡ p → ltb k.serial g.serial ≡ q → In g (insert g gs) → In g (cond p (g ∷ k ∷ gs) (cond q (k ∷ insert g gs) (k ∷ gs)))
    pick true q a b later = inl refl
    pick false true a b later = inr later
    pick false false a b later = inl (f k (inl refl) (omega (arith, ltb-false g.serial k.serial a, ltb-false k.serial g.serial b)))

either : (g : Group) (xs ys : List Group) → In g (union xs ys) → In g xs ⊎ In g ys
unfolding union
either g [] ys i = inr i
either g (x ∷ xs) ys i = ⊎_elim (λ e. inl (inl e)) (λ j. ⊎_elim (λ m. inl (inr m)) (λ m. inr m) (either g xs ys j)) (insert-either g x (union xs ys) i)

second : (g : Group) (xs ys : List Group) → In g ys → In g (union xs ys)
unfolding union
second g [] ys i = i
second g (x ∷ xs) ys i = insert_keeps g x (union xs ys) (second g xs ys i)

-- rising serials are no less than the bound
above : (low : ℕ) (h : Group) (gs : List Group) → Rising low gs → In h gs → low ≤ h.serial
above low h [] r i = absurd i
above low h (g ∷ gs) r i = ⊎_elim (λ e. subst (λ (z : Group). low ≤ z.serial) (sym e) r.0) (λ j. omega (arith, r.0, above (g.serial + 1) h gs r.1 j)) i

-- one of two that are not true
left_false : (p q : Bool) → (p || q) ≡ false → p ≡ false
left_false true q e = e
left_false false q e = refl

right_false : (p q : Bool) → (p || q) ≡ false → q ≡ false
right_false true true e = e
right_false true false e = refl
right_false false q e = e

differs_none : (x h : Group) (ys : List Group) → differs_from x ys ≡ false → In h ys → differs x h ≡ false
unfolding differs_from
differs_none x h [] e i = absurd i
differs_none x h (y ∷ ys) e i = ⊎_elim (λ is. ap (λ z. differs x z) is ∙ left_false (differs x y) (differs_from x ys) e) (λ j. differs_none x h ys (right_false (differs x y) (differs_from x ys) e) j) i

first : (g : Group) (xs ys : List Group) → Rising 0 xs → Rising 0 ys → differ xs ys ≡ false → In g xs → In g (union xs ys)
unfolding union differ
first g [] ys r s e i = absurd i
first g (x ∷ xs) ys r s e i = ⊎_elim (λ is. subst (λ z. In z (insert x (union xs ys))) (sym is) own) (λ j. insert_keeps g x (union xs ys) (first g xs ys (lower (x.serial + 1) 0 xs (omega arith) r.1) s (right_false (differs_from x ys) (differ xs ys) e) j)) i
  where
    -- one with its serial in the second list is itself, and in the first there is none
    itself : (h : Group) → In h (union xs ys) → x.serial ≡ h.serial → x ≡ h
    itself h j same =
        ⊎_elim (λ m. absurd (omega (arith, above (x.serial + 1) h xs r.1 m, same)))
        (λ m. same-group x h same (differs_none x h ys (left_false (differs_from x ys) (differ xs ys) e) m))
        (either h xs ys j)

    own : In x (insert x (union xs ys))
    own = insert_in x (union xs ys) itself

union-itself : (low : ℕ) (xs : List Group) → Rising low xs → union xs xs ≡ xs
unfolding union
union-itself low [] r = refl
union-itself low (x ∷ xs) r = step_both x x xs xs r.1 r.1 refl ∙ ap (λ z. x ∷ z) (union-itself (x.serial + 1) xs r.1)

-- either order, of lists of so many groups at most
union-order : (k : ℕ) (xs ys : List Group) → length xs + length ys ≤ k → Rising 0 xs → Rising 0 ys → differ xs ys ≡ false → union xs ys ≡ union ys xs
unfolding union
union-order k [] ys h r s e = sym (union-nil 0 ys s)
union-order k (x ∷ xs) [] h r s e = union-nil 0 (x ∷ xs) r
union-order zero (x ∷ xs) (y ∷ ys) h r s e = absurd (omega arith)
union-order (suc k) (x ∷ xs) (y ∷ ys) h r s e =
    let r' = lower (x.serial + 1) 0 xs (omega arith) r.1 in
    let s' = lower (y.serial + 1) 0 ys (omega arith) s.1 in
    by_order x.serial y.serial
    (λ l. step_first x y xs ys r.1 s.1 l ∙ ap (λ z. x ∷ z) (union-order k xs (y ∷ ys) (omega (arith, h)) r' s (sym (differ-first x y xs ys r.1 s.1 l) ∙ e)) ∙ sym (step_second y x ys xs s.1 r.1 l))
    (λ l. step_second x y xs ys r.1 s.1 l ∙ ap (λ z. y ∷ z) (union-order k (x ∷ xs) ys (omega (arith, h)) r s' (sym (differ-second x y xs ys r.1 s.1 l) ∙ e)) ∙ sym (step_first y x ys xs s.1 r.1 l))
    (λ l. let d = sym (differ_both x y xs ys r.1 s.1 l) ∙ e in
    step_both x y xs ys r.1 s.1 l ∙ ap₂ ◌∷◌ (sym (same-group x y l (left_false (differs x y) (differ xs ys) d))) (union-order k xs ys (omega (arith, h)) r' s' (right_false (differs x y) (differ xs ys) d)) ∙ sym (step_both y x ys xs s.1 r.1 (sym l)))

pub union-laws : UnionLaws
union-laws = record {
  rises = union-rises;
  either = either;
  second = second;
  first = first;
  itself = union-itself 0;
  order = λ xs ys r s e. union-order (length xs + length ys) xs ys (omega arith) r s e;
}

-- no group differs from itself
differ-itself : (low : ℕ) (xs : List Group) → Rising low xs → differ xs xs ≡ false
unfolding differ
differ-itself low [] r = refl
differ-itself low (x ∷ xs) r = differ_both x x xs xs r.1 r.1 refl ∙ ap₂ ◌||◌ (differs-same x) (differ-itself (x.serial + 1) xs r.1)

pub joins_itself : JoinsItself (level_at FIRST)
joins_itself s b e out room =
    let l = level_at FIRST in
    let w = bundle_faithful.accepted s b e in
    let gs = groups_of l s in
    let is : union gs gs ≡ gs = union-itself 0 gs w.0.rising in
    let bytes : written (joined_bundle l s s) ≡ s = ap (λ (u : List Group). written (record { key = key_data_of l s; groups = u })) is ∙ sym w.1 in
    let fits : length (written (joined_bundle l s s)) ≤ length out = subst (λ r. length r ≤ length out) (sym bytes) room in
    let done = key_left s s (length out) e e (same_refl (key_bytes l s)) ∙ pass GroupsDiffer (room_row (length (written (joined_bundle l s s))) (length out)) (differ-itself 0 gs w.0.rising) ∙ pass ShortOutput [] (le-ltb (length out) (length (written (joined_bundle l s s))) fits) in
    sym (outcome-done s s out done (λ i. record { length = length (sym bytes i); groups = length (sym is i) }) (λ i. sym bytes i ++ drop (length (sym bytes i)) out))
