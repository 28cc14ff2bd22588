use Prim.Native.Nat.{ℕ, ◌+◌, ◌-◌, ◌≤◌}
use mathlib.Core.Path.{◌≡◌, sym, ap, ap₂, ◌∙◌, subst}
use mathlib.Core.Bool.{Bool, true}
use mathlib.Core.List.{List}
use native.Mathlib.Omega.{arith}
use borrow.Author.Rules.{rules}
use lib.ListN.{length, take}
use lib.Seq.{length-take-le}
use Rattle.std.specs.Prelude.{Result, Ok, Err}
use Rattle.refusal.specs.declared.Refusal.{Refusal}
use Rattle.refusal.specs.declared.Refusal.TheVariants.{GroupsDiffer}
use Rattle.copying.specs.Words.{Bytes}
use Rattle.field.specs.Level.{FIRST, level_at}
use Rattle.layout.specs.Layout.{key_end}
use Rattle.bundle.specs.declared.Groups.{Groups}
use Rattle.bundle.specs.Bundle.{starts, groups_of}
use Rattle.bundle.specs.Written.{written, Accepted}
use Rattle.bundle.proofs.Faithful.{key-within}
use Rattle.joining.specs.declared.Shared.{Shared}
use Rattle.joining.specs.Union.{same, differ}
use Rattle.joining.specs.Entry.{key_bytes, joined_bundle}
use Rattle.joining.specs.Steps.{Mates, Counted, Tallied}
use Rattle.joining.proofs.Outcome.{mates, Sizes, sizes, by_key, by_groups, by_room, by_fit}
use Rattle.joining.proofs.compare.Goals as goal

-- the groups of a bundle
abbrev groups : List ℕ → Groups
groups s = record { start = key_end (level_at FIRST) s; number = length (starts (level_at FIRST) s) }

module _ (s t : List ℕ) (b : Bytes s) (d : Bytes t) (one two : Groups) (accepted : Accepted (level_at FIRST) s × Accepted (level_at FIRST) t) (is : (one ≡ groups s) × (two ≡ groups t)) where
  start-one : one.start ≡ key_end (level_at FIRST) s
  start-one = ap (λ (g : Groups). g.start) is.0

  start-two : two.start ≡ key_end (level_at FIRST) t
  start-two = ap (λ (g : Groups). g.start) is.1

  number-one : one.number ≡ length (starts (level_at FIRST) s)
  number-one = ap (λ (g : Groups). g.number) is.0

  number-two : two.number ≡ length (starts (level_at FIRST) t)
  number-two = ap (λ (g : Groups). g.number) is.1

  within-one : one.start ≡ length (take one.start s)
  within-one = sym (length-take-le one.start s (subst (λ i. i ≤ length s) (sym start-one) (key-within s b accepted.0)))

  within-two : two.start ≡ length (take two.start t)
  within-two = sym (length-take-le two.start t (subst (λ i. i ≤ length t) (sym start-two) (key-within t d accepted.1)))

  -- whether the key fields are the same
  keyed : {r : Bool} → r ≡ same (take one.start s) (take two.start t) → r ≡ same (key_bytes (level_at FIRST) s) (key_bytes (level_at FIRST) t)
  keyed e = e ∙ ap₂ (λ (p q : ℕ). same (take p s) (take q t)) start-one start-two

  module _ (alike : same (key_bytes (level_at FIRST) s) (key_bytes (level_at FIRST) t) ≡ true) where
    matched : Mates (level_at FIRST) s t (key_end (level_at FIRST) s)
    matched = mates s t b d accepted.0 accepted.1 alike

    -- the sizes that follow from what both share
    sized : {x : Shared} → Counted (groups_of (level_at FIRST) s) (groups_of (level_at FIRST) t) x.number x.length → Sizes s t b d accepted.0 accepted.1 x.number x.length
    sized w = sizes s t b d accepted.0 accepted.1 matched.from_second w

-- what the count tells
counted : (xs ys : _) {r : Result Shared Refusal} {x : Shared} → Tallied xs ys r → r ≡ Ok x → Counted xs ys x.number x.length
counted xs ys w e = subst (Tallied xs ys) e w

differing : (xs ys : _) {r : Result Shared Refusal} {k : Refusal} → Tallied xs ys r → r ≡ Err k → (differ xs ys ≡ true) × (k ≡ GroupsDiffer)
differing xs ys w e = subst (Tallied xs ys) e w

pub slice_bounds-same-end : goal.slice_bounds-same-end
slice_bounds-same-end c = within-one c.args.first.now c.args.second.now (λ i. omega (arith, c.type_inv.first i)) (λ i. omega (arith, c.type_inv.second i)) c.args.one c.args.two c.requires.accepted c.requires.one_value

pub slice_bounds-same-end-2 : goal.slice_bounds-same-end-2
slice_bounds-same-end-2 c = within-two c.args.first.now c.args.second.now (λ i. omega (arith, c.type_inv.first i)) (λ i. omega (arith, c.type_inv.second i)) c.args.one c.args.two c.requires.accepted c.requires.one_value

pub returns-then-not-same : goal.returns-then-not-same
returns-then-not-same c =
    let s = c.args.first.now in
    let t = c.args.second.now in
    by_key s t c.args.room c.requires.accepted.0 c.requires.accepted.1 (sym (keyed s t (λ i. omega (arith, c.type_inv.first i)) (λ i. omega (arith, c.type_inv.second i)) c.args.one c.args.two c.requires.accepted c.requires.one_value c.same.ensures) ∙ c.if-not-same.true)

pub count_shared-requires : goal.count_shared-requires
count_shared-requires c =
    let s = c.args.first.now in
    let t = c.args.second.now in
    let alike = sym (keyed s t (λ i. omega (arith, c.type_inv.first i)) (λ i. omega (arith, c.type_inv.second i)) c.args.one c.args.two c.requires.accepted c.requires.one_value c.same.ensures) ∙ c.if-not-same.false in
    subst (Mates (level_at FIRST) s t) (sym (ap (λ (g : Groups). g.start) c.requires.one_value.0)) (matched s t (λ i. omega (arith, c.type_inv.first i)) (λ i. omega (arith, c.type_inv.second i)) c.args.one c.args.two c.requires.accepted c.requires.one_value alike)

pub returns-in_err-both : goal.returns-in_err-both
returns-in_err-both c =
    let s = c.args.first.now in
    let t = c.args.second.now in
    let alike = sym (keyed s t (λ i. omega (arith, c.type_inv.first i)) (λ i. omega (arith, c.type_inv.second i)) c.args.one c.args.two c.requires.accepted c.requires.one_value c.same.ensures) ∙ c.if-not-same.false in
    let w = differing (groups_of (level_at FIRST) s) (groups_of (level_at FIRST) t) c.count_shared.ensures c.in_err-both.was in
    let is : c.from_residual.result ≡ Err c.in_err-both.field-0.0 = search rules in
    is ∙ (λ i. Err (w.1 i)) ∙ by_groups s t c.args.room c.requires.accepted.0 c.requires.accepted.1 alike w.0

pub overflow_sub-length : goal.overflow_sub-length
overflow_sub-length c =
    let s = c.args.first.now in
    let t = c.args.second.now in
    let alike = sym (keyed s t (λ i. omega (arith, c.type_inv.first i)) (λ i. omega (arith, c.type_inv.second i)) c.args.one c.args.two c.requires.accepted c.requires.one_value c.same.ensures) ∙ c.if-not-same.false in
    (sized s t (λ i. omega (arith, c.type_inv.first i)) (λ i. omega (arith, c.type_inv.second i)) c.args.one c.args.two c.requires.accepted c.requires.one_value alike {x = c.in_ok-both.both} (counted (groups_of (level_at FIRST) s) (groups_of (level_at FIRST) t) c.count_shared.ensures c.in_ok-both.was)).short

pub overflow_sub-length-2 : goal.overflow_sub-length-2
overflow_sub-length-2 c =
    let s = c.args.first.now in
    let t = c.args.second.now in
    let alike = sym (keyed s t (λ i. omega (arith, c.type_inv.first i)) (λ i. omega (arith, c.type_inv.second i)) c.args.one c.args.two c.requires.accepted c.requires.one_value c.same.ensures) ∙ c.if-not-same.false in
    let z = sized s t (λ i. omega (arith, c.type_inv.first i)) (λ i. omega (arith, c.type_inv.second i)) c.args.one c.args.two c.requires.accepted c.requires.one_value alike {x = c.in_ok-both.both} (counted (groups_of (level_at FIRST) s) (groups_of (level_at FIRST) t) c.count_shared.ensures c.in_ok-both.was) in
    omega (arith, ap (λ (g : Groups). g.start) c.requires.one_value.0, z.start)

pub returns-then-room-length : goal.returns-then-room-length
returns-then-room-length c =
    let s = c.args.first.now in
    let t = c.args.second.now in
    let alike = sym (keyed s t (λ i. omega (arith, c.type_inv.first i)) (λ i. omega (arith, c.type_inv.second i)) c.args.one c.args.two c.requires.accepted c.requires.one_value c.same.ensures) ∙ c.if-not-same.false in
    let w = counted (groups_of (level_at FIRST) s) (groups_of (level_at FIRST) t) c.count_shared.ensures c.in_ok-both.was in
    let z = sized s t (λ i. omega (arith, c.type_inv.first i)) (λ i. omega (arith, c.type_inv.second i)) c.args.one c.args.two c.requires.accepted c.requires.one_value alike {x = c.in_ok-both.both} w in
    by_room s t c.args.room c.requires.accepted.0 c.requires.accepted.1 alike w.agree (omega (arith, c.if-room-length.true, ap (λ (g : Groups). g.start) c.requires.one_value.0, z.bytes))

pub overflow_add-groups : goal.overflow_add-groups
overflow_add-groups c =
    let s = c.args.first.now in
    let t = c.args.second.now in
    let alike = sym (keyed s t (λ i. omega (arith, c.type_inv.first i)) (λ i. omega (arith, c.type_inv.second i)) c.args.one c.args.two c.requires.accepted c.requires.one_value c.same.ensures) ∙ c.if-not-same.false in
    let z = sized s t (λ i. omega (arith, c.type_inv.first i)) (λ i. omega (arith, c.type_inv.second i)) c.args.one c.args.two c.requires.accepted c.requires.one_value alike {x = c.in_ok-both.both} (counted (groups_of (level_at FIRST) s) (groups_of (level_at FIRST) t) c.count_shared.ensures c.in_ok-both.was) in
    omega (arith, ap (λ (g : Groups). g.number) c.requires.one_value.0, ap (λ (g : Groups). g.number) c.requires.one_value.1, z.small, z.few)

pub returns : goal.returns
returns c =
    let s = c.args.first.now in
    let t = c.args.second.now in
    let both = c.in_ok-both.both in
    let alike = sym (keyed s t (λ i. omega (arith, c.type_inv.first i)) (λ i. omega (arith, c.type_inv.second i)) c.args.one c.args.two c.requires.accepted c.requires.one_value c.same.ensures) ∙ c.if-not-same.false in
    let w = counted (groups_of (level_at FIRST) s) (groups_of (level_at FIRST) t) c.count_shared.ensures c.in_ok-both.was in
    let z = sized s t (λ i. omega (arith, c.type_inv.first i)) (λ i. omega (arith, c.type_inv.second i)) c.args.one c.args.two c.requires.accepted c.requires.one_value alike {x = both} w in
    let n = ap (λ (g : Groups). g.start) c.requires.one_value.0 in
    let size : length s - both.length + (length t - c.args.one.start) ≡ length (written (joined_bundle (level_at FIRST) s t)) = omega (arith, n, z.bytes) in
    ap (λ i. Ok (record { start = i; size = record { length = length s - both.length + (length t - c.args.one.start); groups = c.args.one.number - both.number + c.args.two.number } })) n
    ∙ by_fit s t c.args.room c.requires.accepted.0 c.requires.accepted.1 alike w.agree (omega (arith, c.if-room-length.false, size)) size (omega (arith, ap (λ (g : Groups). g.number) c.requires.one_value.0, ap (λ (g : Groups). g.number) c.requires.one_value.1, z.groups))
