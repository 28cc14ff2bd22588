use Prim.Native.Nat.{ℕ, ◌+◌, ◌-◌, ◌≤◌, ◌<◌}
use mathlib.Core.Path.{◌≡◌, refl, sym, ap₂, ◌∙◌, subst}
use native.Mathlib.Omega.{arith}
use lib.ListN as list
use Rattle.field.specs.Level.{FIRST, level_at}
use Rattle.key.specs.Key.{Sized}
use Rattle.bundle.specs.Bundle.{group_at, group_end, groups_of}
use Rattle.lists.specs.Words.{part}
use Rattle.joining.specs.Union.{same}
use Rattle.joining.specs.Steps.{groups_bytes}
use Rattle.joining.proofs.Mates.{begun}
use Rattle.joining.proofs.Cursors.{First, at_size}
use Rattle.joining.proofs.Count.{Going, going_start, Seen, seen, here, there, go-first, go-second, go_both, found-other, end-first, end-second, going_most, count-le}
use borrow.Author.Rules.{rules}
use Rattle.joining.proofs.count_shared.Statement.{statement}
use Rattle.joining.proofs.count_shared.Tie as tie

abbrev invariant-loop-i : tie.invariant-loop-i
invariant-loop-i first second start key i₀ j₀ number₀ length₀ i j number length = (h : Sized (level_at FIRST) key) × Going key h first second (groups_of (level_at FIRST) first) (groups_of (level_at FIRST) second) i j number length × (list.length (groups_bytes (groups_of (level_at FIRST) first)) ≤ list.length first)

abbrev decreases-loop-i : tie.decreases-loop-i
decreases-loop-i first second start key i₀ j₀ number₀ length₀ i j number length = (list.length first - i) + (list.length second - j)

key_at-key-requires : tie.Need-key_at-key-requires invariant-loop-i decreases-loop-i
key_at-key-requires c κs = search rules

-- a group is left in both bundles
view : (e : tie.Else-second-j invariant-loop-i decreases-loop-i) →
    let a = e.args in
    Seen e.key_at-key.result e.loop-i.invariant.0 a.first.now a.second.now (groups_of (level_at FIRST) a.first.now) (groups_of (level_at FIRST) a.second.now) e.loop-i.i e.loop-i.j e.loop-i.number e.loop-i.length
view e =
    let a = e.args in
    seen e.key_at-key.result e.loop-i.invariant.0 a.first.now a.second.now (groups_of (level_at FIRST) a.first.now) (groups_of (level_at FIRST) a.second.now) e.loop-i.invariant.1 e.if-first-i.false e.if-second-j.false

-- the group at each cursor
left : (e : tie.Else-second-j invariant-loop-i decreases-loop-i) → let a = e.args in First e.key_at-key.result e.loop-i.invariant.0 a.first.now e.loop-i.i (view e).x (view e).xs
left e = let a = e.args in here e.key_at-key.result e.loop-i.invariant.0 a.first.now a.second.now (groups_of (level_at FIRST) a.first.now) (groups_of (level_at FIRST) a.second.now) (view e)

right : (e : tie.Else-second-j invariant-loop-i decreases-loop-i) → let a = e.args in First e.key_at-key.result e.loop-i.invariant.0 a.second.now e.loop-i.j (view e).y (view e).ys
right e = let a = e.args in there e.key_at-key.result e.loop-i.invariant.0 a.first.now a.second.now (groups_of (level_at FIRST) a.first.now) (groups_of (level_at FIRST) a.second.now) (view e)

loop-i-init : tie.Need-loop-i-init invariant-loop-i decreases-loop-i
loop-i-init c =
    let a = c.args in
    let w = begun a.first.now a.second.now a.start (λ i. omega (arith, c.shared_slice_known-1.given i)) (λ i. omega (arith, c.shared_slice_known-2-1.given i)) c.requires c.key_at-key.ensures in
    (w.sized, going_start c.key_at-key.result w.sized a.first.now a.second.now (groups_of (level_at FIRST) a.first.now) (groups_of (level_at FIRST) a.second.now) w.one w.two, at_size c.key_at-key.result w.sized a.first.now a.start (groups_of (level_at FIRST) a.first.now) w.one)

returns-then-first-i : tie.Need-returns-then-first-i invariant-loop-i decreases-loop-i
returns-then-first-i c =
    let a = c.args in
    end-first c.key_at-key.result c.loop-i.invariant.0 a.first.now a.second.now (groups_of (level_at FIRST) a.first.now) (groups_of (level_at FIRST) a.second.now) c.loop-i.invariant.1 c.if-first-i.true

returns-then-second-j : tie.Need-returns-then-second-j invariant-loop-i decreases-loop-i
returns-then-second-j c =
    let a = c.args in
    end-second c.key_at-key.result c.loop-i.invariant.0 a.first.now a.second.now (groups_of (level_at FIRST) a.first.now) (groups_of (level_at FIRST) a.second.now) c.loop-i.invariant.1 c.if-second-j.true

serial_at-a-requires : tie.Need-serial_at-a-requires invariant-loop-i decreases-loop-i
serial_at-a-requires c κs = (left c).fits

serial_at-b-requires : tie.Need-serial_at-b-requires invariant-loop-i decreases-loop-i
serial_at-b-requires c κs = (right c.before).fits

-- the serials at the cursors
serials : (k : tie.After-serial_at-b invariant-loop-i decreases-loop-i) → let a = k.args in let key = k.key_at-key.result in
    (k.serial_at-a.result ≡ (group_at (level_at FIRST) key a.first.now k.loop-i.i).serial) × (k.serial_at-b.result ≡ (group_at (level_at FIRST) key a.second.now k.loop-i.j).serial)
serials k = (k.serial_at-a.ensures k.key_at-key.result, k.serial_at-b.ensures k.key_at-key.result)

group_end-i-requires : tie.Need-group_end-i-requires invariant-loop-i decreases-loop-i
group_end-i-requires c κs = (c.loop-i.invariant.0, (left c.before.before.before).within)

loop-i-smaller-then-a-b : tie.Need-loop-i-smaller-then-a-b invariant-loop-i decreases-loop-i
loop-i-smaller-then-a-b c = let w = left c.before.before.before.before in omega (arith, c.group_end-i.ensures, w.far, w.within)

loop-i-preserved-then-a-b : tie.Need-loop-i-preserved-then-a-b invariant-loop-i decreases-loop-i
loop-i-preserved-then-a-b c =
    let a = c.args in
    let key = c.key_at-key.result in
    let s = serials c.before.before in (
      c.loop-i.invariant.0,
      subst (λ p. Going key c.loop-i.invariant.0 a.first.now a.second.now (groups_of (level_at FIRST) a.first.now) (groups_of (level_at FIRST) a.second.now) p c.loop-i.j c.loop-i.number c.loop-i.length) (sym c.group_end-i.ensures)
          (go-first key c.loop-i.invariant.0 a.first.now a.second.now (groups_of (level_at FIRST) a.first.now) (groups_of (level_at FIRST) a.second.now) (view c.before.before.before.before) (omega (arith, s, c.if-a-b.true))),
      c.loop-i.invariant.2,
    )

group_end-j-requires : tie.Need-group_end-j-requires invariant-loop-i decreases-loop-i
group_end-j-requires c κs = (c.loop-i.invariant.0, (right c.before.before.before.before).within)

loop-i-smaller-then-b-a : tie.Need-loop-i-smaller-then-b-a invariant-loop-i decreases-loop-i
loop-i-smaller-then-b-a c = let w = right c.before.before.before.before.before in omega (arith, c.group_end-j.ensures, w.far, w.within)

loop-i-preserved-then-b-a : tie.Need-loop-i-preserved-then-b-a invariant-loop-i decreases-loop-i
loop-i-preserved-then-b-a c =
    let a = c.args in
    let key = c.key_at-key.result in
    let s = serials c.before.before.before in (
      c.loop-i.invariant.0,
      subst (λ q. Going key c.loop-i.invariant.0 a.first.now a.second.now (groups_of (level_at FIRST) a.first.now) (groups_of (level_at FIRST) a.second.now) c.loop-i.i q c.loop-i.number c.loop-i.length) (sym c.group_end-j.ensures)
          (go-second key c.loop-i.invariant.0 a.first.now a.second.now (groups_of (level_at FIRST) a.first.now) (groups_of (level_at FIRST) a.second.now) (view c.before.before.before.before.before) (omega (arith, s, c.if-b-a.true))),
      c.loop-i.invariant.2,
    )

group_end-p-requires : tie.Need-group_end-p-requires invariant-loop-i decreases-loop-i
group_end-p-requires c κs = (c.loop-i.invariant.0, (left c.before.before.before.before).within)

group_end-q-requires : tie.Need-group_end-q-requires invariant-loop-i decreases-loop-i
group_end-q-requires c κs = (c.loop-i.invariant.0, (right c.before.before.before.before.before).within)

-- where both groups end
ends : (c : tie.After-group_end-q invariant-loop-i decreases-loop-i) →
    let a = c.args in
    (c.loop-i.i < c.group_end-p.result) × (c.group_end-p.result ≤ list.length a.first.now) × (c.loop-i.j < c.group_end-q.result) × (c.group_end-q.result ≤ list.length a.second.now)
ends c =
    let p = c.group_end-p.ensures in
    let q = c.group_end-q.ensures in
    (omega (arith, p, (left c.before.before.before.before.before.before).far), omega (arith, p, (left c.before.before.before.before.before.before).within), omega (arith, q, (right c.before.before.before.before.before.before).far), omega (arith, q, (right c.before.before.before.before.before.before).within))

slice_bounds-same-count : tie.Need-slice_bounds-same-count invariant-loop-i decreases-loop-i
slice_bounds-same-count c = omega (arith, ends c)

slice_bounds-same-start : tie.Need-slice_bounds-same-start invariant-loop-i decreases-loop-i
slice_bounds-same-start c = omega (arith, ends c)

slice_bounds-same-end : tie.Need-slice_bounds-same-end invariant-loop-i decreases-loop-i
slice_bounds-same-end c = omega (arith, ends c)

slice_bounds-same-count-else-b-a : tie.Need-slice_bounds-same-count-else-b-a invariant-loop-i decreases-loop-i
slice_bounds-same-count-else-b-a c = omega (arith, ends c.before)

slice_bounds-same-start-else-b-a : tie.Need-slice_bounds-same-start-else-b-a invariant-loop-i decreases-loop-i
slice_bounds-same-start-else-b-a c = omega (arith, ends c.before)

slice_bounds-same-end-else-b-a : tie.Need-slice_bounds-same-end-else-b-a invariant-loop-i decreases-loop-i
slice_bounds-same-end-else-b-a c = omega (arith, ends c.before)

same-requires : tie.Need-same-requires invariant-loop-i decreases-loop-i
same-requires c κs = search rules

-- they have one serial
equal : (c : tie.After-group_end-q invariant-loop-i decreases-loop-i) →
    let a = c.args in
    let key = c.key_at-key.result in
    (group_at (level_at FIRST) key a.first.now c.loop-i.i).serial ≡ (group_at (level_at FIRST) key a.second.now c.loop-i.j).serial
equal c = omega (arith, serials c.before.before.before.before, c.if-a-b.false, c.if-b-a.false)

-- whether they are the same
compared : (c : tie.After-same invariant-loop-i decreases-loop-i) →
    let a = c.args in
    let key = c.key_at-key.result in
    c.same.result ≡ same (part c.loop-i.i (group_end (level_at FIRST) key a.first.now c.loop-i.i - c.loop-i.i) a.first.now) (part c.loop-i.j (group_end (level_at FIRST) key a.second.now c.loop-i.j - c.loop-i.j) a.second.now)
compared c =
    let a = c.args in
    c.same.ensures ∙ ap₂ (λ (p q : ℕ). same (part c.loop-i.i (p - c.loop-i.i) a.first.now) (part c.loop-i.j (q - c.loop-i.j) a.second.now)) c.group_end-p.ensures c.group_end-q.ensures

returns-then-not-same : tie.Need-returns-then-not-same invariant-loop-i decreases-loop-i
returns-then-not-same c =
    let a = c.args in
    (found-other c.key_at-key.result c.loop-i.invariant.0 a.first.now a.second.now (groups_of (level_at FIRST) a.first.now) (groups_of (level_at FIRST) a.second.now) (view c.before.before.before.before.before.before.before.before.before.before) (equal c.before.before.before.before) (sym (compared c.before) ∙ c.if-not-same.true), refl)

-- the number and the bytes so far are no more than the first bundle has
few : (c : tie.Else-not-same invariant-loop-i decreases-loop-i) →
    let a = c.args in
    (c.loop-i.number ≤ list.length a.first.now) × (c.loop-i.length ≤ list.length a.first.now)
few c =
    let a = c.args in
    let X = groups_of (level_at FIRST) a.first.now in
    let m = going_most c.key_at-key.result c.loop-i.invariant.0 a.first.now a.second.now X (groups_of (level_at FIRST) a.second.now) c.loop-i.invariant.1 in
    (omega (arith, m, count-le X, c.loop-i.invariant.2), omega (arith, m, c.loop-i.invariant.2))

overflow_add-number : tie.Need-overflow_add-number invariant-loop-i decreases-loop-i
overflow_add-number c = omega (arith, few c)

overflow_sub-length : tie.Need-overflow_sub-length invariant-loop-i decreases-loop-i
overflow_sub-length c = omega (arith, ends c.before.before.before.before)

overflow_add-length : tie.Need-overflow_add-length invariant-loop-i decreases-loop-i
overflow_add-length c = omega (arith, few c, ends c.before.before.before.before)

loop-i-smaller : tie.Need-loop-i-smaller invariant-loop-i decreases-loop-i
loop-i-smaller c = omega (arith, ends c.before.before.before.before)

loop-i-preserved : tie.Need-loop-i-preserved invariant-loop-i decreases-loop-i
loop-i-preserved c =
    let a = c.args in
    let key = c.key_at-key.result in
    let X = groups_of (level_at FIRST) a.first.now in
    let Y = groups_of (level_at FIRST) a.second.now in
    let next = go_both key c.loop-i.invariant.0 a.first.now a.second.now X Y (view c.before.before.before.before.before.before.before.before.before.before) (equal c.before.before.before.before) (sym (compared c.before) ∙ c.if-not-same.false) in (
      c.loop-i.invariant.0,
      subst (λ p. Going key c.loop-i.invariant.0 a.first.now a.second.now X Y p c.group_end-q.result (c.loop-i.number + 1) (c.loop-i.length + (p - c.loop-i.i))) (sym c.group_end-p.ensures)
          (subst (λ q. Going key c.loop-i.invariant.0 a.first.now a.second.now X Y (group_end (level_at FIRST) key a.first.now c.loop-i.i) q (c.loop-i.number + 1) (c.loop-i.length + (group_end (level_at FIRST) key a.first.now c.loop-i.i - c.loop-i.i))) (sym c.group_end-q.ensures) next),
      c.loop-i.invariant.2,
    )

pub count_shared_spec : {M : Type 1} → statement M
count_shared_spec =
    tie.close
    (tie.spec
    invariant-loop-i
    decreases-loop-i
    key_at-key-requires
    loop-i-init
    returns-then-first-i
    returns-then-second-j
    serial_at-a-requires
    serial_at-b-requires
    group_end-i-requires
    loop-i-smaller-then-a-b
    loop-i-preserved-then-a-b
    group_end-j-requires
    loop-i-smaller-then-b-a
    loop-i-preserved-then-b-a
    group_end-p-requires
    group_end-q-requires
    slice_bounds-same-count
    slice_bounds-same-start
    slice_bounds-same-end
    slice_bounds-same-count-else-b-a
    slice_bounds-same-start-else-b-a
    slice_bounds-same-end-else-b-a
    same-requires
    returns-then-not-same
    overflow_add-number
    overflow_sub-length
    overflow_add-length
    loop-i-smaller
    loop-i-preserved)
