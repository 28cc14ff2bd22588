use Prim.Native.Nat.{◌+◌, ◌-◌, ◌≤◌}
use mathlib.Core.Path.{◌≡◌, sym, ap, ◌∙◌, subst}
use native.Mathlib.Omega.{arith}
use borrow.Author.Rules.{rules}
use lib.ListN.{length}
use Rattle.lists.specs.Words as list
use Rattle.lists.proofs.Words.{put-length}
use Rattle.field.specs.Level.{FIRST, level_at}
use Rattle.key.specs.Key.{Sized}
use Rattle.bundle.specs.Bundle.{group_at, group_end, groups_of}
use Rattle.joining.specs.Union.{union}
use Rattle.joining.specs.Steps.{groups_bytes}
use Rattle.joining.proofs.Mates.{begun}
use Rattle.joining.proofs.Cursors.{First}
use Rattle.joining.proofs.Put as put
use Rattle.joining.proofs.put_groups.Statement.{statement}
use Rattle.joining.proofs.put_groups.Tie as tie

abbrev invariant-loop-i : tie.invariant-loop-i
invariant-loop-i first second start out₀ key i₀ j₀ at₀ out i j at = (h : Sized (level_at FIRST) key) × (f : start + length (groups_bytes (union (groups_of (level_at FIRST) first) (groups_of (level_at FIRST) second))) ≤ length out₀) × put.Putting key h first second (groups_of (level_at FIRST) first) (groups_of (level_at FIRST) second) out₀ start f i j at out

abbrev decreases-loop-i : tie.decreases-loop-i
decreases-loop-i first second start out₀ key i₀ j₀ at₀ out i j at = (length first - i) + (length second - j)

key_at-key-requires : tie.Need-key_at-key-requires invariant-loop-i decreases-loop-i
key_at-key-requires c κs = search rules

-- a group is left in both bundles
view : (e : tie.Else-second-j invariant-loop-i decreases-loop-i) →
    let a = e.args in
    let v = e.loop-i.invariant in
    put.Seen e.key_at-key.result v.0 a.first.now a.second.now (groups_of (level_at FIRST) a.first.now) (groups_of (level_at FIRST) a.second.now) a.out.now a.start v.1 e.loop-i.i e.loop-i.j e.loop-i.at e.loop-i.out
view e =
    let a = e.args in
    let key = e.key_at-key.result in
    let v = e.loop-i.invariant in
    put.seen key v.0 a.first.now a.second.now (groups_of (level_at FIRST) a.first.now) (groups_of (level_at FIRST) a.second.now) a.out.now a.start v.1 v.2 e.if-first-i.false e.if-second-j.false

-- the group at each cursor
left : (e : tie.Else-second-j invariant-loop-i decreases-loop-i) → let a = e.args in First e.key_at-key.result e.loop-i.invariant.0 a.first.now e.loop-i.i (view e).x (view e).xs
left e =
    let a = e.args in
    let key = e.key_at-key.result in
    let v = e.loop-i.invariant in
    put.here key v.0 a.first.now a.second.now (groups_of (level_at FIRST) a.first.now) (groups_of (level_at FIRST) a.second.now) a.out.now a.start v.1 (view e)

right : (e : tie.Else-second-j invariant-loop-i decreases-loop-i) → let a = e.args in First e.key_at-key.result e.loop-i.invariant.0 a.second.now e.loop-i.j (view e).y (view e).ys
right e =
    let a = e.args in
    let key = e.key_at-key.result in
    let v = e.loop-i.invariant in
    put.there key v.0 a.first.now a.second.now (groups_of (level_at FIRST) a.first.now) (groups_of (level_at FIRST) a.second.now) a.out.now a.start v.1 (view e)

loop-i-init : tie.Need-loop-i-init invariant-loop-i decreases-loop-i
loop-i-init c =
    let a = c.args in
    let w = begun a.first.now a.second.now a.start (λ i. omega (arith, c.shared_slice_known-1.given i)) (λ i. omega (arith, c.shared_slice_known-2-1.given i)) c.requires.0 c.key_at-key.ensures in
    (w.sized, c.requires.1, put.putting_start c.key_at-key.result w.sized a.first.now a.second.now (groups_of (level_at FIRST) a.first.now) (groups_of (level_at FIRST) a.second.now) a.out.now a.start c.requires.1 w.one w.two)

put_part-requires : tie.Need-put_part-requires invariant-loop-i decreases-loop-i
put_part-requires c κs =
    let a = c.args in
    let key = c.key_at-key.result in
    let v = c.loop-i.invariant in
    (v.2.two.within, omega arith, put.room-rest-second key v.0 a.first.now a.second.now (groups_of (level_at FIRST) a.first.now) (groups_of (level_at FIRST) a.second.now) a.out.now a.start v.1 v.2 c.if-first-i.true)

-- all groups are put, and the output has its length
last : (c : tie.After-put_part invariant-loop-i decreases-loop-i) →
    let a = c.args in
    c.put_part.new.out ≡ list.put a.start (groups_bytes (union (groups_of (level_at FIRST) a.first.now) (groups_of (level_at FIRST) a.second.now))) a.out.now
last c =
    let a = c.args in
    let key = c.key_at-key.result in
    let v = c.loop-i.invariant in
    put.put-rest-second key v.0 a.first.now a.second.now (groups_of (level_at FIRST) a.first.now) (groups_of (level_at FIRST) a.second.now) a.out.now a.start v.1 v.2 c.if-first-i.true c.put_part.ensures.0

last-2 : (c : tie.After-put_part-then-second-j invariant-loop-i decreases-loop-i) →
    let a = c.args in
    c.put_part-then-second-j.new.out ≡ list.put a.start (groups_bytes (union (groups_of (level_at FIRST) a.first.now) (groups_of (level_at FIRST) a.second.now))) a.out.now
last-2 c =
    let a = c.args in
    let key = c.key_at-key.result in
    let v = c.loop-i.invariant in
    put.put-rest-first key v.0 a.first.now a.second.now (groups_of (level_at FIRST) a.first.now) (groups_of (level_at FIRST) a.second.now) a.out.now a.start v.1 v.2 c.if-second-j.true c.put_part-then-second-j.ensures.0

shape_of-out-then-first-i : tie.Need-shape_of-out-then-first-i invariant-loop-i decreases-loop-i
shape_of-out-then-first-i c =
    let a = c.args in
    let key = c.key_at-key.result in
    let v = c.loop-i.invariant in
    ap length (last c.before.before) ∙ put-length a.start _ a.out.now v.1

returns-then-first-i : tie.Need-returns-then-first-i invariant-loop-i decreases-loop-i
returns-then-first-i c = last c.before.before

put_part-requires-then-second-j : tie.Need-put_part-requires-then-second-j invariant-loop-i decreases-loop-i
put_part-requires-then-second-j c κs =
    let a = c.args in
    let key = c.key_at-key.result in
    let v = c.loop-i.invariant in
    (v.2.one.within, omega arith, put.room-rest-first key v.0 a.first.now a.second.now (groups_of (level_at FIRST) a.first.now) (groups_of (level_at FIRST) a.second.now) a.out.now a.start v.1 v.2 c.if-second-j.true)

shape_of-out-then-second-j : tie.Need-shape_of-out-then-second-j invariant-loop-i decreases-loop-i
shape_of-out-then-second-j c =
    let a = c.args in
    let key = c.key_at-key.result in
    let v = c.loop-i.invariant in
    ap length (last-2 c.before.before) ∙ put-length a.start _ a.out.now v.1

returns-then-second-j : tie.Need-returns-then-second-j invariant-loop-i decreases-loop-i
returns-then-second-j c = last-2 c.before.before

serial_at-a-requires : tie.Need-serial_at-a-requires invariant-loop-i decreases-loop-i
serial_at-a-requires c κs = (left c).fits

serial_at-b-requires : tie.Need-serial_at-b-requires invariant-loop-i decreases-loop-i
serial_at-b-requires c κs = (right c.before).fits

-- the serials at the cursors
serials : (k : tie.After-serial_at-b invariant-loop-i decreases-loop-i) → let a = k.args in let key = k.key_at-key.result in
    (k.serial_at-a.result ≡ (group_at (level_at FIRST) key a.first.now k.loop-i.i).serial) × (k.serial_at-b.result ≡ (group_at (level_at FIRST) key a.second.now k.loop-i.j).serial)
serials k = let key = k.key_at-key.result in (k.serial_at-a.ensures key, k.serial_at-b.ensures key)

group_end-p-requires : tie.Need-group_end-p-requires invariant-loop-i decreases-loop-i
group_end-p-requires c κs = (c.loop-i.invariant.0, (left c.before.before.before).within)

put_part-at-requires : tie.Need-put_part-at-requires invariant-loop-i decreases-loop-i
put_part-at-requires c κs =
    let p = c.group_end-p.ensures in
    let a = c.args in
    let key = c.key_at-key.result in
    let v = c.loop-i.invariant in
    (omega (arith, p, (left c.before.before.before.before.before).far), omega (arith, p, (left c.before.before.before.before.before).within), omega (arith, p, put.room-first key v.0 a.first.now a.second.now (groups_of (level_at FIRST) a.first.now) (groups_of (level_at FIRST) a.second.now) a.out.now a.start v.1 (view c.before.before.before.before.before) (omega (arith, serials c.before.before.before, c.if-a-b.true))))

loop-i-smaller-then-a-b : tie.Need-loop-i-smaller-then-a-b invariant-loop-i decreases-loop-i
loop-i-smaller-then-a-b c = let w = left c.before.before.before.before.before.before.before.before in omega (arith, c.group_end-p.ensures, w.far, w.within)

loop-i-preserved-then-a-b : tie.Need-loop-i-preserved-then-a-b invariant-loop-i decreases-loop-i
loop-i-preserved-then-a-b c =
    let a = c.args in
    let key = c.key_at-key.result in
    let v = c.loop-i.invariant in
    let r = c.put_part-at.ensures in
    let p = c.group_end-p.ensures in
    let next = put.put_first key v.0 a.first.now a.second.now (groups_of (level_at FIRST) a.first.now) (groups_of (level_at FIRST) a.second.now) a.out.now a.start v.1 (view c.before.before.before.before.before.before.before.before) (omega (arith, serials c.before.before.before.before.before.before, c.if-a-b.true))
    (r.0 ∙ ap (λ p. list.put c.loop-i.at (list.part c.loop-i.i (p - c.loop-i.i) a.first.now) c.loop-i.out) p)
    (r.1 ∙ ap (λ p. c.loop-i.at + (p - c.loop-i.i)) p) in
    (v.0, v.1, subst (λ p. put.Putting key v.0 a.first.now a.second.now (groups_of (level_at FIRST) a.first.now) (groups_of (level_at FIRST) a.second.now) a.out.now a.start v.1 p c.loop-i.j c.put_part-at.result c.put_part-at.new.out) (sym p) next)

group_end-q-requires : tie.Need-group_end-q-requires invariant-loop-i decreases-loop-i
group_end-q-requires c κs = (c.loop-i.invariant.0, (right c.before.before.before).within)

put_part-at-requires-else-a-b : tie.Need-put_part-at-requires-else-a-b invariant-loop-i decreases-loop-i
put_part-at-requires-else-a-b c κs =
    let q = c.group_end-q.ensures in
    let a = c.args in
    let key = c.key_at-key.result in
    let v = c.loop-i.invariant in
    (omega (arith, q, (right c.before.before.before.before.before).far), omega (arith, q, (right c.before.before.before.before.before).within), omega (arith, q, put.room-second key v.0 a.first.now a.second.now (groups_of (level_at FIRST) a.first.now) (groups_of (level_at FIRST) a.second.now) a.out.now a.start v.1 (view c.before.before.before.before.before) (omega (arith, serials c.before.before.before, c.if-a-b.false))))

group_end-i-requires : tie.Need-group_end-i-requires invariant-loop-i decreases-loop-i
group_end-i-requires c κs = (c.loop-i.invariant.0, (left c.before.before.before.before.before.before.before.before.before).within)

loop-i-smaller-then-a-b-2 : tie.Need-loop-i-smaller-then-a-b-2 invariant-loop-i decreases-loop-i
loop-i-smaller-then-a-b-2 c =
    let w = left c.before.before.before.before.before.before.before.before.before.before in
    let u = right c.before.before.before.before.before.before.before.before.before.before in
    omega (arith, c.group_end-i.ensures, c.group_end-q.ensures, w.far, w.within, u.far, u.within)

-- what was put of the second bundle
put_second : (g : tie.After-put_part-at-else-a-b invariant-loop-i decreases-loop-i) →
    let a = g.args in
    let q = group_end (level_at FIRST) g.key_at-key.result a.second.now g.loop-i.j in
    (g.put_part-at-else-a-b.new.out ≡ list.put g.loop-i.at (list.part g.loop-i.j (q - g.loop-i.j) a.second.now) g.loop-i.out) × (g.put_part-at-else-a-b.result ≡ g.loop-i.at + (q - g.loop-i.j))
put_second g =
    let a = g.args in
    let r = g.put_part-at-else-a-b.ensures in
    let q = g.group_end-q.ensures in
    (r.0 ∙ ap (λ q. list.put g.loop-i.at (list.part g.loop-i.j (q - g.loop-i.j) a.second.now) g.loop-i.out) q, r.1 ∙ ap (λ q. g.loop-i.at + (q - g.loop-i.j)) q)

loop-i-preserved-then-a-b-2 : tie.Need-loop-i-preserved-then-a-b-2 invariant-loop-i decreases-loop-i
loop-i-preserved-then-a-b-2 c =
    let a = c.args in
    let key = c.key_at-key.result in
    let v = c.loop-i.invariant in
    let r = put_second c.before.before.before.before in
    let next = put.put_both key v.0 a.first.now a.second.now (groups_of (level_at FIRST) a.first.now) (groups_of (level_at FIRST) a.second.now) a.out.now a.start v.1 (view c.before.before.before.before.before.before.before.before.before.before) (omega (arith, serials c.before.before.before.before.before.before.before.before, c.if-a-b-2.true)) r.0 r.1 in (
      v.0,
      v.1,
      subst (λ p. put.Putting key v.0 a.first.now a.second.now (groups_of (level_at FIRST) a.first.now) (groups_of (level_at FIRST) a.second.now) a.out.now a.start v.1 p c.group_end-q.result c.put_part-at-else-a-b.result c.put_part-at-else-a-b.new.out) (sym c.group_end-i.ensures)
          (subst (λ q. put.Putting key v.0 a.first.now a.second.now (groups_of (level_at FIRST) a.first.now) (groups_of (level_at FIRST) a.second.now) a.out.now a.start v.1 (group_end (level_at FIRST) key a.first.now c.loop-i.i) q c.put_part-at-else-a-b.result c.put_part-at-else-a-b.new.out) (sym c.group_end-q.ensures) next),
    )

loop-i-smaller : tie.Need-loop-i-smaller invariant-loop-i decreases-loop-i
loop-i-smaller c = let u = right c.before.before.before.before.before.before.before.before.before in omega (arith, c.group_end-q.ensures, u.far, u.within)

loop-i-preserved : tie.Need-loop-i-preserved invariant-loop-i decreases-loop-i
loop-i-preserved c =
    let a = c.args in
    let key = c.key_at-key.result in
    let v = c.loop-i.invariant in
    let r = put_second c.before.before.before in
    let next = put.put_second key v.0 a.first.now a.second.now (groups_of (level_at FIRST) a.first.now) (groups_of (level_at FIRST) a.second.now) a.out.now a.start v.1 (view c.before.before.before.before.before.before.before.before.before) (omega (arith, serials c.before.before.before.before.before.before.before, c.if-a-b-2.false, c.if-a-b.false)) r.0 r.1 in
    (v.0, v.1, subst (λ q. put.Putting key v.0 a.first.now a.second.now (groups_of (level_at FIRST) a.first.now) (groups_of (level_at FIRST) a.second.now) a.out.now a.start v.1 c.loop-i.i q c.put_part-at-else-a-b.result c.put_part-at-else-a-b.new.out) (sym c.group_end-q.ensures) next)

pub put_groups_spec : {M : Type 1} → statement M
put_groups_spec =
    tie.close
    (tie.spec
    invariant-loop-i
    decreases-loop-i
    key_at-key-requires
    loop-i-init
    put_part-requires
    shape_of-out-then-first-i
    returns-then-first-i
    put_part-requires-then-second-j
    shape_of-out-then-second-j
    returns-then-second-j
    serial_at-a-requires
    serial_at-b-requires
    group_end-p-requires
    put_part-at-requires
    loop-i-smaller-then-a-b
    loop-i-preserved-then-a-b
    group_end-q-requires
    put_part-at-requires-else-a-b
    group_end-i-requires
    loop-i-smaller-then-a-b-2
    loop-i-preserved-then-a-b-2
    loop-i-smaller
    loop-i-preserved)
