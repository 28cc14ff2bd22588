use Prim.Native.Nat.{ℕ, ◌-◌, ◌≤◌, ◌<◌}
use mathlib.Core.Path.{◌≡◌, refl, sym, ap, ◌∙◌}
use mathlib.Core.Bool.{true, false, cond, ◌||◌}
use mathlib.Core.List.{List}
use native.Mathlib.Omega.{arith}
use borrow.Author.Tests.{lt-ltb, le-ltb}
use lib.Dec.{eqb}
use lib.ListN.{get_or}
use Rattle.std.specs.Prelude.{Some, None}
use Rattle.lists.specs.Count.{count}
use Rattle.order.specs.Seen.{has}
use Rattle.order.specs.Entry.{among, offends, first_from, first_offender, looked_at}
use Rattle.order.proofs.Bits.{has-none}
use Rattle.order.proofs.First.{first_next, first-here, first-none, among_more, offends-large, offends-column}
use Rattle.order.proofs.first_offender.Goals as goal
use Rattle.order.proofs.first_offender.Goals.{then-n-position-via-then-n-position, then-n-position-via-else-n-position+then-has}

module _ (n : ℕ) (positions : List ℕ) (i : ℕ) (e : first_offender n positions ≡ first_from (offends n positions) i (n - i)) where
  -- index i where it offends and none before it does
  here : i < n → offends n positions i ≡ true → Some i ≡ looked_at n (first_offender n positions)
  here h o = let f = e ∙ first-here (offends n positions) n i h o in sym (ap (looked_at n) f ∙ ap (λ b. cond b (Some i) None) (lt-ltb i n h))

  -- none
  nowhere : n ≤ i → None ≡ looked_at n (first_offender n positions)
  nowhere h = let f = e ∙ first-none (offends n positions) n i h in sym (ap (looked_at n) f ∙ ap (λ b. cond b (Some i) None) (le-ltb i n h))

nothing : (positions : List ℕ) (j : ℕ) → among positions 0 j ≡ false
unfolding count
nothing positions j = refl

pub loop-i-init : goal.loop-i-init
loop-i-init c =
    let a = c.args in
    (refl, ap (first_from (offends a.n a.positions.now) 0) {x = a.n} {y = a.n - 0} (omega arith), λ j. has-none 2 j ∙ sym (nothing a.positions.now j))

pub returns-then-n-position : goal.returns-then-n-position
returns-then-n-position c =
    let a = c.args in
    let l = c.loop-i in
    let p = c.from-position in
    let at = here a.n a.positions.now l.i l.invariant.1 (omega arith) in
    elim c.then-n-position.branch [
      | then-n-position-via-then-n-position w ↦ at (offends-large a.n a.positions.now l.i (omega (arith, p.ensures, w.if-n-position.true)))
      | then-n-position-via-else-n-position+then-has w ↦ at (offends-column a.n a.positions.now l.i (omega (arith, p.ensures, w.if-n-position.false)) ∙ sym (l.invariant.2 (get_or a.positions.now l.i 0)) ∙ ap (has l.seen) (sym p.ensures) ∙ sym w.has.ensures ∙ w.if-has.true)
    ]

pub loop-i-preserved : goal.loop-i-preserved
loop-i-preserved c =
    let a = c.args in
    let l = c.loop-i in
    let q = c.from-position in
    let p = get_or a.positions.now l.i 0 in
    let e = c.add.ensures in (
      e.0 ∙ l.invariant.0,
      l.invariant.1 ∙ first_next (offends a.n a.positions.now) a.n l.i (omega arith) (offends-column a.n a.positions.now l.i (omega (arith, q.ensures, c.if-n-position.false)) ∙ sym (l.invariant.2 p) ∙ ap (has l.seen) (sym q.ensures) ∙ sym c.has.ensures ∙ c.if-has.false),
      λ j. e.1 j ∙ ap (λ k. eqb k j || has l.seen j) q.ensures ∙ ap (λ b. eqb p j || b) (l.invariant.2 j) ∙ sym (among_more a.positions.now l.i j),
    )

pub returns : goal.returns
returns c = nowhere c.args.n c.args.positions.now c.loop-i.i c.loop-i.invariant.1 (omega arith)
