use Prim.Native.Nat.{◌-◌, ◌≤◌}
use native.Mathlib.Omega.{arith}
use mathlib.Core.Path.{◌≡◌, refl, sym, ◌∙◌}
use lib.ListN.{length, take, drop, length-drop}
use lib.Seq.{take_all}
use Rattle.row.proofs.ListLaws.{blanks}
use Rattle.checkfile.specs.Line.{decimal}
use Rattle.checkfile.proofs.Decimals.{first-digit, some-place, next-digit, last-digit}
use Rattle.checkfile.proofs.put_number.Goals as goal

pub loop-rest-init : goal.loop-rest-init
loop-rest-init c = first-digit c.args.x _ (blanks 20) (omega arith) refl c.digit.ensures

pub overflow_sub-i : goal.overflow_sub-i
overflow_sub-i c = some-place c.loop-rest.i c.loop-rest.rest (omega arith) c.loop-rest.invariant.few

pub bounds-text-i : goal.bounds-text-i
bounds-text-i c = omega (arith, c.loop-rest.invariant.place)

pub loop-rest-smaller : goal.loop-rest-smaller
loop-rest-smaller c = omega arith

pub loop-rest-preserved : goal.loop-rest-preserved
loop-rest-preserved c = let l = c.loop-rest in next-digit _ _ l.i (l.i - 1) l.rest l.text (omega (arith, some-place l.i l.rest (omega arith) l.invariant.few)) l.invariant (omega arith) c.digit-in-loop-rest.ensures

pub slice_bounds-put_text-count : goal.slice_bounds-put_text-count
slice_bounds-put_text-count c = omega (arith, c.loop-rest.invariant.place)

pub slice_bounds-put_text-start : goal.slice_bounds-put_text-start
slice_bounds-put_text-start c = omega (arith, c.loop-rest.invariant.place)

pub slice_bounds-put_text-end : goal.slice_bounds-put_text-end
slice_bounds-put_text-end c = omega (arith, c.loop-rest.invariant.long)

pub returns : goal.returns
returns c =
    let l = c.loop-rest in
    let e = c.put_text.ensures in
    let size : length (drop l.i l.text) ≤ 20 - l.i = omega (arith, length-drop l.i l.text, l.invariant.long) in
    let is : decimal c.args.x ≡ take (20 - l.i) (drop l.i l.text) = last-digit _ l.i l.rest l.text l.invariant (omega arith) ∙ sym (take_all (20 - l.i) (drop l.i l.text) size) in
    rw is (e.0, e.1, omega arith)
