use Prim.Native.Nat.{◌≤◌, ◌<◌}
use mathlib.Core.Path.{refl, sym, ap₂, ◌∙◌}
use mathlib.Core.Bool.{◌&&◌}
use native.Mathlib.Numerals.{add-one}
use native.Mathlib.Omega.{arith}
use lib.Bits.{bit_xor}
use lib.ListN.{length, get_or, take}
use lib.Seq.{take_all}
use Rattle.lists.proofs.Lent.{xor-none, or-none}
use Rattle.joining.specs.Union.{same}
use Rattle.joining.proofs.Equal.{same-short, same_more}
use Rattle.joining.proofs.same.Goals as goal

pub returns-then-a-b : goal.returns-then-a-b
returns-then-a-b c = let a = c.args in sym (same-short a.a.now a.b.now c.if-a-b.true)

pub loop-i-init : goal.loop-i-init
unfolding same
loop-i-init c = (omega arith, c.if-a-b.false, refl)

pub loop-i-preserved : goal.loop-i-preserved
loop-i-preserved c =
    let g = c.loop-i in
    let a = c.args in
    let i = g.i in
    let h : i < length a.a.now = omega arith in
    let k : i < length a.b.now = omega (arith, g.invariant.1) in
    let one = or-none g.d (bit_xor (get_or a.a.now i 0) (get_or a.b.now i 0)) ∙ ap₂ ◌&&◌ g.invariant.2 (xor-none (get_or a.a.now i 0) (get_or a.b.now i 0)) in
    (omega arith, g.invariant.1, rw add-one (one ∙ sym (same_more i a.a.now a.b.now h k)))

pub returns : goal.returns
returns c =
    let g = c.loop-i in
    let a = c.args in
    g.invariant.2 ∙ ap₂ same (take_all g.i a.a.now (omega arith)) (take_all g.i a.b.now (omega (arith, g.invariant.1)))
