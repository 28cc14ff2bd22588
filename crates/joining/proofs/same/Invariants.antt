use Rattle.std.proofs.Common.{◌≡◌, ◌≤◌, eqb, length, take}
use Rattle.joining.specs.Union.{same}
use Rattle.joining.proofs.same.Given as goal

abbrev pub invariant-loop-i : goal.invariant-loop-i
invariant-loop-i l = (l.i ≤ length l.a) × (length l.a ≡ length l.b) × (eqb l.d 0 ≡ same (take l.i l.a) (take l.i l.b))
