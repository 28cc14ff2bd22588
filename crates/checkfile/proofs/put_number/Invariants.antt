use Prim.Native.Nat.{◌-◌}
use Rattle.checkfile.proofs.Decimals.{Written}
use Rattle.checkfile.proofs.put_number.Given as goal

abbrev pub invariant-loop-rest : goal.invariant-loop-rest
invariant-loop-rest l = Written l.x l.text l.i l.rest

abbrev pub decreases-loop-rest : goal.decreases-loop-rest
decreases-loop-rest l = l.rest
