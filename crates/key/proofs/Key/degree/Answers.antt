use lib.Count.{leading_le}
use Rattle.key.specs.Key.{degree}
use Prim.Native.Nat.{◌-◌}
use mathlib.Core.Path.{refl}
use native.Mathlib.Omega.{arith}
use Rattle.key.proofs.Key.degree.Goals as goal

pub overflow_sub-result : goal.overflow_sub-result
overflow_sub-result c = omega (arith, leading_le 64 (c.args.self.n - 1))

pub returns : goal.returns
unfolding degree
returns c = refl
