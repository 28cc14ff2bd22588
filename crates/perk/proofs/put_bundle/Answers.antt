use mathlib.Core.Path.{subst}
use native.Mathlib.Omega.{arith}
use Rattle.perk.specs.Files.{SmallBundle}
use Rattle.perk.proofs.put_bundle.Goals as goal

pub overflow_cast-n : goal.overflow_cast-n
overflow_cast-n c = omega (arith, (subst SmallBundle c.in-Ok.is c.requires).0)

pub overflow_cast-m : goal.overflow_cast-m
overflow_cast-m c = omega (arith, (subst SmallBundle c.in-Ok.is c.requires).1)
