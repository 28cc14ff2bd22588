use Prim.Native.Nat.{ℕ, ◌+◌, ◌*◌}
use mathlib.Core.Path.{◌≡◌, ap}
use native.Mathlib.Omega.{arith}
use mathlib.Core.List.{List}
use Rattle.field.specs.Level.{FIRST, level_at}
use Rattle.key.specs.declared.Lengths.{Lengths}
use Rattle.key.specs.declared.Key.{Key}
use Rattle.key.specs.Key.{Sized, lengths}
use Rattle.layout.specs.Layout.{serial_row}
use Rattle.layout.specs.Tests.{after}
use Rattle.layout.proofs.Bounds.{Bounds, bounds}
use Rattle.bundle.specs.Bundle.{group_end}
use Rattle.bundle.proofs.group_end.Goals as goal

module _ (key : Key) (s : List ℕ) (at : ℕ) {n : Lengths} (e : n ≡ lengths (level_at FIRST) key) where
  bound : Sized (level_at FIRST) key → Bounds n
  bound h = rw e (bounds key h)

  -- where the group ends, by the lengths of t and a
  end : group_end (level_at FIRST) key s at ≡ at + 3 + (serial_row s at).len + (6 + n.bits + 2 * n.proof)
  unfolding after
  end = omega (arith, ap (λ (n : Lengths). n.bits) e, ap (λ (n : Lengths). n.proof) e)

pub overflow_add-proof : goal.overflow_add-proof
overflow_add-proof c = let a = c.args in omega (arith, (bound a.key a.s.now a.at c.lengths-len.ensures c.requires.0).bits)

pub overflow_add-proof-2 : goal.overflow_add-proof-2
overflow_add-proof-2 c = let a = c.args in let b = bound a.key a.s.now a.at c.lengths-len.ensures c.requires.0 in omega (arith, b.bits, b.proof)

pub overflow_add-result : goal.overflow_add-result
overflow_add-result c = let a = c.args in omega (arith, end a.key a.s.now a.at c.lengths-len.ensures, c.requires.1)

pub overflow_add-result-2 : goal.overflow_add-result-2
overflow_add-result-2 c = let a = c.args in omega (arith, c.serial_length.ensures, end a.key a.s.now a.at c.lengths-len.ensures, c.requires.1)

pub overflow_add-result-3 : goal.overflow_add-result-3
overflow_add-result-3 c = let a = c.args in omega (arith, c.serial_length.ensures, end a.key a.s.now a.at c.lengths-len.ensures, c.requires.1)

pub returns : goal.returns
returns c = let a = c.args in omega (arith, c.serial_length.ensures, end a.key a.s.now a.at c.lengths-len.ensures)
