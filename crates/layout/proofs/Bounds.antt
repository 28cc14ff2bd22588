-- Bounds of the lengths that rows are made of, for sizes that are not refused.
use Prim.Native.Nat.{◌+◌, ◌-◌, ◌*◌, ◌≤◌}
use native.Mathlib.Nat.{mul-le-mul}
use native.Mathlib.Omega.{arith}
use Rattle.field.specs.Level.{FIRST, level_at}
use Rattle.field.proofs.Fields.{bounded}
use Rattle.key.specs.declared.Key.{Key}
use Rattle.key.specs.declared.Lengths.{Lengths}
use Rattle.key.specs.Key.{Sized, degree, lengths}
use Rattle.key.proofs.Sized.{degree-lt}

pub record Bounds (n : Lengths) : Type 0 where
  pub matrix : n.matrix ≤ 128 * 128
  pub vector : n.vector ≤ 128
  pub target : n.target ≤ 128
  pub bits : n.bits ≤ 128 * 7
  pub one : n.one ≤ 32
  pub elements : n.elements ≤ 32 * (128 * 7)
  pub values : n.values ≤ 32 * 256
  pub proof : n.proof ≤ 32 * 7
  pub masks : n.masks ≤ 32 * 7

pub bounds : (key : Key) → Sized (level_at FIRST) key → Bounds (lengths (level_at FIRST) key)
bounds key s =
    let b = bounded FIRST in
    let n : key.n ≤ 128 = omega (arith, b.most, s.most) in
    let m : key.m ≤ 128 = omega (arith, s.fewer) in
    let d : degree key.n ≤ 7 = omega (arith, degree-lt key.n 8 (omega (arith, s.two)) (omega arith) (omega arith)) in
    let sum : key.n + key.m ≤ 256 = omega arith in
    let less : degree key.n - 1 ≤ 7 = omega arith in
    let w : (level_at FIRST).coordinates ≤ 32 = omega (arith, b.narrow) in
    let nd = mul-le-mul n d in
    record {
      matrix = mul-le-mul m n;
      vector = n;
      target = m;
      bits = nd;
      one = w;
      elements = mul-le-mul w nd;
      values = mul-le-mul w sum;
      proof = mul-le-mul w d;
      masks = mul-le-mul w less;
    }
