use mathlib.Core.Path.{ap, ◌∙◌}
use Prim.Native.Nat.{◌/◌, ◌%◌, ◌^◌}
use native.Mathlib.Nat.{one-mul}
use native.Mathlib.Omega.{arith}
use lib.Bits.{bit_or}
use lib.ListN.{get_or, set, length-set}
use lib.Pow.{shl_exact}
use Rattle.order.specs.Seen.{has}
use Rattle.order.proofs.Bits.{has-add}
use Rattle.order.proofs.add.Goals as goal

pub returns : goal.returns
returns c =
    let a = c.args in
    let s = a.seen.now in
    let j = a.j in
    (length-set s (j / 64) _, λ k. ap (λ b. has (set s (j / 64) (bit_or (get_or s (j / 64) 0) b)) k) (shl_exact {a = 1} 1 (j % 64) 64 (omega arith) (omega arith) ∙ one-mul (2 ^ (j % 64))) ∙ has-add s j k (omega (arith, c.requires)))
