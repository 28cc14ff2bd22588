use Prim.Native.Nat.{◌+◌}
use mathlib.Core.Path.{ap, ◌∙◌}
use native.Mathlib.Nat.{add-sub_cancel_left}
use native.Mathlib.Omega.{arith}
use Rattle.lists.specs.Words.{part}
use Rattle.copying.specs.Words.{word, from_bytes}
use Rattle.layout.specs.Layout.{serial_length}
use Rattle.layout.specs.Tests.{part_of}
use Rattle.package.proofs.Accepted.{serial-most, part-lt}
use Rattle.bundle.proofs.serial_at.Goals as goal

pub returns : goal.returns
unfolding part_of
returns c =
    let k = c.serial_length.result in
    let a = c.args in
    let s = a.s.now in
    let len = serial_length (word s (a.at + 1)) in
    let content = ap (λ n. part (a.at + 3) n s) (add-sub_cancel_left (a.at + 3) k ∙ c.serial_length.ensures) in
    let small = part-lt s (a.at + 3) len (λ i. omega (arith, c.type_inv.s i)) (serial-most (word s (a.at + 1))) in
    λ key. omega (arith, c.from_bytes.ensures, ap from_bytes content, small)
