use Prim.Native.Nat.{ℕ}
use mathlib.Core.Path.{sym, ◌∙◌}
use native.Mathlib.Omega.{arith}
use Rattle.examples.proofs.Bundles.{look-refused, look-short, look_exact}
use Rattle.examples.proofs.joined_exactly.Goals as goal

-- the room that is named
abbrev LARGEST : ℕ
LARGEST = 18446744073709551615

pub returns-then-out-len : goal.returns-then-out-len
returns-then-out-len c =
    let a = c.args in
    look-short a.first.now a.second.now a.out.now LARGEST (sym c.in-Ok.is ∙ c.look_before_join.ensures.outcome) c.if-out-len.true

pub returns-in-Err : goal.returns-in-Err
returns-in-Err c =
    let a = c.args in
    look-refused a.first.now a.second.now a.out.now LARGEST (λ i. omega (arith, c.type_inv.first i)) (λ i. omega (arith, c.type_inv.second i)) (omega arith) (sym c.in-Err.is ∙ c.look_before_join.ensures.outcome)

pub returns-else-out-len : goal.returns-else-out-len
returns-else-out-len c =
    let a = c.args in
    look_exact a.first.now a.second.now a.out.now LARGEST (sym c.in-Ok.is ∙ c.look_before_join.ensures.outcome) c.if-out-len.false c.join_bundles.ensures.outcome
