use native.Mathlib.Omega.{arith}
use Rattle.examples.proofs.Bundles.{again}
use Rattle.examples.proofs.joined_again.Goals as goal

pub returns : goal.returns
returns c =
    let a = c.args in
    again a.bytes.now a.out.now (λ i. omega (arith, c.type_inv.bytes i)) c.join_bundles.ensures.outcome
