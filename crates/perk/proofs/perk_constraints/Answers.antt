use Rattle.refusal.proofs.Answers.{when_numbered}
use Rattle.perk.proofs.Numbers.{told-done, told-leans}
use Rattle.perk.proofs.perk_constraints.Goals as goal

pub returns : goal.returns
returns c =
    let e = c.constraints.ensures in
    let n = c.number.ensures in
    record { outcome = when_numbered e.outcome n; leans = told-leans n e.leans; truth = λ z. e.truth ((told-done n).0 z) }
