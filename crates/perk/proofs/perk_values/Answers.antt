use Rattle.refusal.proofs.Answers.{when_numbered}
use Rattle.perk.proofs.Numbers.{told-leans}
use Rattle.perk.proofs.perk_values.Goals as goal

pub returns : goal.returns
returns c = record { outcome = when_numbered c.values.ensures.outcome c.number.ensures; leans = told-leans c.number.ensures c.values.ensures.leans }
