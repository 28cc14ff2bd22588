use Rattle.refusal.proofs.Answers.{when_numbered}
use Rattle.perk.proofs.perk_sum.Goals as goal

pub returns : goal.returns
returns c = when_numbered c.sum.ensures c.number.ensures
