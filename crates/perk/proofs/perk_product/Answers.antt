use Rattle.refusal.proofs.Answers.{when_numbered}
use Rattle.perk.proofs.perk_product.Goals as goal

pub returns : goal.returns
returns c = when_numbered c.product.ensures c.number.ensures
