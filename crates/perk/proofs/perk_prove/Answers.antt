use mathlib.Core.Logic.Iff
use Rattle.refusal.specs.declared.Refusal.TheVariants.{Top, SpareCode}
use Rattle.refusal.proofs.Answers.{when_numbered}
use Rattle.perk.proofs.Numbers.{told-done, told-refusal, told-leans}
use Rattle.perk.proofs.perk_prove.Goals as goal

pub returns : goal.returns
returns c =
    let e = c.prove.ensures in
    let n = c.number.ensures in
    record {
      outcome = when_numbered e.outcome n;
      leans = told-leans n e.leans;
      solved = record { done = Iff.trans (told-done n) e.solved.done; eight = Iff.trans (told-refusal n Top) e.solved.eight; sixteen = Iff.trans (told-refusal n SpareCode) e.solved.sixteen };
    }
