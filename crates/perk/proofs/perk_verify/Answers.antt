use mathlib.Core.Path.{ap, ◌∙◌}
use mathlib.Core.Logic.Iff
use Rattle.refusal.specs.Verdict.{verdict_number}
use Rattle.perk.proofs.Numbers.{told-accepted, told-rejected, turned-leans}
use Rattle.perk.proofs.perk_verify.Goals as goal

pub returns : goal.returns
returns c =
    let e = c.verify.ensures in
    let n = c.verdict_number.ensures in
    record {
      outcome = n ∙ ap verdict_number e.outcome;
      leans = turned-leans n e.leans;
      judges = record { accepted = Iff.trans (told-accepted n) e.judges.accepted; rejected = Iff.trans (told-rejected n) e.judges.rejected };
    }
