use mathlib.Core.Path.{ap, ◌∙◌}
use Rattle.checkfile.specs.Line.{printed}
use Rattle.checkfile.proofs.report.Goals as goal

pub returns : goal.returns
returns c =
    record {
      printed = c.line.ensures.printed ∙ ap (λ checked. printed checked c.args.out.now) c.check.ensures;
      fits = c.line.ensures.fits;
    }
