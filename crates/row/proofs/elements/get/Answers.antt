use Rattle.std.proofs.Common.{◌*◌, ap, ◌∙◌}
use Rattle.lists.specs.Words.{part}
use Rattle.field.specs.Level.{level_at}
use Rattle.field.specs.declared.Level.{Level}
use Rattle.row.specs.Elements.{el}
use Rattle.row.proofs.ElementLaws.{part-words}
use Rattle.row.proofs.elements.get.Goals as goal

pub returns : goal.returns
returns c =
    let a = c.args in
    let l = level_at a.level in
    c.load.ensures (el l a.s.now a.i) (ap (λ (p : Level). part (p.coordinates * a.i) l.coordinates a.s.now) c.of-parameters.ensures ∙ part-words l a.s.now a.i c.requires.0 c.requires.1)
