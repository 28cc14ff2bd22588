use Rattle.std.proofs.Common.{◌*◌, ap, ◌∙◌}
use Rattle.lists.specs.Words.{put}
use Rattle.field.specs.Level.{level_at}
use Rattle.field.specs.Word.{words}
use Rattle.field.specs.declared.Level.{Level}
use Rattle.row.proofs.ElementLaws.{stored}
use Rattle.row.proofs.elements.put.Goals as goal

pub returns : goal.returns
returns c y h =
    let a = c.args in
    let l = level_at a.level in
    stored l a.s.now a.i y c.requires.1 c.requires.0 (c.store.ensures y h ∙ ap (λ (p : Level). put (p.coordinates * a.i) (words l y) a.s.now) c.of-parameters.ensures)
