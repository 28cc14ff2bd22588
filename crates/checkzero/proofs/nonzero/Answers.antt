use Rattle.std.proofs.Common.{◌&&◌, sym, ap₂, ◌∙◌}
use Rattle.lists.proofs.Lent.{or-none}
use Rattle.field.specs.Level.{level_at}
use Rattle.field.specs.Word.{is_zero}
use Rattle.row.specs.Elements.{el}
use Rattle.checkzero.proofs.Laws.{every-none, every_more}
use Rattle.checkzero.proofs.nonzero.Goals as goal

pub loop-j-init : goal.loop-j-init
loop-j-init c = sym (every-none _)

pub loop-j-preserved : goal.loop-j-preserved
loop-j-preserved c =
    let l = level_at c.args.level in
    let r = c.loop-j in
    or-none r.any c.nonzero-any.result ∙ ap₂ ◌&&◌ r.invariant (c.nonzero-any.ensures _ c.get.ensures) ∙ every_more r.j (λ j. is_zero l (el l c.args.p.now j))
