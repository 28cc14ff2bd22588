use Rattle.std.proofs.Common.{◌+◌, ◌*◌, refl, sym, subst, ◌∙◌}
use Rattle.std.proofs.Math.Nat.{zero-add}
use Rattle.field.specs.Level.{level_at, K}
use Rattle.row.specs.Elements.{el, value_of}
use Rattle.row.specs.Step.{Put}
use Rattle.row.proofs.SumLaws.{down_more}
use Rattle.row.proofs.sums.column_tops.Goals as goal

pub loop-j-preserved : goal.loop-j-preserved
loop-j-preserved c =
    let a = c.args in
    let l = level_at a.level in
    let r = c.loop-j in
    let y = value_of l a.y.words in
    let d = c.add_at.ensures y c.requires.1 in
    let put = subst (λ i. Put (el l r.dst) (el l c.add_at.new.s) (i + a.k) ((K l).add (el l r.dst (i + a.k)) y)) (sym (zero-add (a.s * r.j))) d.holds in
    record { same = d.same ∙ r.invariant.same; words = d.words; holds = down_more (K l) (el l a.dst.now) 0 a.s a.k (λ e. y) c.requires.2 _ _ r.j y r.invariant.holds put refl }
