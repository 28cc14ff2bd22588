use Rattle.std.proofs.Common.{◌+◌, ◌*◌, sym, subst, ◌∙◌, arith}
use Rattle.std.proofs.Math.Nat.{mul-add}
use Rattle.field.specs.Level.{level_at, K}
use Rattle.field.specs.Word.{odd}
use Rattle.row.specs.Elements.{el}
use Rattle.row.specs.Step.{Factored}
use Rattle.row.proofs.ElementLaws.{fits_le}
use Rattle.row.proofs.NumberLaws.{row-le}
use Rattle.row.proofs.ProductLaws.{doubled_more}
use Rattle.row.proofs.products.double.Goals as goal

pub split-requires : goal.split-requires
split-requires c =
    let a = c.args in
    let r = c.loop-p in
    let d = r.invariant c.requires.1.factor c.requires.1.table in
    let inside = row-le a.n r.p a.h (omega arith) in
    (d.words, c.requires.1, c.requires.2, omega arith, fits_le (level_at a.level) (a.n * r.p + a.n * a.h + a.s + 1) (a.n * a.h + a.n * a.h) (omega arith) d.same c.requires.4)

pub loop-p-preserved : goal.loop-p-preserved
loop-p-preserved c y t =
    let a = c.args in
    let l = level_at a.level in
    let r = c.loop-p in
    let d = c.split.ensures y t in
    let held = r.invariant y t in
    let row = subst (λ b. Factored (K l) (el l r.buf) (el l c.split.new.buf) (a.n * r.p) b a.s (odd a.w) y (a.s + 1)) (sym (mul-add a.n r.p a.h)) d.holds in
    record { same = d.same ∙ held.same; words = d.words; holds = doubled_more (K l) (el l a.buf.now) _ _ a.n a.h a.s (odd a.w) y r.p c.requires.3 (omega arith) held.holds row }
