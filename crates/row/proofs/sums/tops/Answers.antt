use Rattle.std.proofs.Common.{◌≡◌, ℕ, ◌+◌, ◌*◌, subst, ◌∙◌, arith}
use Rattle.field.specs.Level.{level_at, K}
use Rattle.row.specs.Elements.{el, value_of}
use Rattle.row.specs.Lent.{small_of}
use Rattle.row.specs.Step.{AddedDown}
use Rattle.row.proofs.SumLaws.{topped}
use Rattle.row.proofs.sums.tops.Goals as goal

-- y as a matrix of one column
entry : (e : ℕ) → 1 * e + 0 ≡ e
entry e = omega arith

pub returns : goal.returns
returns c =
    let a = c.args in
    let l = level_at a.level in
    let t = c.column_tops in
    let u = c.spread in
    let p = value_of l a.power.words in
    let y = small_of l a.y.now in
    let down = subst (λ f. AddedDown (K l) (el l t.new.dst) (el l u.new.dst) (a.s * a.n) a.s a.k f a.m) (λ i e. (K l).mul (y (entry e i)) p) u.ensures.holds in
    record { same = u.ensures.same ∙ t.ensures.same; words = u.ensures.words; holds = topped (K l) _ _ _ a.n a.m a.s a.k p y c.requires.3 t.ensures.holds down }
