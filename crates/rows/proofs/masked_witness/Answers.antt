use Rattle.std.proofs.Common.{◌≡◌, cond, List, ◌++◌, ℕ, ◌+◌, ◌*◌, length, get_or, drop, ap, ◌∙◌, arith}
use Rattle.lists.specs.Words.{put, concat}
use Rattle.field.specs.Binary.{xor}
use Rattle.field.specs.Word.{odd}
use Rattle.row.specs.Lists.{tab}
use Rattle.row.specs.Polynomial.{digit}
use Rattle.row.proofs.ListLaws.{tab-length}
use Rattle.rows.specs.Outcome.{masked_row, masked_witness}
use Rattle.rows.proofs.BlockLaws.{built_none, built_more, built_all}
use Rattle.rows.proofs.masked_witness.Goals as goal

row-length : (d : ℕ) (positions u : List ℕ) (i : ℕ) → length (masked_row d positions u i) ≡ d
unfolding masked_row
row-length d positions u i = tab-length d _

pub loop-i-init : goal.loop-i-init
loop-i-init c = built_none c.args.t.now c.args.d _

pub loop-i-preserved : goal.loop-i-preserved
unfolding masked_row
loop-i-preserved c =
    let a = c.args in
    let r = c.loop-i in
    let rows = masked_row a.d a.positions.now a.u.now in
    let own : c.masked_row.new.t ≡ put (a.d * r.i) (rows r.i) r.t = c.masked_row.ensures ∙ ap (λ p. put (a.d * r.i) (tab a.d (λ k. cond (xor (digit a.d p k) (odd (get_or a.u.now (a.d * r.i + k) 0))) 1 0)) r.t) c.from.ensures in
    own ∙ ap (put (a.d * r.i) (rows r.i)) r.invariant ∙ built_more a.d r.i a.t.now rows (row-length a.d a.positions.now a.u.now)

pub returns : goal.returns
unfolding masked_witness
returns c =
    let a = c.args in
    let rows = masked_row a.d a.positions.now a.u.now in
    let done : c.loop-i.i ≡ a.n = omega (arith, c.requires.2) in
    c.loop-i.invariant ∙ ap (λ i. concat i rows ++ drop (a.d * i) a.t.now) done ∙ built_all a.d a.n a.t.now rows (omega arith)
