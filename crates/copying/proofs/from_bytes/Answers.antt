use Rattle.std.proofs.Common.{◌≡◌, suc, ◌+◌, ◌%◌, ◌∷◌, ◌≤◌, length, drop, sym, ap, add-one, arith, drop-cons, drop_of_length-le, ◌∙◌}
use Rattle.copying.specs.Words.{from_bytes_after}
use Rattle.copying.proofs.Bytes.{from_more}
use Rattle.copying.proofs.from_bytes.Goals as goal

pub loop-b-preserved : goal.loop-b-preserved
loop-b-preserved c =
    let l = c.loop-b in
    let s = c.args.c.now in
    let b = c.from.result in
    let rest : drop l.b-index s ≡ b ∷ drop (l.b-index + 1) s = rw (add-one l.b-index) (drop-cons s l.b-index 0 (omega arith) ∙ ap (λ x. x ∷ drop (suc l.b-index) s) (sym c.from.ensures)) in
    from_more l.x b _ rest l.invariant (omega arith)

pub returns : goal.returns
unfolding from_bytes_after
returns c =
    let l = c.loop-b in
    let s = c.args.c.now in
    let over : length s ≤ l.b-index = omega arith in
    let end = ap (λ t. from_bytes_after l.x t % 4294967296) (drop_of_length-le s {i = l.b-index} over) in
    omega (arith, sym end ∙ l.invariant)
