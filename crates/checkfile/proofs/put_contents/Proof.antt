use native.Mathlib.Omega.{arith}
use mathlib.Core.Path.{ap, ◌∙◌}
use mathlib.Core.List.{[], ◌∷◌, ◌++◌}
use lib.ListN.{length}
use Rattle.lists.specs.Words.{put}
use Rattle.checkfile.specs.Line.{serial_text, n_text, m_text, decimal}
use Rattle.copying.proofs.Filled.{Stands, first-stands}
use Rattle.checkfile.proofs.Text.{stands_more, six}
use borrow.Author.Rules.{rules}
use Rattle.checkfile.proofs.put_contents.Statement.{statement}
use Rattle.checkfile.proofs.put_contents.Tie as tie

put_text-at-requires : tie.Need-put_text-at-requires
put_text-at-requires c κs = search rules

overflow_cast-contents : tie.Need-overflow_cast-contents
overflow_cast-contents c = search rules

put_number-at-requires : tie.Need-put_number-at-requires
put_number-at-requires c κs = search rules

put_text-at-requires-2 : tie.Need-put_text-at-requires-2
put_text-at-requires-2 c κs = search rules

put_number-at-requires-2 : tie.Need-put_number-at-requires-2
put_number-at-requires-2 c κs = search rules

put_text-at-requires-3 : tie.Need-put_text-at-requires-3
put_text-at-requires-3 c κs = search rules

put_number-requires : tie.Need-put_number-requires
put_number-requires c κs = search rules

shape_of-out : tie.Need-shape_of-out
shape_of-out c = search rules

returns : tie.Need-returns
returns c =
    let k = c.args.contents in
    let s = c.args.out.now in
    let e₁ = c.put_text-at.ensures in
    let e₂ = c.put_number-at.ensures in
    let e₃ = c.put_text-at-2.ensures in
    let e₄ = c.put_number-at-2.ensures in
    let e₅ = c.put_text-at-3.ensures in
    let e₆ = c.put_number.ensures in
    let room = c.requires in
    let at₁ = e₁.1 in
    let at₂ = e₂.2 in
    let at₃ = e₃.1 in
    let at₄ = e₄.2 in
    let at₅ = e₅.1 in
    let at₆ = e₆.2 in
    let w₁ : Stands s 0 (serial_text ++ (32 ∷ [])) _ _ = record { is = e₁.0; end = e₁.1 } in
    let w₂ = stands_more (decimal k.serial) 32 w₁ (omega (arith, e₂.1)) e₂.0 e₂.1 in
    let w₃ = stands_more n_text 32 w₂ (omega (arith, e₃.1)) e₃.0 e₃.1 in
    let w₄ = stands_more (decimal k.n) 32 w₃ (omega (arith, e₄.1)) e₄.0 e₄.1 in
    let w₅ = stands_more m_text 32 w₄ (omega (arith, e₅.1)) e₅.0 e₅.1 in
    let w₆ = stands_more (decimal k.m) 32 w₅ (omega (arith, e₆.1)) e₆.0 e₆.1 in
    let all = six (serial_text ++ (32 ∷ [])) (decimal k.serial ++ (32 ∷ [])) (n_text ++ (32 ∷ [])) (decimal k.n ++ (32 ∷ [])) (m_text ++ (32 ∷ [])) (decimal k.m ++ (32 ∷ [])) in
    (w₆.is ∙ ap (λ a. put 0 a s) all, (first-stands w₆).1 ∙ ap length all, omega arith)

pub put_contents_spec : {M : Type 1} → statement M
put_contents_spec =
    tie.close
    (tie.spec
    put_text-at-requires
    overflow_cast-contents
    put_number-at-requires
    put_text-at-requires-2
    put_number-at-requires-2
    put_text-at-requires-3
    put_number-requires
    shape_of-out
    returns)
