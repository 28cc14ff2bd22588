use Rattle.std.proofs.Common.{ℕ, ◌≡◌, ◌∙◌, Bool, List, [], ◌∷◌, eqb, refl, ap, rules, tests}
use mathlib.Core.Bool.{◌&&◌}
use Rattle.std.specs.List.{list_all}
use Rattle.std.proofs.lemmas.Iterator.{YieldsList-from_slice}
use Rattle.std.proofs.lemmas.Iterator.Search.{all_from_yields_List}
use Rattle.lists.specs.Words.{all}
use Rattle.writer.proofs.zero.Goals as goal

-- the two tests of all items of a list are one
same : (p : ℕ → Bool) (s : List ℕ) → list_all p s ≡ all p s
unfolding all
same p [] = refl
same p (x ∷ s) = ap (λ b. p x && b) (same p s)

pub returns : goal.returns
returns c =
    let s = c.args.s.now in
    all_from_yields_List (λ x. eqb x 0) _ _ _ c.all.ensures.ran (YieldsList-from_slice s cc) (λ x b q k. search (rules, tests)) ∙ same (λ x. eqb x 0) s
