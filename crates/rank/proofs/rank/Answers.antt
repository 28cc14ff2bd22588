use mathlib.Core.Path.{refl, sym, ◌∙◌}
use native.Mathlib.Omega.{arith}
use borrow.Author.Rules.{rules}
use Rattle.field.specs.Level.{FIRST}
use Rattle.rank.specs.Entry.{rank_outcome}
use Rattle.rank.proofs.Outcome.{fine, ranked, tells}
use Rattle.rank.proofs.rank.Goals as goal

pub returns-in_err-refused-clause-outcome : goal.returns-in_err-refused-clause-outcome
unfolding rank_outcome
returns-in_err-refused-clause-outcome c = search rules

pub rank-requires : goal.rank-requires
rank-requires c =
    let a = c.args in
    let f = fine FIRST a.key a.h.now a.matrix.now (sym c.refused.ensures ∙ c.in_ok-refused.was) in
    (f.h-length, f.matrix-length ∙ sym f.h-length, omega (arith, f.is-sized.fewer), f.is-sized.most, f.h-words)

pub returns : goal.returns
returns c =
    let a = c.args in
    let e = c.rank.ensures in
    record {
      outcome = ranked FIRST a.key a.h.now a.matrix.now (sym c.in_ok-refused.was ∙ c.refused.ensures) refl e.rank e.cleared;
      tells = tells FIRST a.key a.h.now e.rank;
    }
