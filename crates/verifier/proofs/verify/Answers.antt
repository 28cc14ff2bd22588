use Rattle.field.specs.Level.{FIRST}
use Rattle.key.specs.Key.{slices_of}
use Rattle.verifier.proofs.Judged.{told}
use mathlib.Core.Path.{refl}
use borrow.Author.Tests.{eq-eqb, ne_eqb}
use borrow.Author.Rules.{rules}
use Rattle.verifier.proofs.verify.Goals as goal

pub returns-then-work-eq0 : goal.returns-then-work-eq0
returns-then-work-eq0 c =
    let a = c.args in
    let t = told FIRST a.lent.now.key (slices_of a.lent.now) a.t.now a.q.now a.delta.now a.masks.now a.alpha.now a.a.now c.refused.ensures c.in_ok-refused.was c.work.ensures (eq-eqb c.work.result 0 c.if-work-eq0.true) refl in
    record { outcome = t.0; leans = t.1.0; judges = t.1.1 }

pub returns-else-work-eq0 : goal.returns-else-work-eq0
returns-else-work-eq0 c =
    let a = c.args in
    let t = told FIRST a.lent.now.key (slices_of a.lent.now) a.t.now a.q.now a.delta.now a.masks.now a.alpha.now a.a.now c.refused.ensures c.in_ok-refused.was c.work.ensures (ne_eqb c.work.result 0 c.if-work-eq0.false) refl in
    record { outcome = t.0; leans = t.1.0; judges = t.1.1 }

pub returns-in_err-refused : goal.returns-in_err-refused
returns-in_err-refused c =
    let a = c.args in
    let t = told FIRST a.lent.now.key (slices_of a.lent.now) a.t.now a.q.now a.delta.now a.masks.now a.alpha.now a.a.now {verdict = c.from_residual.result} c.refused.ensures c.in_err-refused.was refl refl (search rules) in
    record { outcome = t.0; leans = t.1.0; judges = t.1.1 }
