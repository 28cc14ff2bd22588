use Prim.Native.Nat.{ℕ}
use mathlib.Core.List.{List, [], ◌∷◌, ◌++◌}
use mathlib.Core.Path.{◌≡◌, sym, ap, ◌∙◌}
use native.Mathlib.Omega.{arith}
use borrow.Author.Rules.{rules}
use Rattle.std.specs.Prelude.{Err}
use Rattle.lists.specs.Lent.{long}
use Rattle.refusal.specs.declared.Refusal.TheVariants.{DependentRows}
use Rattle.refusal.specs.Answer.{Answer, number, first_of}
use Rattle.refusal.proofs.Answers.{when_refused, after-refused, decided-after}
use Rattle.field.specs.Level.{FIRST, level_at}
use Rattle.prover.specs.Entry.{prove_lent, prove_rows, prove_leans, tops_row, prove_result, prove_outcome}
use Rattle.key.specs.declared.Key.{Key}
use Rattle.key.specs.Key.{KeySlices, slices_of, lengths, below, codes_of, withins, spare_row}
use Rattle.key.proofs.Leans.{leans}
use Rattle.prover.proofs.Solved.{solved}
use Rattle.prover.proofs.prove.Goals as goal

-- what any answer tells of 15
fifteen : (key : Key) (lent : KeySlices) (positions u v r s α t a : List ℕ) {o : Answer} → o ≡ first_of (prove_rows (level_at FIRST) key lent positions u v r s α t a ++ tops_row (level_at FIRST) key lent positions v) → prove_leans (level_at FIRST) key lent positions u v r s α t a (o ≡ Err DependentRows)
fifteen key lent positions u v r s α t a = leans FIRST key (long (prove_lent (lengths (level_at FIRST) key) lent positions u v r s α t a)) lent (below 1 u) (withins (level_at FIRST) (v ∷ r ∷ s ∷ α ∷ [])) (codes_of key.n positions) (spare_row (codes_of key.n positions) ++ tops_row (level_at FIRST) key lent positions v) (λ z. omega (arith, ap number z), (λ z. omega (arith, ap number z), tt))

pub returns-in_err-refused : goal.returns-in_err-refused
unfolding prove_outcome
returns-in_err-refused c =
    let a = c.args in
    let lent = slices_of a.lent.now in
    let rows = prove_rows (level_at FIRST) a.lent.now.key lent a.positions.now a.u.now a.v.now a.r.now a.s.now a.alpha.now a.t.now a.a.now in
    let top = tops_row (level_at FIRST) a.lent.now.key lent a.positions.now a.v.now in
    let r : c.from_residual.result ≡ Err c.in_err-refused.field-0.0 = search rules in
    let e = after-refused rows top (r ∙ sym c.in_err-refused.was ∙ c.refused.ensures) r in
    record {
      outcome = when_refused (rows ++ top) (prove_result (level_at FIRST) a.lent.now.key lent a.positions.now a.u.now a.v.now a.r.now a.s.now a.alpha.now) (a.t.now, a.a.now) e r;
      leans = fifteen a.lent.now.key lent a.positions.now a.u.now a.v.now a.r.now a.s.now a.alpha.now a.t.now a.a.now e;
      solved = solved FIRST a.lent.now.key lent a.positions.now a.u.now a.v.now a.r.now a.s.now a.alpha.now a.t.now a.a.now e;
    }

pub returns : goal.returns
unfolding prove_outcome
returns c =
    let a = c.args in
    let lent = slices_of a.lent.now in
    let e = c.work.ensures ∙ decided-after (prove_rows (level_at FIRST) a.lent.now.key lent a.positions.now a.u.now a.v.now a.r.now a.s.now a.alpha.now a.t.now a.a.now) (tops_row (level_at FIRST) a.lent.now.key lent a.positions.now a.v.now) (prove_result (level_at FIRST) a.lent.now.key lent a.positions.now a.u.now a.v.now a.r.now a.s.now a.alpha.now) (a.t.now, a.a.now) (sym c.refused.ensures ∙ c.in_ok-refused.was) in
    let f = ap (λ (o : Answer × (List ℕ × List ℕ)). o.0) e in
    record {
      outcome = e;
      leans = fifteen a.lent.now.key lent a.positions.now a.u.now a.v.now a.r.now a.s.now a.alpha.now a.t.now a.a.now f;
      solved = solved FIRST a.lent.now.key lent a.positions.now a.u.now a.v.now a.r.now a.s.now a.alpha.now a.t.now a.a.now f;
    }
