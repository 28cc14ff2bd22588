use Prim.Native.Nat.{ℕ}
use mathlib.Core.Path.{◌≡◌, refl, sym, ap₂, subst₂, ◌∙◌}
use mathlib.Core.List.{List, [], ◌∷◌}
use native.Mathlib.Omega.{arith}
use borrow.Author.Rules.{rules}
use Rattle.std.specs.Prelude.{Err}
use Rattle.lists.specs.Lent.{long}
use Rattle.refusal.specs.declared.Refusal.TheVariants.{DependentRows}
use Rattle.refusal.specs.Answer.{first_of, Answer, Done}
use Rattle.refusal.proofs.Answers.{when_done}
use Rattle.field.specs.Level.{FIRST, level_at}
use Rattle.field.proofs.Fields.{bounded}
use Rattle.constraints.specs.Slices.{masked_bytes, polynomial_words, witness_of}
use Rattle.constraints.specs.Truth.{Truth}
use Rattle.key.specs.declared.Key.{Key}
use Rattle.key.specs.Key.{KeySlices, slices_of, lengths, below, codes_of, withins}
use Rattle.key.proofs.Leans.{leans}
use Rattle.constraints.specs.Entry.{constraints_lent, constraints_rows, constraints_outcome, constraints_leans, system}
use Rattle.constraints.proofs.Fine.{ConstraintsFine, constraints_fine}
use Rattle.constraints.proofs.Truth.{truth}
use Rattle.constraints.proofs.constraints.Goals as goal

module _ (key : Key) (lent : KeySlices) (positions u v t p : List ℕ) {r : Answer} (e : r ≡ first_of (constraints_rows (level_at FIRST) key lent positions u v t p)) where
  -- what holds of the slices where no refusal applies
  passed : r ≡ Done → ConstraintsFine FIRST key lent positions u v t p
  passed d = constraints_fine FIRST key lent positions u v t p (sym e ∙ d)

  -- what any answer tells of 15
  fifteen : constraints_leans (level_at FIRST) key lent positions u v t p (r ≡ Err DependentRows)
  fifteen = leans FIRST key (long (constraints_lent (lengths (level_at FIRST) key) lent positions u v t p)) lent (below 1 u) (withins (level_at FIRST) (v ∷ [])) (codes_of key.n positions) [] tt e

pub returns-in_err-constraints_refused-clause-outcome : goal.returns-in_err-constraints_refused-clause-outcome
unfolding constraints_outcome
returns-in_err-constraints_refused-clause-outcome c = search rules

pub returns-in_err-constraints_refused-clause-leans : goal.returns-in_err-constraints_refused-clause-leans
returns-in_err-constraints_refused-clause-leans c =
    let a = c.args in
    fifteen a.lent.now.key (slices_of a.lent.now) a.positions.now a.u.now a.v.now a.t.now a.polynomials.now (search rules)

pub write_masked_witness-requires : goal.write_masked_witness-requires
write_masked_witness-requires c =
    let a = c.args in
    let f = passed a.lent.now.key (slices_of a.lent.now) a.positions.now a.u.now a.v.now a.t.now a.polynomials.now c.constraints_refused.ensures c.in_ok-constraints_refused.was in
    record { sized = (f.is-sized, f.u-bits); positions_len = (f.positions-length, f.u-length, f.t-length) }

pub write_polynomials-requires : goal.write_polynomials-requires
write_polynomials-requires c =
    let a = c.args in
    let f = passed a.lent.now.key (slices_of a.lent.now) a.positions.now a.u.now a.v.now a.t.now a.polynomials.now c.constraints_refused.ensures c.in_ok-constraints_refused.was in
    record { sized = (f.is-sized, f.is_key, f.v-words, f.is-target); positions_len = (f.positions-length, f.v-length, f.p-length) }

pub returns : goal.returns
unfolding constraints_outcome
returns c =
    let a = c.args in
    let lent = slices_of a.lent.now in
    let t = c.write_masked_witness.ensures lent in
    let p = c.write_polynomials.ensures in
    let e = sym c.in_ok-constraints_refused.was ∙ c.constraints_refused.ensures in
    let f = passed a.lent.now.key lent a.positions.now a.u.now a.v.now a.t.now a.polynomials.now e refl in
    let b = bounded FIRST in
    record {
      outcome = when_done (constraints_rows (level_at FIRST) a.lent.now.key lent a.positions.now a.u.now a.v.now a.t.now a.polynomials.now) (masked_bytes (system (level_at FIRST) a.lent.now.key lent) (witness_of a.lent.now.key.n a.positions.now) a.u.now, polynomial_words (level_at FIRST) (system (level_at FIRST) a.lent.now.key lent) (witness_of a.lent.now.key.n a.positions.now) a.v.now) (a.t.now, a.polynomials.now) e refl (ap₂ (λ (t p : List ℕ). (t, p)) t p);
      leans = fifteen a.lent.now.key lent a.positions.now a.u.now a.v.now a.t.now a.polynomials.now e;
      truth = λ _. subst₂ (Truth (level_at FIRST) a.lent.now.key.n a.lent.now.key.m lent a.positions.now a.u.now a.v.now) (sym t) (sym p)
          (truth (level_at FIRST) b.width b.coordinates a.lent.now.key.n a.lent.now.key.m lent (omega (arith, b.most, f.is-sized.most)) a.positions.now (λ i l. f.positions-lt i) a.u.now a.v.now);
    }
