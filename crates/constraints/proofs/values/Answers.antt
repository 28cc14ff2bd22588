use Prim.Native.Nat.{ℕ}
use mathlib.Core.List.{List, [], ◌∷◌}
use Rattle.std.specs.Prelude.{Err}
use Rattle.refusal.specs.declared.Refusal.TheVariants.{DependentRows}
use Rattle.refusal.specs.Answer.{first_of, Answer}
use Rattle.key.specs.declared.Key.{Key}
use Rattle.lists.specs.Lent.{long}
use Rattle.refusal.proofs.Answers.{when_done}
use Rattle.field.specs.Level.{FIRST, level_at}
use Rattle.constraints.specs.Slices.{value_words}
use Rattle.key.specs.declared.Code.TheVariants.{Column}
use Rattle.key.specs.Key.{KeySlices, slices_of, lengths, below, withins}
use Rattle.key.proofs.Leans.{leans}
use Rattle.constraints.proofs.Fine.{values-fine}
use Rattle.constraints.specs.Entry.{values_lent, values_rows, values_outcome, values_leans, system}
use mathlib.Core.Path.{◌≡◌, refl, sym, ◌∙◌}
use borrow.Author.Rules.{rules}
use Rattle.constraints.proofs.values.Goals as goal

-- what any answer tells of 15
fifteen : (key : Key) (lent : KeySlices) (t q Δ p : List ℕ) {r : Answer} → r ≡ first_of (values_rows (level_at FIRST) key lent t q Δ p) → values_leans (level_at FIRST) key lent t q Δ p (r ≡ Err DependentRows)
fifteen key lent t q Δ p = leans FIRST key (long (values_lent (lengths (level_at FIRST) key) lent t q Δ p)) lent (below 1 t) (withins (level_at FIRST) (q ∷ Δ ∷ [])) Column [] tt

pub returns-in_err-values_refused-clause-outcome : goal.returns-in_err-values_refused-clause-outcome
unfolding values_outcome
returns-in_err-values_refused-clause-outcome c = search rules

pub returns-in_err-values_refused-clause-leans : goal.returns-in_err-values_refused-clause-leans
returns-in_err-values_refused-clause-leans c =
    let a = c.args in
    fifteen a.lent.now.key (slices_of a.lent.now) a.t.now a.q.now a.delta.now a.values.now (search rules)

pub write_values-requires : goal.write_values-requires
write_values-requires c =
    let a = c.args in
    let f = values-fine FIRST a.lent.now.key (slices_of a.lent.now) a.t.now a.q.now a.delta.now a.values.now (sym c.values_refused.ensures ∙ c.in_ok-values_refused.was) in
    record { sized = (f.is-sized, f.is_key, f.t-bits, f.q-words, f.Δ-words, f.is-target); t_len = (f.t-length, f.q-length, f.Δ-length, f.p-length) }

pub returns : goal.returns
unfolding values_outcome
returns c =
    let a = c.args in
    let lent = slices_of a.lent.now in
    let e = sym c.in_ok-values_refused.was ∙ c.values_refused.ensures in
    record {
      outcome = when_done (values_rows (level_at FIRST) a.lent.now.key lent a.t.now a.q.now a.delta.now a.values.now) (value_words (level_at FIRST) (system (level_at FIRST) a.lent.now.key lent) a.t.now a.q.now a.delta.now) a.values.now e refl c.write_values.ensures;
      leans = fifteen a.lent.now.key lent a.t.now a.q.now a.delta.now a.values.now e;
    }
