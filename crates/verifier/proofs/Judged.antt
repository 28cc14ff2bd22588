-- What a verdict says: the law that the entry's outcome judges the verifier's equation.
use Rattle.std.specs.Prelude.{Result, Ok, Err}
use Rattle.refusal.specs.declared.Refusal.{Refusal}
use Rattle.refusal.specs.declared.Refusal.TheVariants.{DependentRows}
use mathlib.Core.Path.{◌≡◌, refl, sym, ◌∙◌, ap, ap₂}
use mathlib.Core.Bool.{Bool, true, false, false≢true}
use mathlib.Core.Logic.{◌↔◌}
use mathlib.Core.List.{List, [], ◌∷◌}
use Prim.Native.Nat.{ℕ}
use native.Mathlib.Omega.{arith}
use Rattle.lists.specs.Lent.{long}
use Rattle.refusal.specs.Answer.{first_of, Answer, Done}
use Rattle.refusal.specs.Verdict.{judged}
use Rattle.refusal.specs.declared.Verdict.{Verdict}
use Rattle.refusal.specs.declared.Verdict.TheVariants.{Accepted, Rejected}
use Rattle.field.specs.declared.Level.{Level}
use Rattle.key.specs.declared.Key.{Key}
use Rattle.field.specs.Level.{level_at}
use Rattle.key.specs.declared.Code.TheVariants.{Column}
use Rattle.key.specs.Key.{KeySlices, lengths, below, withins}
use Rattle.key.proofs.Leans.{leans}
use Rattle.constraints.specs.Entry.{system}
use Rattle.checkzero.specs.Slices.{AcceptsSlices, accepts}
use Rattle.checkzero.proofs.Written.{accepts-true}
use Rattle.verifier.specs.Entry.{verify_lent, verify_rows, verify_outcome, verify_leans, Judges}

-- a verdict tells the answer and the test
accepted-only : (a : Answer) (b : Bool) → judged a b ≡ Ok Accepted → (a ≡ Done) × (b ≡ true)
accepted-only (Ok _) true e = (refl, refl)
accepted-only (Ok _) false e = let z : ◌≡◌ {A = ℕ} 0 1 = cc in absurd (omega arith)
accepted-only (Err r) b e = let z : ◌≡◌ {A = ℕ} 0 1 = cc in absurd (omega arith)

rejected-only : (a : Answer) (b : Bool) → judged a b ≡ Ok Rejected → (a ≡ Done) × (b ≡ false)
rejected-only (Ok _) true e = let z : ◌≡◌ {A = ℕ} 0 1 = cc in absurd (omega arith)
rejected-only (Ok _) false e = (refl, refl)
rejected-only (Err r) b e = let z : ◌≡◌ {A = ℕ} 0 1 = cc in absurd (omega arith)

-- a test that is not true
not-true : (b : Bool) → (b ≡ true → ⊥) → b ≡ false
not-true true h = absurd (h refl)
not-true false h = refl

-- a refusal of verify is the answer's
refused-only : (a : Answer) (b : Bool) (k : Refusal) → judged a b ≡ Err k → a ≡ Err k
refused-only (Ok _) b k e = let z : ◌≡◌ {A = ℕ} 0 1 = cc in absurd (omega arith)
refused-only (Err r) b k e = ap (λ (k : Refusal). Err k) (same e)
  where
    same : {r k : Refusal} → ◌≡◌ {A = Result Verdict Refusal} (Err r) (Err k) → r ≡ k
    same e = cc

module _ (number : ℕ) (key : Key) (lent : KeySlices) (t q Δ masks α a : List ℕ) where
  abbrev l : Level
  l = level_at number

  abbrev answer : Answer
  answer = first_of (verify_rows l key lent t q Δ masks α a)

  abbrev holds : Bool
  holds = accepts l (system l key lent) t q Δ masks α a

  test : (holds ≡ true) ↔ AcceptsSlices l (system l key lent) t q Δ masks α a
  test = accepts-true l (system l key lent) t q Δ masks α a

  judges : {verdict : Result Verdict Refusal} → verdict ≡ judged answer holds → Judges l key lent t q Δ masks α a (verdict ≡ Ok Accepted) (verdict ≡ Ok Rejected)
  judges e = record {
    accepted = (
      λ v. let f = accepted-only answer holds (sym e ∙ v) in (f.0, test.0 f.1),
      λ f. e ∙ ap₂ judged f.0 (test.1 f.1),
    );
    rejected = (
      λ v. let f = rejected-only answer holds (sym e ∙ v) in (f.0, λ s. false≢true (sym f.1 ∙ test.1 s)),
      λ f. e ∙ ap₂ judged f.0 (not-true holds (λ s. f.1 (test.0 s))),
    );
  }

  leaning : {verdict : Result Verdict Refusal} → verdict ≡ judged answer holds → verify_leans l key lent t q Δ masks α a (verdict ≡ Err DependentRows)
  leaning e =
      let known = leans number key (long (verify_lent (lengths l key) lent t q Δ masks α a)) lent (below 1 t) (withins l (q ∷ Δ ∷ masks ∷ α ∷ a ∷ [])) Column [] tt {r = answer} refl in
      record { fifteen = (λ v. known.fifteen.0 (refused-only answer holds DependentRows (sym e ∙ v)), λ p. e ∙ ap (λ r. judged r holds) (known.fifteen.1 p)) }

  -- what is told of the answer r and of the test y gives the outcome, which judges
  pub told : {verdict : Result Verdict Refusal} {r o : Answer} {y b : Bool} → r ≡ answer → r ≡ o → y ≡ holds → y ≡ b → verdict ≡ judged o b → (verdict ≡ verify_outcome (level_at number) key lent t q Δ masks α a) × (verify_leans (level_at number) key lent t q Δ masks α a (verdict ≡ Err DependentRows) × Judges (level_at number) key lent t q Δ masks α a (verdict ≡ Ok Accepted) (verdict ≡ Ok Rejected))
  unfolding verify_outcome
  told {verdict} e p f q v = (is, (leaning is, judges is))
    where
      is : verdict ≡ judged answer holds
      is = v ∙ ap₂ judged (sym p ∙ e) (sym q ∙ f)
