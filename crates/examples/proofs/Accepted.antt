-- What prove has written is accepted, from what prove and verify promise.
use Rattle.std.specs.Prelude.{Result, Ok, Err}
use Rattle.refusal.specs.declared.Refusal.{Refusal}
use Rattle.refusal.specs.declared.Refusal.TheVariants.{Top, SpareCode}
use mathlib.Core.Path.{◌≡◌, ◌∙◌, ap}
use mathlib.Core.List.{List}
use Prim.Native.Nat.{ℕ}
use Rattle.refusal.specs.Answer.{Answer, Done}
use Rattle.refusal.specs.declared.Verdict.{Verdict}
use Rattle.refusal.specs.declared.Verdict.TheVariants.{Accepted}
use Rattle.refusal.proofs.Answers.{both_done}
use Rattle.field.specs.Level.{level_at}
use Rattle.key.specs.declared.Key.{Key}
use Rattle.key.specs.Key.{KeySlices, codes_of, spare_row}
use Rattle.prover.specs.Entry.{rows_to7, prove_outcome}
use Rattle.prover.specs.Solved.{Solved}
use Rattle.verifier.specs.Entry.{verify_outcome}
use Rattle.verifier.specs.Complete.{HonestVerifier}
use Rattle.verifier.proofs.Completeness.{completeness}

pub accepted : (number : ℕ) (key : Key) (lent : KeySlices) (positions u v r s α t a q Δ masks : List ℕ) {answer : Answer} {t' a' : List ℕ} {verdict : Result Verdict Refusal}
    → (answer, (t', a')) ≡ prove_outcome (level_at number) key lent positions u v r s α t a → Solved (level_at number) key lent positions u v r s α t a (answer ≡ Done) (answer ≡ (Err Top)) (answer ≡ (Err SpareCode)) → verdict ≡ verify_outcome (level_at number) key lent t' q Δ masks α a'
    → answer ≡ Done → HonestVerifier (level_at number) key lent u v r s q Δ masks → verdict ≡ Ok Accepted
accepted number key lent positions u v r s α t a q Δ masks e p f done honest =
    let known = p.done.0 done in
    let to7 = (both_done (rows_to7 (level_at number) key lent positions u v r s α t a) (spare_row (codes_of key.n positions)) known.0).0 in
    f ∙ ap (λ (o : Answer × (List ℕ × List ℕ)). verify_outcome (level_at number) key lent o.1.0 q Δ masks α o.1.1) e
    ∙ (completeness number key lent positions u v r s α t a q Δ masks to7 known.1 honest).accepted
