-- What values has written where its answer is Done.
use mathlib.Core.Path.{◌≡◌}
use mathlib.Core.List.{List}
use Prim.Native.Nat.{ℕ}
use Rattle.refusal.specs.Answer.{Answer, Done}
use Rattle.refusal.proofs.Answers.{result_of}
use Rattle.field.specs.declared.Level.{Level}
use Rattle.key.specs.declared.Key.{Key}
use Rattle.key.specs.Key.{KeySlices}
use Rattle.constraints.specs.Slices.{value_words}
use Rattle.constraints.specs.Entry.{values_rows, values_outcome, system}

pub values-done : (l : Level) (key : Key) (lent : KeySlices) (t q Δ old : List ℕ) {r : Answer} {s : List ℕ} → (r, s) ≡ values_outcome l key lent t q Δ old → r ≡ Done → s ≡ value_words l (system l key lent) t q Δ
unfolding values_outcome
values-done l key lent t q Δ old e d = result_of (values_rows l key lent t q Δ old) (value_words l (system l key lent) t q Δ) old e d
