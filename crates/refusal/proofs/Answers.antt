-- Laws of the first row that applies.
use mathlib.Core.Path.{◌≡◌, refl, sym, ap, ap₂, ◌∙◌}
use mathlib.Core.Bool.{Bool, true, false}
use mathlib.Core.List.{List, [], ◌∷◌, ◌++◌}
use Prim.Native.Nat.{ℕ}
use native.Mathlib.Omega.{arith}
use Rattle.std.specs.Prelude.{Result, Ok, Err}
use Rattle.refusal.specs.declared.Refusal.{Refusal}
use Rattle.refusal.specs.Answer.{Answer, Done, first_of, written, decided, number_of, numbered}

-- none of the rows applies
abbrev pub None : List (Bool × Refusal) → Type 0
None [] = Unit {0}
None ((b, k) ∷ rows) = (b ≡ false) × None rows

pub none : (rows : List (Bool × Refusal)) → first_of rows ≡ Done → None rows
none [] e = tt
none ((false, k) ∷ rows) e = (refl, none rows e)
none ((true, k) ∷ rows) e = let z : ◌≡◌ {A = ℕ} 0 1 = cc in absurd (omega arith)

-- a row that does not apply is passed over, and the first that applies decides
pub pass : (k : Refusal) (rows : List (Bool × Refusal)) {b : Bool} → b ≡ false → first_of ((b, k) ∷ rows) ≡ first_of rows
pass k rows e = ap (λ t. first_of ((t, k) ∷ rows)) e

pub stop : (k : Refusal) (rows : List (Bool × Refusal)) {b : Bool} → b ≡ true → first_of ((b, k) ∷ rows) ≡ Err k
stop k rows e = ap (λ t. first_of ((t, k) ∷ rows)) e

-- an answer r and what s holds, by the answer's case
module _ {A : Type 0} (rows : List (Bool × Refusal)) (result old : A) {r : Answer} (e : r ≡ first_of rows) where
  pub when_done : {s : A} → r ≡ Done → s ≡ result → (r, s) ≡ decided rows result old
  when_done {s} d h = ap₂ (λ (a : Answer) (t : A). (a, t)) e (h ∙ ap (λ a. written a result old) (sym d ∙ e))

  pub when_refused : {k : Refusal} → r ≡ Err k → (r, old) ≡ decided rows result old
  when_refused d = ap₂ (λ (a : Answer) (t : A). (a, t)) e (ap (λ a. written a result old) (sym d ∙ e))

-- the same outcome, with the answer's number k
pub when_numbered : {A : Type 0} {r : Answer} {s : A} {o : Answer × A} {k : ℕ} → (r, s) ≡ o → k ≡ number_of r → (k, s) ≡ numbered o
when_numbered {s = s} e h = ap (λ n. (n, s)) h ∙ ap numbered e

-- rows after rows
pub after-done : (rows others : List (Bool × Refusal)) → first_of rows ≡ Done → first_of (rows ++ others) ≡ first_of others
after-done [] others e = refl
after-done ((false, k) ∷ rows) others e = after-done rows others e
after-done ((true, k) ∷ rows) others e = let z : ◌≡◌ {A = ℕ} 0 1 = cc in absurd (omega arith)

pub after-refused : (rows others : List (Bool × Refusal)) {r : Answer} {k : Refusal} → r ≡ first_of rows → r ≡ Err k → r ≡ first_of (rows ++ others)
after-refused [] others e h = let z : ◌≡◌ {A = ℕ} 0 1 = cc in absurd (omega arith)
after-refused ((false, k) ∷ rows) others e h = after-refused rows others e h
after-refused ((true, k) ∷ rows) others e h = e

-- where none of both applies
pub both_done : (rows others : List (Bool × Refusal)) → first_of (rows ++ others) ≡ Done → (first_of rows ≡ Done) × (first_of others ≡ Done)
both_done [] others e = (refl, e)
both_done ((false, k) ∷ rows) others e = both_done rows others e
both_done ((true, k) ∷ rows) others e = let z : ◌≡◌ {A = ℕ} 0 1 = cc in absurd (omega arith)

-- no answer is both
pub not_both : {r : Answer} {k : Refusal} → r ≡ Done → r ≡ Err k → ⊥
not_both d e = let z : ◌≡◌ {A = ℕ} 0 1 = cc in omega arith

-- where the answer is Done, what is left is the result
pub result_of : {A : Type 0} (rows : List (Bool × Refusal)) (result old : A) {r : Answer} {s : A} → (r, s) ≡ decided rows result old → r ≡ Done → s ≡ result
result_of {A} rows result old e d = ap (λ (o : Answer × A). o.1) e ∙ ap (λ a. written a result old) (sym (ap (λ (o : Answer × A). o.0) e) ∙ d)

-- rows after rows of which none applies decide alone
pub decided-after : {A : Type 0} (rows others : List (Bool × Refusal)) (result old : A) → first_of rows ≡ Done → decided others result old ≡ decided (rows ++ others) result old
decided-after {A} rows others result old e = λ t. (sym (after-done rows others e) t, written (sym (after-done rows others e) t) result old)
