-- Prove's answer is Done exactly when the positions solve the key, and 8 exactly when they do not, past refusals 1 to 7, 15 and 16; it is 16 exactly
-- when a position is a spare code, past 1 to 7 and 15.
use Rattle.refusal.specs.declared.Refusal.{Refusal}
use Rattle.std.specs.Prelude.{Err}
use Rattle.refusal.specs.declared.Refusal.TheVariants.{Top, SpareCode}
use mathlib.Core.Path.{◌≡◌, refl, sym, ap, ◌∙◌}
use mathlib.Core.Bool.{Bool, true, false, not, false≢true}
use mathlib.Core.Logic.{◌↔◌}
use mathlib.Core.List.{List, [], ◌++◌}
use Prim.Native.Nat.{ℕ}
use native.Mathlib.Omega.{arith}
use borrow.Author.Tests.{not-false}
use Rattle.refusal.specs.Answer.{number, first_of, Answer, Done}
use Rattle.refusal.proofs.Answers.{none, pass, stop, after-done, both_done}
use Rattle.field.specs.declared.Level.{Level}
use Rattle.field.specs.Level.{level_at}
use Rattle.field.proofs.Fields.{bounded}
use Rattle.key.specs.declared.Key.{Key}
use Rattle.key.specs.declared.Code.{Code}
use Rattle.key.specs.Key.{KeySlices, codes_of, is_spare, spare_row}
use Rattle.key.proofs.Sized.{degree-fits}
use Rattle.key.proofs.Codes.{columns, some-spare, spare-told, code-column}
use Rattle.key.proofs.Leans.{Others, decides}
use Rattle.constraints.specs.Entry.{system}
use Rattle.constraints.specs.Slices.{position_at, witness_of}
use Rattle.constraints.proofs.Count.{order_below}
use Rattle.constraints.proofs.Truth.{tops_solve}
use Rattle.checkzero.specs.Slices.{tops_zero}
use Rattle.checkzero.proofs.Written.{tops-true}
use Rattle.prover.specs.Entry.{rows_to7, prove_rows, tops_row}
use Rattle.prover.specs.Solved.{SolvesKey, HasSpare, Solved, SpareNeverSolves}
use Rattle.prover.proofs.Fine.{prove_fine}

-- spare codes never solve
pub never_solves : (l : Level) → SpareNeverSolves l
never_solves l key lent positions (i, h, e) p = false≢true (ap is_spare (sym (code-column key.n (position_at positions i) (order_below (position_at positions) key.n p.0 i h)) ∙ e))

module _ (named : ℕ) (key : Key) (lent : KeySlices) (positions u v r s α t a : List ℕ) where
  abbrev l : Level
  l = level_at named

  abbrev code : Code
  code = codes_of key.n positions

  abbrev to7 : List (Bool × Refusal)
  to7 = rows_to7 l key lent positions u v r s α t a

  abbrev rows : List (Bool × Refusal)
  rows = prove_rows l key lent positions u v r s α t a

  abbrev zero-tops : Bool
  zero-tops = tops_zero l (system l key lent) (witness_of key.n positions) v

  pub solves : first_of (rows_to7 (level_at named) key lent positions u v r s α t a) ≡ Done → (tops_zero (level_at named) (system (level_at named) key lent) (witness_of key.n positions) v ≡ true) ↔ SolvesKey (level_at named) key lent positions
  solves e =
      let f = prove_fine named key lent positions u v r s α t a e in
      let b = bounded named in
      let q = tops_solve l b.width b.coordinates key.n key.m lent (omega (arith, b.most, f.is-sized.most)) positions (λ i p. f.positions-lt i) v in
      (λ z. q.0 ((tops-true l (system l key lent) (witness_of key.n positions) v).0 z), λ z. (tops-true l (system l key lent) (witness_of key.n positions) v).1 (q.1 z))

  -- 16 does not apply to positions that solve the key
  pub passes : first_of (rows_to7 (level_at named) key lent positions u v r s α t a) ≡ Done → SolvesKey (level_at named) key lent positions → first_of (prove_rows (level_at named) key lent positions u v r s α t a) ≡ Done
  passes e p =
      let f = prove_fine named key lent positions u v r s α t a e in
      let b = bounded named in
      let c = columns key.n (degree-fits key.n (omega (arith, b.most, f.is-sized.most))) positions (λ i h. order_below (position_at positions) key.n p.0 i (omega (arith, f.positions-length))) in
      after-done to7 (spare_row code) e ∙ pass SpareCode [] (ap is_spare c)

  spare : first_of (rows_to7 (level_at named) key lent positions u v r s α t a) ≡ Done → (is_spare (codes_of key.n positions) ≡ true) ↔ HasSpare key.n positions
  spare e =
      let f = prove_fine named key lent positions u v r s α t a e in
      (λ z. let i = some-spare key.n positions z in (i.0, omega (arith, i.1, f.positions-length), i.2), λ (i, h, z). spare-told key.n positions f.none-large i (omega (arith, f.positions-length)) z)

  pub solved : {o : Answer} → o ≡ first_of (prove_rows (level_at named) key lent positions u v r s α t a ++ tops_row (level_at named) key lent positions v) → Solved (level_at named) key lent positions u v r s α t a (o ≡ Done) (o ≡ Err Top) (o ≡ Err SpareCode)
  solved {o} e = record {
    done = (
      λ d. let b = both_done rows (tops_row l key lent positions v) (sym e ∙ d) in (b.0, (solves (first b.0)).0 (not-false zero-tops (none (tops_row l key lent positions v) b.1).0)),
      λ p. e ∙ after-done rows (tops_row l key lent positions v) p.0 ∙ pass Top [] (ap not ((solves (first p.0)).1 p.1)),
    );
    eight = (
      λ d. let b = decides rows (not zero-tops) Top [] no_8 tt (sym e ∙ d) in (b.0, λ z. false≢true (ap not (sym ((solves (first b.0)).1 z)) ∙ b.1)),
      λ p. e ∙ after-done rows (tops_row l key lent positions v) p.0 ∙ stop Top [] (never zero-tops (λ z. p.1 ((solves (first p.0)).0 z))),
    );
    sixteen = (
      λ d. let b = decides to7 (is_spare code) SpareCode (tops_row l key lent positions v) no_16 (λ z. omega (arith, ap number z), tt) (sym e ∙ d) in (b.0, (spare b.0).0 b.1),
      λ p. e ∙ after-done to7 (spare_row code ++ tops_row l key lent positions v) p.0 ∙ stop SpareCode (tops_row l key lent positions v) ((spare p.0).1 p.1),
    );
  }
    where
      first : first_of (prove_rows (level_at named) key lent positions u v r s α t a) ≡ Done → first_of (rows_to7 (level_at named) key lent positions u v r s α t a) ≡ Done
      first d = (both_done (rows_to7 (level_at named) key lent positions u v r s α t a) (spare_row (codes_of key.n positions)) d).0

      no_8 : Others Top (prove_rows (level_at named) key lent positions u v r s α t a)
      no_8 = (λ z. omega (arith, ap number z), (λ z. omega (arith, ap number z), (λ z. omega (arith, ap number z), (λ z. omega (arith, ap number z), (λ z. omega (arith, ap number z), (λ z. omega (arith, ap number z), (λ z. omega (arith, ap number z), (λ z. omega (arith, ap number z), (λ z. omega (arith, ap number z), (λ z. omega (arith, ap number z), (λ z. omega (arith, ap number z), tt)))))))))))

      no_16 : Others SpareCode (rows_to7 (level_at named) key lent positions u v r s α t a)
      no_16 = (λ z. omega (arith, ap number z), (λ z. omega (arith, ap number z), (λ z. omega (arith, ap number z), (λ z. omega (arith, ap number z), (λ z. omega (arith, ap number z), (λ z. omega (arith, ap number z), (λ z. omega (arith, ap number z), (λ z. omega (arith, ap number z), (λ z. omega (arith, ap number z), (λ z. omega (arith, ap number z), tt))))))))))

      never : (b : Bool) → (b ≡ true → ⊥) → not b ≡ true
      never true f = absurd (f refl)
      never false f = refl
