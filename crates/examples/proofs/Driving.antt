-- Looking before proving, of the contracts and the laws.
use Rattle.refusal.specs.declared.Refusal.{Refusal}
use Rattle.std.specs.Prelude.{Option, Some, None, Result, Ok, Err}
use Rattle.refusal.specs.declared.Refusal.TheVariants.{SliceLength, KeyElement, Bit, Coordinate, Position, DependentRows, SpareCode}
use mathlib.Core.Path.{◌≡◌, refl, sym, ap, ◌∙◌}
use mathlib.Core.Bool.{Bool, not, false≢true}
use mathlib.Core.List.{List, [], ◌∷◌, ◌++◌}
use Prim.Native.Nat.{ℕ}
use native.Mathlib.Omega.{arith}
use borrow.Author.Tests.{not-false, ltb-false}
use Rattle.lists.specs.Lent.{long}
use Rattle.lists.proofs.Lent.{each_long}
use Rattle.refusal.specs.Answer.{number as code, first_of, Answer, Done}
use Rattle.refusal.proofs.Answers.{none}
use Rattle.field.specs.declared.Level.{Level}
use Rattle.field.specs.Level.{level_at}
use Rattle.field.proofs.Fields.{bounded}
use Rattle.elimination.specs.Rank.{short}
use Rattle.key.specs.declared.Key.{Key}
use Rattle.key.specs.Key.{KeySlices, lengths, sizes, key_within, below, withins, codes_of, is_too_large, is_spare, spare_row}
use Rattle.key.proofs.Sized.{degree-fits}
use Rattle.key.proofs.Codes.{columns, code-column}
use Rattle.key.proofs.Leans.{Others, decides}
use Rattle.constraints.specs.Order.{Order}
use Rattle.constraints.specs.Slices.{position_at}
use Rattle.constraints.proofs.Count.{order_below}
use Rattle.prover.specs.Entry.{prove_lent, prove_rows, tops_row, prove_outcome}
use Rattle.prover.proofs.Fine.{passed_fine}
use Rattle.prover.proofs.Solved.{solved}
use Rattle.order.specs.Tells.{Tells}
use Rattle.order.proofs.Told.{fine-done}

module _ (number : ℕ) (key : Key) (lent : KeySlices) (positions u v r s α t a : List ℕ) where
  abbrev l : Level
  l = level_at number

  -- the answer by the rows
  answered : {o : Answer} {left : List ℕ × List ℕ} → (o, left) ≡ prove_outcome (level_at number) key lent positions u v r s α t a → o ≡ first_of (prove_rows (level_at number) key lent positions u v r s α t a ++ tops_row (level_at number) key lent positions v)
  unfolding prove_outcome
  answered e = ap (λ (o : Answer × (List ℕ × List ℕ)). o.0) e

  -- where prove is done all is well
  pub done_well : {k : Result (Option ℕ) Refusal} → Tells (level_at number) key.n positions (k ≡ Ok None) (λ i. k ≡ Ok (Some i)) → (prove_outcome (level_at number) key lent positions u v r s α t a).0 ≡ Done → k ≡ Ok None
  unfolding prove_outcome
  done_well told d =
      let z = (solved number key lent positions u v r s α t a refl).done.0 d in
      let f = passed_fine number key lent positions u v r s α t a z.0 in
      told.order.1 (fine-done l key.n positions (record { two = f.is-sized.two; most = f.is-sized.most; positions-length = f.positions-length }), z.1.0)

  -- the rows before that of 7
  abbrev before : List (Bool × Refusal)
  before = sizes l key ++ ((not (long (prove_lent (lengths l key) lent positions u v r s α t a)), SliceLength) ∷ (not (key_within l lent), KeyElement) ∷ (short l key.n key.m lent.h, DependentRows) ∷ (not (below 1 u), Bit) ∷ (not (withins l (v ∷ r ∷ s ∷ α ∷ [])), Coordinate) ∷ [])

  -- of an order it never answers 7 or 16
  module _ (is : Order key.n (position_at positions)) {o : Answer} {left : List ℕ × List ℕ} (e : (o, left) ≡ prove_outcome (level_at number) key lent positions u v r s α t a) where
    pub not_seven : o ≡ (Err Position) → ⊥
    not_seven d =
        let c = codes_of key.n positions in
        let b = decides before (is_too_large c) Position (spare_row c ++ tops_row l key lent positions v) no_7 (λ z. omega (arith, ap code z), (λ z. omega (arith, ap code z), tt)) (sym (answered e) ∙ d) in
        let f = none before b.0 in
        let long = (each_long (prove_lent (lengths l key) lent positions u v r s α t a) (not-false _ f.1.1.1.1.0)).1.1.1.0 in
        let fits = degree-fits key.n (omega (arith, ltb-false l.most key.n f.1.0, (bounded number).most)) in
        false≢true (sym (ap is_too_large (columns key.n fits positions (λ i h. order_below (position_at positions) key.n is i (omega (arith, long))))) ∙ b.1)
      where
        no_7 : Others Position before
        no_7 = (λ z. omega (arith, ap code z), (λ z. omega (arith, ap code z), (λ z. omega (arith, ap code z), (λ z. omega (arith, ap code z), (λ z. omega (arith, ap code z), (λ z. omega (arith, ap code z), (λ z. omega (arith, ap code z), (λ z. omega (arith, ap code z), (λ z. omega (arith, ap code z), tt)))))))))

    pub not-sixteen : o ≡ (Err SpareCode) → ⊥
    not-sixteen d =
        let at = ((solved number key lent positions u v r s α t a (answered e)).sixteen.0 d).1 in
        false≢true (ap is_spare (sym (code-column key.n (position_at positions at.0) (order_below (position_at positions) key.n is at.0 at.1)) ∙ at.2))
