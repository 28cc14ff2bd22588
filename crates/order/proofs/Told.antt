-- What quick_look's answer tells, proved.
use Rattle.std.specs.Prelude.{Result, Ok, Err, Option, Some, None}
use Rattle.refusal.specs.declared.Refusal.TheVariants.{SizeN, SliceLength}
use mathlib.Core.Path.{◌≡◌, refl, sym, ap, ◌∙◌, subst}
use mathlib.Core.Bool.{Bool, true, false, not, cond, ◌||◌, ◌&&◌, false≢true}
use mathlib.Core.Logic.Iff
use mathlib.Core.Logic.{◌↔◌}
use mathlib.Core.List.{List, [], ◌∷◌}
use Prim.Native.Nat.{ℕ, ◌+◌, ◌^◌, ◌≤◌, ◌<◌}
use native.Mathlib.Decide.{dec_lt}
use native.Mathlib.Omega.{arith}
use borrow.Author.Tests.{lt-ltb, le-ltb, eq-eqb, ne_eqb, ltb-true, ltb-false, not-false}
use lib.Dec.{ltb, eqb}
use lib.ListN.{length}
use Rattle.lists.specs.Lent.{long}
use Rattle.lists.specs.Count.{count}
use Rattle.lists.proofs.Count.{count_none, count_at}
use Rattle.lists.proofs.Lent.{each_long}
use Rattle.refusal.specs.Answer.{first_of, written, Answer, Done}
use Rattle.refusal.specs.declared.Refusal.{Refusal}
use Rattle.refusal.proofs.Answers.{none}
use Rattle.field.specs.declared.Level.{Level}
use Rattle.field.specs.Level.{K, level_at}
use Rattle.field.proofs.Fields.{bounded}
use Rattle.key.specs.declared.Key.{Key}
use Rattle.key.specs.declared.Code.{Code}
use Rattle.key.specs.declared.Code.TheVariants.{Column, Spare, TooLarge}
use Rattle.key.specs.Key.{KeySlices, degree, lengths, below, withins, code_of, codes_of, is_too_large}
use Rattle.key.proofs.Sized.{degree-fits}
use Rattle.key.proofs.Codes.{code-column, codes_lt, columns}
use Rattle.key.proofs.Checked.{checked}
use Rattle.constraints.specs.Graded.{top}
use Rattle.constraints.specs.System.{polynomial}
use Rattle.constraints.specs.Digits.{column, constraint}
use Rattle.constraints.specs.Order.{Order, Solves}
use Rattle.constraints.specs.Slices.{elements, polynomial_at, masked_bytes, polynomial_words, key_of, system_of, position_at, witness_of}
use Rattle.constraints.specs.Entry.{constraints_lent, constraints_rows, constraints_outcome}
use Rattle.constraints.proofs.Join.{join-left}
use Rattle.constraints.proofs.Fine.{constraints_fine}
use Rattle.constraints.proofs.Truth.{tops_solve, polynomial-written}
use Rattle.order.specs.Entry.{no_column, among, offends, first_offender, looked_at, looked_as, look_rows, look_outcome}
use Rattle.order.specs.Tells.{Fits, IsFirst, NoneTooLarge, ColumnTopsZero, Tells}
use Rattle.order.proofs.First.{Found, found}
use Rattle.order.proofs.Distinct.{order-distinct}

-- columns are below n
column-below : (n p : ℕ) → code_of n p ≡ Column → p < n
unfolding code_of
column-below n p e = go (ltb p n) (ltb p (2 ^ degree n)) refl e
  where
    go : (b c : Bool) → ltb p n ≡ b → cond b Column (cond c Spare TooLarge) ≡ Column → p < n
    go true c f g = ltb-true p n f
    go false true f g = absurd (false≢true (sym (ap no_column g)))
    go false false f g = absurd (false≢true (sym (ap no_column g)))

-- the case of an answer, and the index that it has
abbrev pub is_well : Result (Option ℕ) Refusal → Bool
is_well (Ok None) = true
is_well (Ok (Some i)) = false
is_well (Err q) = false

abbrev is_offender : Result (Option ℕ) Refusal → Bool
is_offender (Ok None) = false
is_offender (Ok (Some i)) = true
is_offender (Err q) = false

abbrev index_of : Option ℕ → ℕ
index_of None = 0
index_of (Some i) = i

-- past the refusals
answered : {x y : Option ℕ} → ◌≡◌ {A = Result (Option ℕ) Refusal} (Ok x) (Ok y) → x ≡ y
answered e = cc

as_answer : {x y : Option ℕ} → x ≡ y → ◌≡◌ {A = Result (Option ℕ) Refusal} (Ok x) (Ok y)
as_answer e = ap (λ (x : Option ℕ). Ok x) e

as_well : (a : Answer) (x : Option ℕ) → (looked_as a x ≡ Ok None) ↔ ((a ≡ Done) × (x ≡ None))
as_well (Ok _) x = (λ e. (refl, answered e), λ e. as_answer e.1)
as_well (Err q) x = (λ e. absurd (false≢true (ap is_well e)), λ e. ap (λ a. looked_as a x) e.0 ∙ as_answer e.1)

as_offender : (a : Answer) (x : Option ℕ) (i : ℕ) → (looked_as a x ≡ Ok (Some i)) ↔ ((a ≡ Done) × (x ≡ Some i))
as_offender (Ok _) x i = (λ e. (refl, answered e), λ e. as_answer e.1)
as_offender (Err q) x i = (λ e. absurd (false≢true (ap is_offender e)), λ e. ap (λ a. looked_as a x) e.0 ∙ as_answer e.1)

module _ (n : ℕ) (positions : List ℕ) where
  -- what fits is no offender
  fits-none : (i : ℕ) → Fits n positions i → offends n positions i ≡ false
  unfolding offends
  fits-none i (e, h) = ap (λ c. no_column c || among positions i (position_at positions i)) e
      ∙ ap (ltb 0) (count_none i (λ h. eqb (position_at positions h) (position_at positions i)) (λ k l. ne_eqb (position_at positions k) (position_at positions i) (h k l)))

  none-fits : (i : ℕ) → offends n positions i ≡ false → Fits n positions i
  unfolding offends
  none-fits i e = go (code_of n (position_at positions i)) refl e
    where
      go : (c : Code) → code_of n (position_at positions i) ≡ c → (no_column c || among positions i (position_at positions i)) ≡ false → Fits n positions i
      go Column f g = (f, λ h l same. omega (arith, count_at i (λ h. eqb (position_at positions h) (position_at positions i)) h l (eq-eqb (position_at positions h) (position_at positions i) same), ltb-false 0 (count i (λ h. eqb (position_at positions h) (position_at positions i))) g))
      go Spare f g = absurd (false≢true (sym g))
      go TooLarge f g = absurd (false≢true (sym g))

  -- an order is where all fit
  all_fit : Order n (position_at positions) ↔ ((i : ℕ) → i < n → Fits n positions i)
  all_fit =
      let d = order-distinct (position_at positions) n in (
        λ o i l. let b = d.0 o in (code-column n (position_at positions i) (b.0 i l), λ h k. b.1 h i k l),
        λ f. d.1 (λ i l. column-below n (position_at positions i) (f i l).0, λ i k l q. (f k q).1 i l),
      )

  abbrev f : ℕ
  f = first_offender n positions

  F : Found (offends n positions) 0 n (first_offender n positions)
  F = found (offends n positions) 0 n

  -- where it is one, the index found is that of the first offender
  found_first : first_offender n positions < n → IsFirst n positions (first_offender n positions)
  found_first l = (l, (λ h k. none-fits h (F.before h (omega arith) k)), λ fit. false≢true (sym (fits-none f fit) ∙ F.passes (omega arith)))

  first_found_lem : (i : ℕ) → IsFirst n positions i → first_offender n positions ≡ i
  first_found_lem i (l, before, misfit) = go (dec_lt (first_offender n positions) i) (dec_lt i (first_offender n positions))
    where
      go : Dec (first_offender n positions < i) → Dec (i < first_offender n positions) → first_offender n positions ≡ i
      go (yes k) h = absurd (false≢true (sym (fits-none f (before f k)) ∙ F.passes (omega arith)))
      go (no g) (yes k) = absurd (misfit (none-fits i (F.before i (omega arith) k)))
      go (no g) (no h) = omega arith

  well_order : (looked_at n (first_offender n positions) ≡ None) ↔ Order n (position_at positions)
  well_order = (λ e. all_fit.1 (λ i l. none-fits i (F.before i (omega arith) (omega (arith, last (ltb f n) refl e)))), λ o. ap (λ b. cond b (Some f) None) (le-ltb f n (past (all_fit.0 o) (dec_lt f n))))
    where
      last : (b : Bool) → ltb (first_offender n positions) n ≡ b → cond b (Some (first_offender n positions)) None ≡ None → n ≤ first_offender n positions
      last true g e = absurd (false≢true (ap is_well (as_answer e)))
      last false g e = ltb-false f n g

      past : ((i : ℕ) → i < n → Fits n positions i) → Dec (first_offender n positions < n) → n ≤ first_offender n positions
      past fit (yes l) = absurd ((found_first l).2 (fit f l))
      past fit (no g) = omega arith

  offender_first : (i : ℕ) → (looked_at n (first_offender n positions) ≡ Some i) ↔ IsFirst n positions i
  offender_first i = (λ e. there (ltb f n) refl e, λ z. let e = first_found_lem i z in ap (λ b. cond b (Some f) None) (lt-ltb f n (omega (arith, e, z.0))) ∙ ap (λ (i : ℕ). Some i) e)
    where
      there : (b : Bool) → ltb (first_offender n positions) n ≡ b → cond b (Some (first_offender n positions)) None ≡ Some i → IsFirst n positions i
      there true g e = subst (IsFirst n positions) (ap index_of e) (found_first (ltb-true f n g))
      there false g e = absurd (false≢true (ap is_offender (as_answer e)))

-- columns are made of n and the positions alone
module _ (l : Level) (n m : ℕ) (lent : KeySlices) (positions v : List ℕ) where
  column_alone : (j : ℕ) → j < n
      → polynomial (system_of l n m lent) (witness_of n positions) (elements l (degree n) v) j ≡ polynomial (system_of l n 0 lent) (witness_of n positions) (elements l (degree n) v) j
  unfolding polynomial constraint column
  column_alone j h = join-left n _ _ j h ∙ sym (join-left n _ _ j h)

-- an equivalence under what both sides need, and three in a row
under : {A B D : Type 0} → (D → A ↔ B) → (D × A) ↔ (D × B)
under a = (λ x. (x.0, (a x.0).0 x.1), λ x. (x.0, (a x.0).1 x.1))

three : {A B C : Type 0} → (A × (B × C)) ↔ (A × B × C)
three = (λ x. (x.0, x.1.0, x.1.1), λ x. (x.0, (x.1, x.2)))

-- what holds past the refusals
pub record Fine (l : Level) (n : ℕ) (positions : List ℕ) : Type 0 where
  pub two : 2 ≤ n
  pub most : n ≤ l.most
  pub positions-length : length positions ≡ n

pub fine : (l : Level) (n : ℕ) (positions : List ℕ) → first_of (look_rows l n positions) ≡ Done → Fine l n positions
fine l n positions e =
    let r = none (look_rows l n positions) e in
    record { two = ltb-false n 2 r.0; most = ltb-false l.most n r.1.0; positions-length = (each_long ((positions, n) ∷ []) (not-false (long ((positions, n) ∷ [])) r.1.1.0)).0 }

pub fine-done : (l : Level) (n : ℕ) (positions : List ℕ) → Fine l n positions → first_of (look_rows l n positions) ≡ Done
fine-done l n positions z = λ t. first_of ((le-ltb n 2 z.two t, SizeN) ∷ (le-ltb l.most n z.most t, SizeN) ∷ (not (eq-eqb (length positions) n z.positions-length t && true), SliceLength) ∷ [])

module _ (number n : ℕ) (positions : List ℕ) where
  abbrev l : Level
  l = level_at number

  -- the columns' tops are zero exactly when positions of which none is too large are an order
  tops-order : Fine (level_at number) n positions → (m : ℕ) (lent : KeySlices) (v : List ℕ)
      → Order n (position_at positions) ↔ (NoneTooLarge n positions × ColumnTopsZero (level_at number) n (polynomial_words (level_at number) (system_of (level_at number) n m lent) (witness_of n positions) v))
  tops-order z m lent v = (λ o. (ap is_too_large (columns n fits positions (λ k h. below o k (omega (arith, z.positions-length)))), λ j h. ap (top (K l) (degree n)) (as_written j h) ∙ (solve (λ i h. omega (arith, below o i h, fits))).1 (o, λ e h. absurd (omega arith)) j (omega arith)), λ t. ((solve (λ i h. codes_lt n fits positions t.0 i)).0 (λ j h. ap (top (K l) (degree n)) (sym (as_written j (omega arith))) ∙ t.1 j (omega arith))).0)
    where
      fits : n ≤ 2 ^ degree n
      fits = degree-fits n (omega (arith, z.most, (bounded number).most))

      below : Order n (position_at positions) → (i : ℕ) → i < n → position_at positions i < n
      below o = ((order-distinct (position_at positions) n).0 o).0

      as_written : (j : ℕ) → j < n → polynomial_at (level_at number) (degree n) (polynomial_words (level_at number) (system_of (level_at number) n m lent) (witness_of n positions) v) j ≡ polynomial (system_of (level_at number) n 0 lent) (witness_of n positions) (elements (level_at number) (degree n) v) j
      as_written j h = polynomial-written l (system_of l n m lent) (witness_of n positions) v j (omega arith) ∙ column_alone l n m lent positions v j h

      solve : ((i : ℕ) → i < n → position_at positions i < 2 ^ degree n) → ((j : ℕ) → j < n + 0 → top (K (level_at number)) (degree n) (polynomial (system_of (level_at number) n 0 lent) (witness_of n positions) (elements (level_at number) (degree n) v) j) ≡ (K (level_at number)).zero)
          ↔ (Order n (position_at positions) × Solves (key_of (level_at number) n 0 lent) (position_at positions))
      solve small = let b = bounded number in tops_solve l b.width b.coordinates n 0 lent (omega (arith, b.most, z.most)) positions small v

  -- what constraints leaves where it is done
  constraints_left : (m : ℕ) (lent : KeySlices) (u v t q : List ℕ) → let key : Key = record { n = n; m = m } in first_of (constraints_rows (level_at number) key lent positions u v t q) ≡ Done
      → (constraints_outcome (level_at number) key lent positions u v t q).1.1 ≡ polynomial_words (level_at number) (system_of (level_at number) n m lent) (witness_of n positions) v
  unfolding constraints_outcome
  constraints_left m lent u v t q e = ap (λ (a : Answer). (written {A = List ℕ × List ℕ} a (masked_bytes (system_of l n m lent) (witness_of n positions) u, polynomial_words l (system_of l n m lent) (witness_of n positions) v) (t, q)).1) e

  -- the answer, past the refusals
  looked_order : (look_outcome (level_at number) n positions ≡ Ok None) ↔ ((first_of (look_rows (level_at number) n positions) ≡ Done) × Order n (position_at positions))
  unfolding look_outcome
  looked_order = Iff.trans (as_well (first_of (look_rows (level_at number) n positions)) (looked_at n (first_offender n positions))) (under (λ d. well_order n positions))

  looked_first : (i : ℕ) → (look_outcome (level_at number) n positions ≡ Ok (Some i)) ↔ ((first_of (look_rows (level_at number) n positions) ≡ Done) × IsFirst n positions i)
  unfolding look_outcome
  looked_first i = Iff.trans (as_offender (first_of (look_rows (level_at number) n positions)) (looked_at n (first_offender n positions)) i) (under (λ d. offender_first n positions i))

  -- where constraints is done, none is too large and no refusal applies here
  done-fine : (m : ℕ) (lent : KeySlices) (u v t q : List ℕ) → first_of (constraints_rows (level_at number) (record { n = n; m = m }) lent positions u v t q) ≡ Done → Fine (level_at number) n positions × NoneTooLarge n positions
  done-fine m lent u v t q e =
      let key : Key = record { n = n; m = m } in
      let c = constraints_fine number key lent positions u v t q e in
      let k = checked l key (long (constraints_lent (lengths l key) lent positions u v t q)) lent (below 1 u) (withins l (v ∷ [])) (codes_of n positions) e in
      (record { two = c.is-sized.two; most = c.is-sized.most; positions-length = c.positions-length }, k.positions-fine)

  pub tells : {IsWell : Type 0} {IsOffender : ℕ → Type 0} → (IsWell ↔ (look_outcome (level_at number) n positions ≡ Ok None)) → ((i : ℕ) → IsOffender i ↔ (look_outcome (level_at number) n positions ≡ Ok (Some i))) → Tells (level_at number) n positions IsWell IsOffender
  tells well offender = record {
    order = Iff.trans well looked_order;
    first = λ i. Iff.trans (offender i) (looked_first i);
    tops = λ m lent v. Iff.trans well (Iff.trans looked_order (Iff.trans (under (λ d. tops-order (fine (level_at number) n positions d) m lent v)) three));
    left = λ m lent u v t q e. Iff.trans well (Iff.trans looked_order (settled m lent u v t q e));
  }
    where
      settled : (m : ℕ) (lent : KeySlices) (u v t q : List ℕ) → first_of (constraints_rows (level_at number) (record { n = n; m = m }) lent positions u v t q) ≡ Done
          → ((first_of (look_rows (level_at number) n positions) ≡ Done) × Order n (position_at positions)) ↔ ColumnTopsZero (level_at number) n (constraints_outcome (level_at number) (record { n = n; m = m }) lent positions u v t q).1.1
      settled m lent u v t q e =
          let z = done-fine m lent u v t q e in
          let o = tops-order z.0 m lent v in
          let is = constraints_left m lent u v t q e in
          (λ x. subst (ColumnTopsZero (level_at number) n) (sym is) (o.0 x.1).1, λ x. (fine-done (level_at number) n positions z.0, o.1 (z.1, subst (ColumnTopsZero (level_at number) n) is x)))

  -- the outcome of what is found
  pub outcome-found : {a : Answer} {x : Option ℕ} → a ≡ first_of (look_rows (level_at number) n positions) → a ≡ Done → x ≡ looked_at n (first_offender n positions) → Ok x ≡ look_outcome (level_at number) n positions
  unfolding look_outcome
  outcome-found e d g = as_answer g ∙ ap (λ a. looked_as a (looked_at n (first_offender n positions))) (sym d ∙ e)

  -- both promises of an answer
  pub promised : {r : Result (Option ℕ) Refusal} → r ≡ look_outcome (level_at number) n positions → (r ≡ look_outcome (level_at number) n positions) × Tells (level_at number) n positions (r ≡ Ok None) (λ i. r ≡ Ok (Some i))
  promised e = (e, tells (λ d. sym e ∙ d, λ d. e ∙ d) (λ i. (λ d. sym e ∙ d, λ d. e ∙ d)))
