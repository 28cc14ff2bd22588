use Rattle.field.specs.declared.Level.{Level}
use mathlib.Core.Bool.{true, false, not}
use mathlib.Core.List.{List, []}
use borrow.Author.Tests.{eq-eqb, ne_eqb}
use Rattle.refusal.specs.declared.Refusal.TheVariants.{SliceLength, Coordinate}
use Rattle.refusal.specs.Answer.{first_of}
use Rattle.refusal.proofs.Answers.{pass, stop}
use Rattle.field.specs.Level.{FIRST, first, level_at}
use Rattle.arithmetic.specs.Entry.{long, rows}
use Rattle.field.proofs.Tested.{fine, above}
use Rattle.arithmetic.proofs.Lent.{rows1, rows2, rows3, rows4}
use Prim.Native.Nat.{ℕ}
use mathlib.Core.Path.{◌≡◌, sym, ap, ◌∙◌}
use lib.ListN.{length}
use Rattle.arithmetic.proofs.refused.Goals as goal

-- a slice that is long enough, or not
same : (s : List ℕ) {l : Level} → l ≡ level_at FIRST → length s ≡ l.coordinates → not (long s) ≡ false
unfolding level_at
same s e h = ap not (eq-eqb (length s) first.coordinates (h ∙ ap (λ (l : Level). l.coordinates) e))

other : (s : List ℕ) {l : Level} → l ≡ level_at FIRST → (length s ≡ l.coordinates → ⊥) → not (long s) ≡ true
unfolding level_at
other s e h = ap not (ne_eqb (length s) first.coordinates (λ n. h (n ∙ sym (ap (λ (l : Level). l.coordinates) e))))

-- the rows that are left where each length has been passed
module _ (a b out : List ℕ) {l : Level} (e : l ≡ level_at FIRST) where
  long-past : length a ≡ l.coordinates → length b ≡ l.coordinates → length out ≡ l.coordinates → first_of (rows a b out) ≡ first_of (rows3 a b out)
  long-past la lb lo = pass SliceLength (rows1 a b out) (same a e la) ∙ pass SliceLength (rows2 a b out) (same b e lb) ∙ pass SliceLength (rows3 a b out) (same out e lo)

pub returns-then-a-coordinates : goal.returns-then-a-coordinates
returns-then-a-coordinates c = let p = c.args in sym (stop SliceLength (rows1 p.a.now p.b.now p.out.now) (other p.a.now c.of-level.ensures c.if-a-coordinates.true))

pub returns-then-excess-ne0 : goal.returns-then-excess-ne0
unfolding level_at
returns-then-excess-ne0 c =
    let p = c.args in
    sym (long-past p.a.now p.b.now p.out.now c.of-level.ensures c.if-a-coordinates.false c.if-b-coordinates.false c.if-out-coordinates.false ∙ stop Coordinate (rows4 p.a.now p.b.now p.out.now) (above c.excess.ensures c.if-excess-ne0.true))

pub returns-then-excess-ne0-2 : goal.returns-then-excess-ne0-2
unfolding level_at
returns-then-excess-ne0-2 c =
    let p = c.args in
    sym (long-past p.a.now p.b.now p.out.now c.of-level.ensures c.if-a-coordinates.false c.if-b-coordinates.false c.if-out-coordinates.false ∙ pass Coordinate (rows4 p.a.now p.b.now p.out.now) (fine c.excess.ensures c.if-excess-ne0.false) ∙ stop Coordinate [] (above c.excess-2.ensures c.if-excess-ne0-2.true))

pub returns : goal.returns
unfolding level_at
returns c =
    let p = c.args in
    sym (long-past p.a.now p.b.now p.out.now c.of-level.ensures c.if-a-coordinates.false c.if-b-coordinates.false c.if-out-coordinates.false ∙ pass Coordinate (rows4 p.a.now p.b.now p.out.now) (fine c.excess.ensures c.if-excess-ne0.false) ∙ pass Coordinate [] (fine c.excess-2.ensures c.if-excess-ne0-2.false))
