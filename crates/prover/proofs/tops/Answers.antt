use mathlib.Core.Path.{◌≡◌, sym, subst, ◌∙◌}
use Prim.Native.Nat.{ℕ, ◌+◌, ◌*◌, ◌^◌, ◌≤◌, ◌<◌}
use native.Mathlib.Omega.{arith}
use lib.ListN.{length}
use Rattle.field.specs.Level.{FIRST, level_at}
use Rattle.field.proofs.Fields.{bounded}
use Rattle.row.specs.Elements.{el, Fits}
use Rattle.row.specs.Step.{Step}
use Rattle.row.specs.declared.equations.Equations.{Equations}
use Rattle.row.proofs.ElementLaws.{fits_le}
use Rattle.row.proofs.NumberLaws.{many}
use Rattle.rows.specs.Outcome.{Tops}
use Rattle.key.specs.declared.Key.{Key}
use Rattle.key.specs.declared.Lent.{Lent}
use Rattle.constraints.specs.Lends.{Lends}
use mathlib.Core.List.{List}
use Rattle.key.specs.Key.{slices_of, degree, Sized}
use Rattle.constraints.proofs.Fine.{room}
use Rattle.prover.proofs.Fine.{elements-room}
use Rattle.prover.proofs.Weighed.{tops-same}
use Rattle.prover.proofs.tops.Goals as goal

-- room for n + m elements
elements : (key : Key) → Sized (level_at FIRST) key → {k : ℕ} → k ≡ 1524 → Fits (level_at FIRST) (key.n + key.m) k
elements key s e = fits_le (level_at FIRST) (key.n + key.m) (key.n + key.m) (omega arith) e (elements-room key s)

pub tops-requires : goal.tops-requires
tops-requires c =
    let n = c.args.lent.now.key.n in
    let s = c.requires.sized.0 in
    let r = room c.args.lent.now.key s in
    let e = c.equations.ensures in
    rw (e.level, e.d, e.n, e.m) (r.d-lt, c.requires.positions_len.0, elements c.args.lent.now.key s c.requires.positions_len.1, fits_le (level_at FIRST) (2 ^ degree n) ((degree n + 1) * 2 ^ degree n) (many (degree n) (2 ^ degree n)) c.requires.positions_len.2 r.polynomials)

pub overflow_add-lent : goal.overflow_add-lent
overflow_add-lent c = let s = c.requires.sized.0 in omega (arith, s.most, s.fewer, (bounded FIRST).most)

-- what is written, in the key's own numbers
written : {equations : Equations} {lent : Lent} (e : Lends equations lent) (positions p q : List ℕ)
    → Step (level_at equations.matrix.level) p q (λ f g. (v : List ℕ) → Tops (level_at equations.matrix.level) equations.matrix.n equations.matrix.m equations.matrix.d equations.matrix.h.now equations.matrix.x.now equations.y.now positions v g)
    → Step (level_at FIRST) p q (λ f g. (v : List ℕ) → Tops (level_at FIRST) lent.key.n lent.key.m (degree lent.key.n) lent.h.now lent.x.now lent.y.now positions v g)
written e positions p q w = coe 0 1 (i. Step (level_at (e.level i)) p q (λ f g. (v : List ℕ) → Tops (level_at (e.level i)) (e.n i) (e.m i) (e.d i) (e.h i) (e.x i) (e.y i) positions v g)) w

pub nonzero-requires : goal.nonzero-requires
nonzero-requires c =
    let key = c.args.lent.now.key in
    let w = written c.equations.ensures c.args.positions.now c.args.p.now c.tops.new.dst c.tops.ensures in
    (w.words, fits_le (level_at FIRST) _ (key.n + key.m) (omega (arith, c.requires.sized.0.two)) w.same (elements key c.requires.sized.0 c.requires.positions_len.1))

pub returns : goal.returns
returns c v =
    let a = c.args in
    let o = (written c.equations.ensures a.positions.now a.p.now c.tops.new.dst c.tops.ensures).holds v in
    c.nonzero.ensures ∙ tops-same (level_at FIRST) a.lent.now.key.n a.lent.now.key.m (slices_of a.lent.now) a.positions.now v c.tops.new.dst o.columns o.checks
