use Prim.Native.Nat.{ℕ, ◌-◌, ◌≤◌, ◌<◌}
use mathlib.Core.Path.{◌≡◌, refl, sym, subst}
use mathlib.Core.Bool.{false}
use native.Mathlib.Omega.{arith}
use lib.ListN.{length, get_or, replicate, length-set}
use borrow.Author.Count.{below_more}
use Rattle.field.specs.Level.{level_at}
use Rattle.field.specs.Word.{word}
use Rattle.lists.proofs.Words.{zeros}
use Rattle.field.proofs.Fields.{bounded}
use Rattle.galois.proofs.Inverse.{level_inverts}
use Rattle.elimination.specs.Rank.{eliminated}
use Rattle.elimination.specs.Steps.{entry_at}
use Rattle.elimination.proofs.First.{First}
use Rattle.elimination.proofs.Words.{word_lt, inverting}
use Rattle.elimination.proofs.Grids.{row-past, grid-words}
use Rattle.elimination.proofs.Simulation.{Matches, fits, starts, passed, some, moved, finished, fails_zero, fails_used, fits-found}
use borrow.Author.Rules.{rules}
use Rattle.elimination.proofs.eliminate.Statement.{statement}
use Rattle.elimination.proofs.eliminate.Lts.{then-used-r-eq0+else-matrix-r-ne0, else-used-r-eq0}
use Rattle.elimination.proofs.eliminate.Tie as tie

abbrev invariant-loop-r : tie.invariant-loop-r
invariant-loop-r matrix n m level used rank c₀ r₀ c r = (r ≤ m) × (c ≡ c₀) × ((i : ℕ) → i < r → fits n matrix used c i ≡ false)

abbrev decreases-loop-r : tie.decreases-loop-r
decreases-loop-r matrix n m level used rank c₀ r₀ c r = m - r

abbrev invariant-columns : tie.invariant-columns
invariant-columns matrix₀ n m level used₀ rank₀ c₀ matrix used rank c = (c ≤ n) × (length used ≡ 128) × (rank ≤ c) × Matches (level_at level) n m (eliminated (level_at level) n m matrix₀ c) matrix used rank

abbrev decreases-columns : tie.decreases-columns
decreases-columns matrix₀ n m level used₀ rank₀ c₀ matrix used rank c = n - c

columns-init : tie.Need-columns-init invariant-loop-r decreases-loop-r invariant-columns decreases-columns
columns-init c =
    let a = c.args in
    (omega arith, refl, omega arith, starts (level_at a.level) a.n a.m a.matrix.now (replicate 128 0) c.requires.0 c.requires.3 (zeros 128))

loop-r-init : tie.Need-loop-r-init invariant-loop-r decreases-loop-r invariant-columns decreases-columns
loop-r-init c = (omega arith, refl, λ i b. absurd (omega arith))

overflow_step-c : tie.Need-overflow_step-c invariant-loop-r decreases-loop-r invariant-columns decreases-columns
overflow_step-c c = search rules

columns-smaller-then-r-m : tie.Need-columns-smaller-then-r-m invariant-loop-r decreases-loop-r invariant-columns decreases-columns
columns-smaller-then-r-m c = search rules

columns-preserved-then-r-m : tie.Need-columns-preserved-then-r-m invariant-loop-r decreases-loop-r invariant-columns decreases-columns
columns-preserved-then-r-m c =
    let l = c.loop-r in
    let q = c.columns in
    let a = c.args in
    let L = level_at a.level in
    let h = a.matrix.now in
    let col : l.c < a.n = omega arith in
    let M : Matches L a.n a.m (eliminated L a.n a.m h l.c) q.matrix q.used q.rank = subst (λ x. Matches L a.n a.m (eliminated L a.n a.m h x) q.matrix q.used q.rank) (sym l.invariant.1) q.invariant.3 in
    let f : First a.m (fits a.n q.matrix q.used l.c) l.r = record { within = l.invariant.0; passes = λ b. absurd (omega arith); before = l.invariant.2 } in
    (omega arith, q.invariant.1, omega arith, passed L a.n a.m h (inverting L (level_inverts a.level) (bounded a.level).width) l.c col q.matrix q.used q.rank M l.r f (omega arith))

bounds-used-r : tie.Need-bounds-used-r invariant-loop-r decreases-loop-r invariant-columns decreases-columns
bounds-used-r c = omega (arith, (bounded c.args.level).most)

overflow_mul-r : tie.Need-overflow_mul-r invariant-loop-r decreases-loop-r invariant-columns decreases-columns
overflow_mul-r c = omega (arith, row-past c.args.n 128 c.loop-r.r (omega (arith, (bounded c.args.level).most)), row-past c.args.n c.args.m c.loop-r.r (omega arith), c.columns.invariant.3.grid.size, (bounded c.args.level).most)

overflow_add-r : tie.Need-overflow_add-r invariant-loop-r decreases-loop-r invariant-columns decreases-columns
overflow_add-r c = omega (arith, row-past c.args.n 128 c.loop-r.r (omega (arith, (bounded c.args.level).most)), row-past c.args.n c.args.m c.loop-r.r (omega arith), c.columns.invariant.3.grid.size, (bounded c.args.level).most)

offset_bounds-matrix-r : tie.Need-offset_bounds-matrix-r invariant-loop-r decreases-loop-r invariant-columns decreases-columns
offset_bounds-matrix-r c = omega (arith, row-past c.args.n 128 c.loop-r.r (omega (arith, (bounded c.args.level).most)), row-past c.args.n c.args.m c.loop-r.r (omega arith), c.columns.invariant.3.grid.size, (bounded c.args.level).most)

bounds-matrix-r : tie.Need-bounds-matrix-r invariant-loop-r decreases-loop-r invariant-columns decreases-columns
bounds-matrix-r c = omega (arith, row-past c.args.n 128 c.loop-r.r (omega (arith, (bounded c.args.level).most)), row-past c.args.n c.args.m c.loop-r.r (omega arith), c.columns.invariant.3.grid.size, (bounded c.args.level).most)

overflow_add-r-in-loop-r : tie.Need-overflow_add-r-in-loop-r invariant-loop-r decreases-loop-r invariant-columns decreases-columns
overflow_add-r-in-loop-r c = search rules

loop-r-smaller : tie.Need-loop-r-smaller invariant-loop-r decreases-loop-r invariant-columns decreases-columns
loop-r-smaller c = search rules

loop-r-preserved : tie.Need-loop-r-preserved invariant-loop-r decreases-loop-r invariant-columns decreases-columns
loop-r-preserved c =
    let l = c.loop-r in
    let q = c.columns in
    let a = c.args in (
      omega arith,
      l.invariant.1,
      below_more (λ i. fits a.n q.matrix q.used l.c i ≡ false) l.r l.invariant.2
          (elim c.if-used-r-eq0.branch [ then-used-r-eq0+else-matrix-r-ne0 w ↦ fails_zero a.n q.matrix q.used l.c l.r (omega (arith, w.if-matrix-r-ne0.false)) | else-used-r-eq0 w ↦ fails_used a.n q.matrix q.used l.c l.r w.if-used-r-eq0.false ]),
    )

slice_bounds-clear_below-end :
    tie.Need-slice_bounds-clear_below-end invariant-loop-r decreases-loop-r invariant-columns decreases-columns
slice_bounds-clear_below-end c = search rules

clear_below-requires : tie.Need-clear_below-requires invariant-loop-r decreases-loop-r invariant-columns decreases-columns
clear_below-requires c κs =
    let l = c.loop-r in
    let q = c.columns in
    let a = c.args in
    let L = level_at a.level in
    let h = a.matrix.now in
    let col : l.c < a.n = omega arith in
    let M : Matches L a.n a.m (eliminated L a.n a.m h l.c) q.matrix q.used q.rank = subst (λ x. Matches L a.n a.m (eliminated L a.n a.m h x) q.matrix q.used q.rank) (sym l.invariant.1) q.invariant.3 in
    let u : get_or q.used l.r 0 ≡ 0 = omega arith in
    let z : entry_at a.n q.matrix l.r l.c ≡ 0 → ⊥ = λ e. omega (arith, e) in
    let k : l.r < a.m = omega arith in
    let f : First a.m (fits a.n q.matrix q.used l.c) l.r = record { within = l.invariant.0; passes = λ b. fits-found a.n q.matrix q.used l.c l.r u z; before = l.invariant.2 } in
    let w = (bounded a.level).most in (
      (M.grid.size, omega (arith, w), omega (arith, w), omega (arith, w, q.invariant.1), col, k),
      (grid-words a.m a.n q.matrix (λ i j. word L ((eliminated L a.n a.m h l.c).entry i j)) M.grid L (λ i j. word_lt L ((eliminated L a.n a.m h l.c).entry i j)), some L a.n a.m h (inverting L (level_inverts a.level) (bounded a.level).width) l.c col q.matrix q.used q.rank M l.r f k),
    )

bounds-used-p : tie.Need-bounds-used-p invariant-loop-r decreases-loop-r invariant-columns decreases-columns
bounds-used-p c = omega (arith, (bounded c.args.level).most)

overflow_add-rank : tie.Need-overflow_add-rank invariant-loop-r decreases-loop-r invariant-columns decreases-columns
overflow_add-rank c = search rules

overflow_step-c-in-columns : tie.Need-overflow_step-c-in-columns invariant-loop-r decreases-loop-r invariant-columns decreases-columns
overflow_step-c-in-columns c = search rules

columns-smaller : tie.Need-columns-smaller invariant-loop-r decreases-loop-r invariant-columns decreases-columns
columns-smaller c = search rules

columns-preserved : tie.Need-columns-preserved invariant-loop-r decreases-loop-r invariant-columns decreases-columns
columns-preserved c =
    let l = c.loop-r in
    let q = c.columns in
    let a = c.args in
    let L = level_at a.level in
    let h = a.matrix.now in
    let col : l.c < a.n = omega arith in
    let M : Matches L a.n a.m (eliminated L a.n a.m h l.c) q.matrix q.used q.rank = subst (λ x. Matches L a.n a.m (eliminated L a.n a.m h x) q.matrix q.used q.rank) (sym l.invariant.1) q.invariant.3 in
    let u : get_or q.used l.r 0 ≡ 0 = omega arith in
    let z : entry_at a.n q.matrix l.r l.c ≡ 0 → ⊥ = λ e. omega (arith, e) in
    let k : l.r < a.m = omega arith in
    let f : First a.m (fits a.n q.matrix q.used l.c) l.r = record { within = l.invariant.0; passes = λ b. fits-found a.n q.matrix q.used l.c l.r u z; before = l.invariant.2 } in (
      omega arith,
      simp length-set q.invariant.1,
      omega arith,
      moved L a.n a.m h (inverting L (level_inverts a.level) (bounded a.level).width) l.c col q.matrix q.used q.rank M l.r f k c.clear_below.new.matrix c.clear_below.ensures (omega (arith, q.invariant.1, (bounded a.level).most)),
    )

shape_of-matrix : tie.Need-shape_of-matrix invariant-loop-r decreases-loop-r invariant-columns decreases-columns
shape_of-matrix c = omega (arith, c.columns.invariant.3.grid.size)

returns : tie.Need-returns invariant-loop-r decreases-loop-r invariant-columns decreases-columns
returns c =
    let q = c.columns in
    let a = c.args in
    let e : q.c ≡ a.n = omega arith in
    let L = level_at a.level in
    finished L a.n a.m a.matrix.now q.matrix q.used q.rank (subst (λ x. Matches L a.n a.m (eliminated L a.n a.m a.matrix.now x) q.matrix q.used q.rank) e q.invariant.3)

pub eliminate_spec : {M : Type 1} → statement M
eliminate_spec =
    tie.close
    (tie.spec
    invariant-loop-r
    decreases-loop-r
    invariant-columns
    decreases-columns
    columns-init
    loop-r-init
    overflow_step-c
    columns-smaller-then-r-m
    columns-preserved-then-r-m
    bounds-used-r
    overflow_mul-r
    overflow_add-r
    offset_bounds-matrix-r
    bounds-matrix-r
    overflow_add-r-in-loop-r
    loop-r-smaller
    loop-r-preserved
    slice_bounds-clear_below-end
    clear_below-requires
    bounds-used-p
    overflow_add-rank
    overflow_step-c-in-columns
    columns-smaller
    columns-preserved
    shape_of-matrix
    returns)
