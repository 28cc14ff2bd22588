use Rattle.std.proofs.Common.{◌≡◌, ℕ, ◌+◌, ◌*◌, List, subst, ◌∙◌, arith}
use Rattle.std.proofs.Math.Nat.{zero-add}
use Rattle.field.specs.Level.{level_at, K}
use Rattle.field.specs.declared.Level.{Level}
use Rattle.field.specs.Packed.{Holds}
use Rattle.row.specs.Elements.{el}
use Rattle.row.specs.Lent.{small_of, entry_of}
use Rattle.row.specs.Polynomial.{sum}
use Rattle.row.specs.Step.{AddedDown}
use Rattle.row.proofs.SumLaws.{mixed, Checked, checked_more, checked-all}
use Rattle.row.proofs.ElementLaws.{fits_le, holds-value, holds-held}
use Rattle.row.proofs.sums.share.Goals as goal

-- the sum over the columns, from element 0 on
sum-mixed : (l : Level) (ws src x : List ℕ) (n m s k : ℕ) (h : ℕ → (K l).Carrier)
    → Holds l ws (sum (K l) n (λ j. (K l).mul (small_of l x j) (el l src (0 + s * j + k)))) → Holds l ws (mixed (K l) n m s (el l src) (small_of l x) h k)
sum-mixed l ws src x n m s k h = subst (λ f. Holds l ws (sum (K l) n f)) (λ t j. (K l).mul (small_of l x j) (el l src (zero-add (s * j) t + k)))

pub spread-requires : goal.spread-requires
spread-requires c =
    let a = c.args in
    let matrix = a.matrix.now in
    let l = level_at matrix.level in
    let r = c.loop-k in
    let key = matrix.lent in (
      r.invariant.words,
      holds-held l c.mix-total.result.words _ c.mix-total.ensures,
      key.h-within,
      omega (arith, key.h-length),
      c.requires.2,
      omega arith,
      fits_le l (a.s * matrix.n + a.s * matrix.m) (a.s * matrix.n + a.s * matrix.m) (omega arith) (r.invariant.same ∙ c.add.ensures.same) c.requires.3,
    )

pub loop-k-preserved : goal.loop-k-preserved
loop-k-preserved c =
    let a = c.args in
    let matrix = a.matrix.now in
    let l = level_at matrix.level in
    let r = c.loop-k in
    let x = small_of l matrix.x.now in
    let h = λ (e : ℕ). entry_of l matrix.n matrix.h.now e a.i in
    let total = sum-mixed l c.mix-total.result.words a.src.now matrix.x.now matrix.n matrix.m a.s r.k h c.mix-total.ensures in
    let down = subst (λ v. AddedDown (K l) (el l r.dst) (el l c.spread.new.dst) (a.s * matrix.n) a.s r.k (λ e. (K l).mul (h e) v) matrix.m) (holds-value l c.mix-total.result.words _ total) c.spread.ensures.holds in
    record {
      same = c.spread.ensures.same ∙ r.invariant.same;
      words = c.spread.ensures.words;
      holds = checked_more (K l) matrix.n matrix.m a.s (el l a.src.now) x h _ _ _ r.k (omega arith) r.invariant.holds down;
    }

pub returns : goal.returns
returns c =
    let a = c.args in
    let matrix = a.matrix.now in
    let l = level_at matrix.level in
    let r = c.loop-k in
    let x = small_of l matrix.x.now in
    let h = λ (e : ℕ). entry_of l matrix.n matrix.h.now e a.i in
    let done : r.k ≡ a.s = omega arith in
    record {
      same = r.invariant.same ∙ c.add.ensures.same;
      words = r.invariant.words;
      holds = checked-all (K l) matrix.n matrix.m a.s (el l a.src.now) x h _ _ _ c.add.ensures.holds (subst (Checked (K l) matrix.n matrix.m a.s (el l a.src.now) x h (el l c.add.new.dst) (el l r.dst)) done r.invariant.holds);
    }
