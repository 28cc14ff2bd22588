use mathlib.Core.Path.{◌≡◌, sym, ap, subst, ◌∙◌}
use Prim.Native.Nat.{ℕ, ◌+◌, ◌-◌, ◌*◌, ◌^◌, ◌≤◌, ◌<◌}
use native.Mathlib.Nat.{mul-one, mul_comm}
use native.Mathlib.Omega.{arith}
use lib.ListN.{length}
use Rattle.field.specs.Level.{FIRST, level_at, K}
use Rattle.field.proofs.Fields.{bounded}
use Rattle.field.specs.Word.{Words}
use Rattle.row.specs.Elements.{el, Bits, Fits, value_of}
use Rattle.row.specs.declared.equations.Equations.{Equations}
use Rattle.key.specs.declared.Lent.{Lent}
use Rattle.constraints.specs.Lends.{Lends}
use Rattle.field.specs.Packed.{Holds}
use mathlib.Core.List.{List}
use Rattle.row.proofs.ElementLaws.{fits_le, fits_all, holds-value, holds-held}
use Rattle.key.specs.Key.{key_slices, slices_of, degree}
use Rattle.constraints.proofs.Fine.{room, elements-columns}
use Rattle.checkzero.specs.CheckZero.{mask_sum}
use Rattle.checkzero.specs.Steps.{evaluated}
use Rattle.verifier.proofs.Fine.{verify_fine, some-degree}
use Rattle.verifier.proofs.Sides.{el-one, folded, sides}
use Rattle.verifier.proofs.difference.Goals as goal

pub equations-key-requires : goal.equations-key-requires
equations-key-requires c = let f = verify_fine FIRST c.args.lent.now.key (slices_of c.args.lent.now) c.args.t.now c.args.q.now c.args.delta.now c.args.masks.now c.args.alpha.now c.args.a.now c.requires.a_value in (f.is-sized, f.is_key, f.is-target)

pub weighted-values-requires : goal.weighted-values-requires
weighted-values-requires c =
    let a = c.args in
    let n = a.lent.now.key.n in
    let f = verify_fine FIRST c.args.lent.now.key (slices_of c.args.lent.now) c.args.t.now c.args.q.now c.args.delta.now c.args.masks.now c.args.alpha.now c.args.a.now c.requires.a_value in
    let r = room a.lent.now.key f.is-sized in
    let z = (bounded FIRST).coordinates in
    let e = c.equations-key.ensures in
    record {
      words = rw (e.level, e.d) (f.q-words, f.Δ-words, f.α-words, f.t-bits, z, some-degree FIRST a.lent.now.key f.is-sized);
      bits_len = rw (e.level, e.d, e.n, e.m) (
        f.t-length ∙ mul_comm n (degree n),
        f.q-length ∙ elements-columns FIRST a.lent.now.key,
        f.Δ-length,
        fits_all (level_at FIRST) (n + a.lent.now.key.m) z f.α-length,
        fits_le (level_at FIRST) n (2 ^ degree n) r.columns c.requires.beta_len.0 r.values,
        fits_le (level_at FIRST) n (2 ^ degree n) r.columns c.requires.beta_len.1 r.values,
        fits_le (level_at FIRST) (2 ^ degree n) (2 ^ degree n) (omega arith) c.requires.beta_len.2 r.values,
        fits_le (level_at FIRST) (2 ^ degree n) (2 ^ degree n) (omega arith) c.requires.beta_len.3 r.values,
      );
    }

pub get-challenge-requires : goal.get-challenge-requires
get-challenge-requires c = let f = verify_fine FIRST c.args.lent.now.key (slices_of c.args.lent.now) c.args.t.now c.args.q.now c.args.delta.now c.args.masks.now c.args.alpha.now c.args.a.now c.requires.a_value in (f.Δ-words, fits_all (level_at FIRST) 1 (bounded FIRST).coordinates (f.Δ-length ∙ sym (mul-one (level_at FIRST).coordinates)))

pub overflow_sub-d : goal.overflow_sub-d
overflow_sub-d c = subst (λ d. 1 ≤ d) (sym c.equations-key.ensures.d) (some-degree FIRST c.args.lent.now.key (verify_fine FIRST c.args.lent.now.key (slices_of c.args.lent.now) c.args.t.now c.args.q.now c.args.delta.now c.args.masks.now c.args.alpha.now c.args.a.now c.requires.a_value).is-sized)

pub mask_sum-requires : goal.mask_sum-requires
mask_sum-requires c =
    let f = verify_fine FIRST c.args.lent.now.key (slices_of c.args.lent.now) c.args.t.now c.args.q.now c.args.delta.now c.args.masks.now c.args.alpha.now c.args.a.now c.requires.a_value in
    let d = c.equations-key.result.matrix.d in
    let e = c.equations-key.ensures in
    (f.masks-words, holds-held (level_at FIRST) _ _ c.get-challenge.ensures, fits_all (level_at FIRST) (d - 1) (bounded FIRST).coordinates (f.masks-length ∙ ap (λ d. (level_at FIRST).coordinates * (d - 1)) (sym e.d)))

pub evaluate-given-requires : goal.evaluate-given-requires
evaluate-given-requires c =
    let f = verify_fine FIRST c.args.lent.now.key (slices_of c.args.lent.now) c.args.t.now c.args.q.now c.args.delta.now c.args.masks.now c.args.alpha.now c.args.a.now c.requires.a_value in
    let d = c.equations-key.result.matrix.d in
    let e = c.equations-key.ensures in
    (f.a-words, holds-held (level_at FIRST) _ _ c.get-challenge.ensures, fits_all (level_at FIRST) d (bounded FIRST).coordinates (f.a-length ∙ ap (λ d. (level_at FIRST).coordinates * d) (sym e.d)))

-- the weighted sum of the values, in the key's own numbers
folds : {equations : Equations} {lent : Lent} (e : Lends equations lent) (t q Δ α words : List ℕ)
    → Holds (level_at equations.matrix.level) words (folded (level_at equations.matrix.level) equations.matrix.n equations.matrix.m (key_slices equations.matrix.h.now equations.matrix.x.now equations.y.now) t q α equations.matrix.d (el (level_at equations.matrix.level) Δ 0))
    → Holds (level_at FIRST) words (folded (level_at FIRST) lent.key.n lent.key.m (slices_of lent) t q α equations.matrix.d (el (level_at FIRST) Δ 0))
folds {equations} e t q Δ α words w = coe 0 1 (i. Holds (level_at (e.level i)) words (folded (level_at (e.level i)) (e.n i) (e.m i) (key_slices (e.h i) (e.x i) (e.y i)) t q α equations.matrix.d (el (level_at (e.level i)) Δ 0))) w

pub returns : goal.returns
returns c =
    let a = c.args in
    let f = verify_fine FIRST c.args.lent.now.key (slices_of c.args.lent.now) c.args.t.now c.args.q.now c.args.delta.now c.args.masks.now c.args.alpha.now c.args.a.now c.requires.a_value in
    let d = c.equations-key.result.matrix.d in
    let e = c.equations-key.ensures in
    let g = c.get-challenge in
    let v = value_of (level_at FIRST) g.result.words in
    let values = folded (level_at FIRST) a.lent.now.key.n a.lent.now.key.m (slices_of a.lent.now) a.t.now a.q.now a.alpha.now d (el (level_at FIRST) a.delta.now 0) in
    let masks = mask_sum (K (level_at FIRST)) (d - 1) v (el (level_at FIRST) a.masks.now) in
    let given = evaluated (level_at FIRST) d a.a.now v in
    c.nonzero.ensures ((K (level_at FIRST)).add given ((K (level_at FIRST)).add values masks)) (c.plus.ensures given ((K (level_at FIRST)).add values masks) c.evaluate-given.ensures (c.plus-expected.ensures values masks (folds e a.t.now a.q.now a.delta.now a.alpha.now c.weighted-values.result.words c.weighted-values.ensures) c.mask_sum.ensures))
    ∙ sides (level_at FIRST) a.lent.now.key.n a.lent.now.key.m (slices_of a.lent.now) a.t.now a.q.now a.delta.now a.masks.now a.alpha.now a.a.now d v f.t-bits f.Δ-length e.d (holds-value (level_at FIRST) g.result.words _ g.ensures ∙ el-one (level_at FIRST) a.delta.now f.Δ-length)
