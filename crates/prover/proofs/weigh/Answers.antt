use Rattle.refusal.specs.declared.Refusal.TheVariants.{Top}
use mathlib.Core.List.{List, []}
use mathlib.Core.Path.{◌≡◌, refl, sym, ap, ap₂, subst, ◌∙◌}
use Prim.Native.Nat.{ℕ, ◌+◌, ◌-◌, ◌*◌, ◌^◌, ◌≤◌, ◌<◌}
use native.Mathlib.Omega.{arith}
use lib.Dec.{eqb}
use lib.ListN.{length}
use Rattle.lists.specs.Words.{concat}
use Rattle.refusal.proofs.Answers.{when_done, when_refused, pass, stop}
use Rattle.field.specs.Level.{FIRST, level_at, K}
use Rattle.field.specs.Word.{words, Words}
use Rattle.field.proofs.Fields.{bounded}
use Rattle.field.proofs.Tested.{fine, above}
use Rattle.row.specs.Elements.{el, Fits}
use Rattle.row.specs.Lent.{LentKey}
use Rattle.row.proofs.ElementLaws.{fits_le, fits_all}
use Rattle.key.specs.Key.{slices_of, degree}
use Rattle.key.proofs.Sized.{degree-some}
use Rattle.constraints.specs.Slices.{witness_of}
use Rattle.constraints.specs.Entry.{system}
use Rattle.constraints.proofs.Fine.{room, elements-columns}
use Rattle.checkzero.specs.CheckZero.{mask}
use Rattle.checkzero.specs.Slices.{tops_zero}
use Rattle.checkzero.specs.Steps.{weighted_at}
use Rattle.prover.specs.Entry.{tops_row, prove_result}
use Rattle.prover.proofs.Fine.{ProveFine, passed_fine, elements-room}
use Rattle.prover.proofs.Weighed.{proof-same}
use Rattle.prover.proofs.weigh.Goals as goal

pub tops-requires : goal.tops-requires
tops-requires c =
    let f = passed_fine FIRST c.args.lent.now.key (slices_of c.args.lent.now) c.args.positions.now c.args.u.now c.args.v.now c.args.r.now c.args.s.now c.args.alpha.now c.args.t.now c.args.a.now c.requires.a_value in
    record { sized = (f.is-sized, f.is_key, f.is-target); positions_len = (f.positions-length, c.requires.p_len.0, c.requires.p_len.1) }

pub returns-then-tops-ne0 : goal.returns-then-tops-ne0
returns-then-tops-ne0 c =
    let a = c.args in
    when_refused (tops_row (level_at FIRST) a.lent.now.key (slices_of a.lent.now) a.positions.now a.v.now) (prove_result (level_at FIRST) a.lent.now.key (slices_of a.lent.now) a.positions.now a.u.now a.v.now a.r.now a.s.now a.alpha.now) (a.t.now, a.a.now) (sym (stop Top [] (above (c.tops.ensures c.args.v.now) c.if-tops-ne0.true))) refl

pub write_masked_witness-requires : goal.write_masked_witness-requires
write_masked_witness-requires c =
    let f = passed_fine FIRST c.args.lent.now.key (slices_of c.args.lent.now) c.args.positions.now c.args.u.now c.args.v.now c.args.r.now c.args.s.now c.args.alpha.now c.args.t.now c.args.a.now c.requires.a_value in
    record { sized = (f.is-sized, f.u-bits); positions_len = (f.positions-length, f.u-length, f.t-length) }

pub equations-requires : goal.equations-requires
equations-requires c =
    let f = passed_fine FIRST c.args.lent.now.key (slices_of c.args.lent.now) c.args.positions.now c.args.u.now c.args.v.now c.args.r.now c.args.s.now c.args.alpha.now c.args.t.now c.args.a.now c.requires.a_value in
    (f.is-sized, f.is_key, f.is-target)

pub proof-requires : goal.proof-requires
proof-requires c =
    let a = c.args in
    let n = a.lent.now.key.n in
    let m = a.lent.now.key.m in
    let f = passed_fine FIRST c.args.lent.now.key (slices_of c.args.lent.now) c.args.positions.now c.args.u.now c.args.v.now c.args.r.now c.args.s.now c.args.alpha.now c.args.t.now c.args.a.now c.requires.a_value in
    let r = room a.lent.now.key f.is-sized in
    let z = (bounded FIRST).coordinates in
    let t = c.tops in
    let e = c.equations.ensures in
    record {
      words = rw e.level (f.v-words, f.α-words, f.r-words, f.s-words);
      coordinates_nonzero = rw (e.level, e.d, e.n) (z, degree-some n f.is-sized.two (omega (arith, f.is-sized.most, (bounded FIRST).most)), r.d-lt, f.positions-length, f.v-length ∙ elements-columns FIRST a.lent.now.key, f.a-length);
      fits = rw (e.level, e.d, e.n, e.m) (
        fits_all (level_at FIRST) (n + m) z f.α-length,
        fits_all (level_at FIRST) (degree n - 1) z f.r-length,
        fits_all (level_at FIRST) (degree n - 1) z f.s-length,
        fits_le (level_at FIRST) n (n + m) (omega arith) (t.auto.p ∙ c.requires.p_len.0) (elements-room a.lent.now.key f.is-sized),
        fits_le (level_at FIRST) ((degree n + 1) * 2 ^ degree n) ((degree n + 1) * 2 ^ degree n) (omega arith) (t.auto.work ∙ c.requires.p_len.1) r.polynomials,
      );
    }

pub returns : goal.returns
returns c =
    let a = c.args in
    let n = a.lent.now.key.n in
    let m = a.lent.now.key.m in
    let e = c.equations.ensures in
    when_done (tops_row (level_at FIRST) a.lent.now.key (slices_of a.lent.now) a.positions.now a.v.now) (prove_result (level_at FIRST) a.lent.now.key (slices_of a.lent.now) a.positions.now a.u.now a.v.now a.r.now a.s.now a.alpha.now) (a.t.now, a.a.now) (sym (pass Top [] (fine (c.tops.ensures c.args.v.now) c.if-tops-ne0.false))) refl
    (ap₂ (λ (t a : List ℕ). (t, a)) (c.write_masked_witness.ensures (slices_of a.lent.now))
    (c.proof.ensures a.lent.now.y.now
    ∙ (λ i. concat (e.d i) (λ k. words (level_at (e.level i)) ((K (level_at (e.level i))).add (weighted_at (level_at (e.level i)) (e.n i) (e.m i) (e.d i) (e.h i) (e.x i) a.lent.now.y.now a.positions.now a.v.now a.alpha.now k) (mask (K (level_at (e.level i))) (e.d i - 1) (el (level_at (e.level i)) a.r.now) (el (level_at (e.level i)) a.s.now) k))))
    ∙ proof-same (level_at FIRST) n m (slices_of a.lent.now) a.positions.now a.v.now a.r.now a.s.now a.alpha.now))
