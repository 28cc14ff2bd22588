use Prim.Native.Nat.{ℕ, ◌+◌, ◌-◌, ◌≤◌}
use mathlib.Core.Path.{◌≡◌, refl, sym, ap, ◌∙◌, subst}
use mathlib.Core.List.{List, ◌++◌}
use native.Mathlib.Omega.{arith}
use borrow.Author.Rules.{rules}
use lib.ListN.{length, drop, length-append, length-drop}
use Rattle.lists.specs.Words.{part, put}
use Rattle.lists.proofs.Words.{put-length, part_length}
use Rattle.copying.specs.Words.{Bytes}
use Rattle.std.specs.Prelude.{Result, Ok, Err}
use Rattle.refusal.specs.declared.Refusal.{Refusal}
use Rattle.refusal.specs.Answer.{Done, first_of}
use Rattle.field.specs.Level.{FIRST, level_at}
use Rattle.layout.specs.Layout.{key_end}
use Rattle.bundle.specs.Bundle.{groups_of}
use Rattle.bundle.specs.Written.{written}
use Rattle.bundle.proofs.Faithful.{key-within}
use Rattle.joining.specs.declared.Plan.{Plan}
use Rattle.joining.specs.Union.{union}
use Rattle.joining.specs.Entry.{joined_bundle, join_rows}
use Rattle.joining.specs.Steps.{Mates, groups_bytes, planned}
use Rattle.joining.proofs.Outcome.{mates, joined-size, Joins, joins, plan_refused, plan_fits, put_both, read_back, size_same, outcome-refused, outcome-done}
use Rattle.joining.proofs.join_bundles.Goals as goal

-- a plan that fits an output of so many bytes
module _ (s t : List ℕ) (b : Bytes s) (d : Bytes t) (size : ℕ) {r : Result Plan Refusal} {p : Plan} (e : r ≡ planned (level_at FIRST) s t (first_of (join_rows (level_at FIRST) s t size))) (is : r ≡ Ok p) where
  -- no row applies, and the plan is that of the joined bundle
  fits : (first_of (join_rows (level_at FIRST) s t size) ≡ Done) × (p ≡ record { start = key_end (level_at FIRST) s; size = record { length = length (written (joined_bundle (level_at FIRST) s t)); groups = length (joined_bundle (level_at FIRST) s t).groups } })
  fits = plan_fits s t (first_of (join_rows (level_at FIRST) s t size)) (sym e ∙ is)

  holds : Joins s t size
  holds = joins s t size fits.0

  begins : p.start ≡ key_end (level_at FIRST) s
  begins = ap (λ (z : Plan). z.start) fits.1

  matched : Mates (level_at FIRST) s t p.start
  matched = subst (Mates (level_at FIRST) s t) (sym begins) (mates s t b d holds.first holds.second holds.key)

  -- the key fields lie within the first bundle, and both within the output
  within : p.start ≤ length s
  within = subst (λ i. i ≤ length s) (sym begins) (key-within s b holds.first)

  room : p.start + length (groups_bytes (union (groups_of (level_at FIRST) s) (groups_of (level_at FIRST) t))) ≤ size
  room = omega (arith, holds.fits, begins, joined-size s t b d holds.first holds.second)

  -- the output after the key fields has its length
  long : (out end : List ℕ) → length out ≡ size → end ≡ put 0 (part 0 (p.start - 0) s) out → length end ≡ size
  long out end l f = ap length f ∙ put-length 0 (part 0 (p.start - 0) s) out (omega (arith, part_length 0 (p.start - 0) s (omega (arith, within)), room, l)) ∙ l

pub returns-in_err-plan : goal.returns-in_err-plan
returns-in_err-plan c =
    let a = c.args in
    let s = a.first.now in
    let t = a.second.now in
    let e = plan_refused s t (first_of (join_rows (level_at FIRST) s t (length a.out.now))) (sym c.look.ensures ∙ c.in_err-plan.was) in
    let is : c.from_residual.result ≡ Err c.in_err-plan.field-0.0 = search rules in
    record {
      outcome = (λ i. (is i, a.out.now)) ∙ outcome-refused s t a.out.now e;
      reads = λ size f. let g = sym is ∙ f in let z : ◌≡◌ {A = ℕ} 0 1 = cc in absurd (omega arith);
    }

pub put_part-requires : goal.put_part-requires
put_part-requires c =
    let s = c.args.first.now in
    let t = c.args.second.now in
    (omega arith, within s t (λ i. omega (arith, c.type_inv.first i)) (λ i. omega (arith, c.type_inv.second i)) (length c.args.out.now) c.look.ensures c.in_ok-plan.was, omega (arith, room s t (λ i. omega (arith, c.type_inv.first i)) (λ i. omega (arith, c.type_inv.second i)) (length c.args.out.now) c.look.ensures c.in_ok-plan.was))

pub put_groups-requires : goal.put_groups-requires
put_groups-requires c =
    let s = c.args.first.now in
    let t = c.args.second.now in
    let size = length c.args.out.now in
    record {
      mates = matched s t (λ i. omega (arith, c.type_inv.first i)) (λ i. omega (arith, c.type_inv.second i)) size c.look.ensures c.in_ok-plan.was;
      second_in_bounds = omega (arith, room s t (λ i. omega (arith, c.type_inv.first i)) (λ i. omega (arith, c.type_inv.second i)) size c.look.ensures c.in_ok-plan.was, long s t (λ i. omega (arith, c.type_inv.first i)) (λ i. omega (arith, c.type_inv.second i)) size c.look.ensures c.in_ok-plan.was c.args.out.now c.put_part.new.out refl c.put_part.ensures.0);
    }

pub returns : goal.returns
returns c =
    let s = c.args.first.now in
    let t = c.args.second.now in
    let out = c.args.out.now in
    let w = fits s t (λ i. omega (arith, c.type_inv.first i)) (λ i. omega (arith, c.type_inv.second i)) (length out) c.look.ensures c.in_ok-plan.was in
    let m = matched s t (λ i. omega (arith, c.type_inv.first i)) (λ i. omega (arith, c.type_inv.second i)) (length out) c.look.ensures c.in_ok-plan.was in
    let j = holds s t (λ i. omega (arith, c.type_inv.first i)) (λ i. omega (arith, c.type_inv.second i)) (length out) c.look.ensures c.in_ok-plan.was in
    let size = ap (λ (z : Plan). z.size) w.1 in
    let ends = put_both s t (λ i. omega (arith, c.type_inv.first i)) (λ i. omega (arith, c.type_inv.second i)) m out j.fits c.put_part.ensures.0 c.put_groups.ensures in
    record {
      outcome = outcome-done s t out w.0 size ends;
      reads = λ z f. read_back s t (λ i. omega (arith, c.type_inv.first i)) (λ i. omega (arith, c.type_inv.second i)) m out (sym (size_same f) ∙ size) ends;
    }
