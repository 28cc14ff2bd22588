use Rattle.refusal.proofs.Answers.{when_done}
use Rattle.field.specs.Level.{first, level_at, K}
use Rattle.field.specs.Word.{element, words}
use Rattle.arithmetic.specs.Entry.{rows, product_outcome}
use Rattle.arithmetic.proofs.Lent.{slices, stored}
use mathlib.Core.Path.{refl, sym, ◌∙◌}
use native.Mathlib.Omega.{arith}
use borrow.Author.Rules.{rules}
use Rattle.arithmetic.proofs.product.Goals as goal

pub returns-in_err-refused : goal.returns-in_err-refused
unfolding product_outcome
returns-in_err-refused c = search rules

pub load-x-requires : goal.load-x-requires
unfolding level_at
load-x-requires c = omega (arith, (slices c.args.a.now c.args.b.now c.args.out.now c.refused.ensures c.in_ok-refused.was).a-length)

pub load-y-requires : goal.load-y-requires
unfolding level_at
load-y-requires c = omega (arith, (slices c.args.a.now c.args.b.now c.args.out.now c.refused.ensures c.in_ok-refused.was).b-length)

pub store-requires : goal.store-requires
unfolding level_at
store-requires c = omega (arith, (slices c.args.a.now c.args.b.now c.args.out.now c.refused.ensures c.in_ok-refused.was).out_length)

pub returns : goal.returns
unfolding product_outcome level_at
returns c =
    let p = c.args in
    let x = element first p.a.now in
    let y = element first p.b.now in
    let d = slices p.a.now p.b.now p.out.now c.refused.ensures c.in_ok-refused.was in
    let held = c.times-result.ensures x y (c.load-x.ensures x d.a-words) (c.load-y.ensures y d.b-words) in
    when_done (rows p.a.now p.b.now p.out.now) (words first ((K first).mul x y)) p.out.now (sym c.in_ok-refused.was ∙ c.refused.ensures) refl
    (stored p.out.now ((K first).mul x y) d.out_length (c.store.ensures ((K first).mul x y) held))
