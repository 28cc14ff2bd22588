use mathlib.Core.Path.{◌≡◌, refl, sym, ◌∙◌}
use borrow.Author.Rules.{rules}
use Prim.Native.Nat.{ℕ}
use Rattle.std.specs.Prelude.{Some, None, Ok}
use native.Mathlib.Omega.{arith}
use Rattle.field.specs.Level.{FIRST}
use Rattle.key.specs.Key.{slices_of}
use Rattle.examples.proofs.Driving.{done_well, not_seven, not-sixteen}
use Rattle.examples.proofs.looked_first.Goals as goal

pub returns-in-Ok-None : goal.returns-in-Ok-None
returns-in-Ok-None c =
    let b = c.args in
    let p = c.prove.ensures.outcome in
    let found : c.quick_look.result ≡ Ok None = search rules in
    let is = (c.quick_look.ensures.tells.order.0 found).1 in
    (p, not_seven FIRST b.lent.now.key (slices_of b.lent.now) b.positions.now b.u.now b.v.now b.r.now b.s.now b.alpha.now b.t.now b.a.now is p, not-sixteen FIRST b.lent.now.key (slices_of b.lent.now) b.positions.now b.u.now b.v.now b.r.now b.s.now b.alpha.now b.t.now b.a.now is p)

pub returns-in-Ok-Some : goal.returns-in-Ok-Some
returns-in-Ok-Some c =
    let b = c.args in
    let e = c.quick_look.ensures.tells in
    let found : c.quick_look.result ≡ Ok (Some c.in-Ok-Some.index) = search rules in
    (((e.first c.in-Ok-Some.index).0 found).1, refl, λ z. let bad = sym found ∙ done_well FIRST b.lent.now.key (slices_of b.lent.now) b.positions.now b.u.now b.v.now b.r.now b.s.now b.alpha.now b.t.now b.a.now e z in let z : ◌≡◌ {A = ℕ} 0 1 = cc in absurd (omega arith))

pub returns-in-Err : goal.returns-in-Err
returns-in-Err c =
    let b = c.args in
    (refl, λ z. let bad = sym c.in-Err.is ∙ done_well FIRST b.lent.now.key (slices_of b.lent.now) b.positions.now b.u.now b.v.now b.r.now b.s.now b.alpha.now b.t.now b.a.now c.quick_look.ensures.tells z in let z : ◌≡◌ {A = ℕ} 0 1 = cc in absurd (omega arith))
