use Rattle.std.proofs.Common.{◌≡◌, ℕ, ◌+◌, ◌*◌, replicate, refl, sym, subst, arith}
use Rattle.field.specs.Level.{level_at, K}
use Rattle.field.specs.Packed.{Combines}
use Rattle.field.proofs.PartLaws.{combines_none}
use Rattle.row.specs.Elements.{el}
use Rattle.row.specs.Lent.{small_of}
use Rattle.row.specs.Polynomial.{sum}
use Rattle.row.proofs.SumLaws.{sum-none, sum_more}
use Rattle.row.proofs.ElementLaws.{fits_le}
use Rattle.row.proofs.NumberLaws.{row-le}
use Rattle.row.proofs.sums.mix.Goals as goal

pub loop-j-init : goal.loop-j-init
loop-j-init c =
    let a = c.args in
    let l = level_at a.level in
    let terms = λ (j : ℕ). (K l).mul (small_of l a.x.now j) (el l a.src.now (a.a + a.s * j + a.k)) in
    subst (Combines l (replicate 72 0)) (sym (sum-none (K l) terms)) (combines_none a.level)

pub get-term-requires : goal.get-term-requires
get-term-requires c =
    let a = c.args in
    let j = c.loop-j.j in
    (c.requires.0, fits_le (level_at a.level) (a.a + a.s * j + a.k + 1) (a.a + a.s * a.n) (omega (arith, row-le a.s j a.n (omega arith))) refl c.requires.4)

pub loop-j-preserved : goal.loop-j-preserved
loop-j-preserved c =
    let a = c.args in
    let l = level_at a.level in
    let j = c.loop-j.j in
    let terms = λ (j : ℕ). (K l).mul (small_of l a.x.now j) (el l a.src.now (a.a + a.s * j + a.k)) in
    subst (Combines l c.add.new.parts) (sum_more (K l) j terms) (c.add.ensures _ _ (c.requires.1 j) c.loop-j.invariant c.get-term.ensures)

pub returns : goal.returns
returns c =
    let a = c.args in
    let l = level_at a.level in
    let terms = λ (j : ℕ). (K l).mul (small_of l a.x.now j) (el l a.src.now (a.a + a.s * j + a.k)) in
    let done : c.loop-j.j ≡ a.n = omega arith in
    c.total.ensures _ (subst (λ j. Combines l c.loop-j.parts (sum (K l) j terms)) done c.loop-j.invariant)
