use mathlib.Core.Path.{subst, ◌≡◌, sym, ap, ◌∙◌}
use Prim.Native.Nat.{◌+◌, ◌*◌, ◌%◌, ◌^◌}
use native.Mathlib.Nat.{mod-eq_of_lt}
use native.Mathlib.Omega.{arith}
use lib.ListN.{get_or}
use Rattle.field.proofs.Fields.{bounded}
use Rattle.field.proofs.Elements.{Lane, table-lane, lane-start, lane-digits, words-scaled}
use Rattle.field.proofs.Number.{multiple}
use Rattle.field.specs.Word.{digits, small, words}
use Rattle.field.specs.Level.{level_at}
use Rattle.field.specs.declared.Level.{Level}
use Rattle.field.proofs.packed.word.Goals as goal

pub loop-k-init : goal.loop-k-init
loop-k-init c = (omega arith, ap (λ (l : Level). l.width) c.of-l.ensures, c.room-w.ensures, λ y h. lane-start (level_at c.args.level) y c.args.f c.args.at)

pub overflow_shr-x : goal.overflow_shr-x
overflow_shr-x c = omega (arith, c.loop-k.invariant.1, (bounded c.args.level).short)

pub loop-k-preserved : goal.loop-k-preserved
loop-k-preserved c =
    let l = c.loop-k in
    let s = c.args in
    let m = level_at s.level in (
      omega arith,
      l.invariant.1,
      l.invariant.2,
      λ y h. lane-digits m y s.f l.k s.at l.x (get_or s.table.now (c.room-w.result * l.k + s.at) 0) (l.invariant.3 y h)
          (subst (λ w. Lane m y (2 ^ l.k) s.at (get_or s.table.now (w * l.k + s.at) 0)) (sym l.invariant.2) (table-lane m s.table.now y h l.k s.at (omega (arith, l.invariant.1)))),
    )

pub returns : goal.returns
returns c y small h j m k =
    let s = c.args in
    let l = level_at s.level in
    let done : c.loop-k.k ≡ l.width = omega (arith, c.loop-k.invariant.1) in
    c.loop-k.invariant.3 y h j m k ∙ ap (multiple l.width l.tap (digits l.width (get_or (words l y) (4 * s.at + j) 0))) (ap (λ n. s.f % 2 ^ n) done ∙ mod-eq_of_lt small) ∙ sym (words-scaled l s.f y (4 * s.at + j) k)
