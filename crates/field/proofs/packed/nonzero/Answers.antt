use mathlib.Core.Bool.{◌&&◌}
use mathlib.Core.Path.{ap₂, refl, sym, ap, ◌∙◌}
use native.Mathlib.Omega.{arith}
use lib.Seq.{take_all}
use lib.Dec.{eqb}
use Rattle.field.proofs.Elements.{words-length}
use Rattle.field.specs.Packed.{Holds}
use Rattle.field.specs.Word.{words, is_zero}
use Rattle.field.specs.Level.{level_at}
use Rattle.field.specs.declared.Level.{Level}
use Rattle.lists.proofs.Lent.{or-none}
use Rattle.lists.proofs.Words.{all_more}
use Rattle.lists.specs.Words.{all}
use Rattle.field.proofs.packed.nonzero.Goals as goal

pub loop-i-init : goal.loop-i-init
unfolding all
loop-i-init c = (omega arith, ap (λ (l : Level). l.coordinates) c.of-l.ensures, λ x h. refl)

pub loop-i-preserved : goal.loop-i-preserved
unfolding Holds
loop-i-preserved c =
    let l = c.loop-i in
    let m = level_at c.args.level in (
      omega arith,
      l.invariant.1,
      λ x h.
          or-none l.any c.coordinate-any.result
          ∙ ap₂ ◌&&◌ (l.invariant.2 x h) (ap (λ y. eqb y 0) (c.coordinate-any.ensures ∙ h l.i (omega (arith, l.invariant.1))))
          ∙ sym (all_more (λ y. eqb y 0) (words m x) l.i (omega (arith, l.invariant.1, words-length m x))),
    )

pub returns : goal.returns
unfolding is_zero
returns c x h = c.loop-i.invariant.2 x h ∙ ap (λ s. all (λ y. eqb y 0) s) (take_all c.loop-i.i (words (level_at c.args.level) x) (omega (arith, c.loop-i.invariant.1, words-length (level_at c.args.level) x)))
