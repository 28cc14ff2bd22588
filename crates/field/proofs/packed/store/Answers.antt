use mathlib.Core.List.{List}
use mathlib.Core.Path.{ap₂, ◌≡◌, sym, ap, ◌∙◌}
use Prim.Native.Nat.{ℕ, ◌+◌}
use native.Mathlib.Numerals.{add-one}
use native.Mathlib.Omega.{arith}
use lib.Seq.{paste, paste-suc}
use lib.ListN.{length-set, set}
use Rattle.field.proofs.Elements.{words-length}
use Rattle.field.specs.Packed.{Holds}
use Rattle.field.specs.Word.{words}
use Rattle.field.specs.Level.{level_at}
use Rattle.lists.proofs.Words.{put_pasted}
use Rattle.field.proofs.packed.store.Goals as goal

pub loop-i-preserved : goal.loop-i-preserved
unfolding Holds
loop-i-preserved c =
    let a = c.args in
    let l = c.loop-i in
    let m = level_at a.level in (
      omega arith,
      l.invariant.1,
      simp length-set l.invariant.2,
      λ x h.
          ap₂ (λ (v : List ℕ) (u : ℕ). set v (a.at + l.i) u) (l.invariant.3 x h) (c.coordinate.ensures ∙ h l.i (omega (arith, l.invariant.1)))
          ∙ paste-suc a.s.now a.at (words m x) l.i 0 (omega (arith, l.invariant.1, c.requires.1)) (omega (arith, l.invariant.1, words-length m x))
          ∙ ap (paste a.s.now a.at (words m x)) (sym (add-one l.i)),
    )

pub returns : goal.returns
returns c x h =
    let a = c.args in
    let done : (level_at a.level).coordinates ≡ c.loop-i.i = omega (arith, c.loop-i.invariant.1) in
    c.loop-i.invariant.3 x h ∙ put_pasted a.at c.loop-i.i (words (level_at a.level) x) a.s.now (words-length (level_at a.level) x ∙ done)
