use Prim.Native.Nat.{ℕ}
use mathlib.Core.Path.{ap, ◌∙◌}
use Rattle.std.specs.Prelude.{Result}
use Rattle.refusal.specs.declared.Refusal.{Refusal}
use Rattle.joining.specs.declared.Size.{Size}
use Rattle.perk.specs.Answered.{size_or}
use Rattle.perk.proofs.perk_look_before_join.Goals as goal

pub returns : goal.returns
returns c =
    let a = c.args in
    let put : Result Size Refusal → ℕ × (ℕ × ℕ) = λ w. size_or w (a.length.now, a.groups.now) in
    let e = c.look_before_join.ensures in
    let f = c.put_size.ensures in
    record { outcome = f ∙ ap put e.outcome; ahead = λ out g. f ∙ ap put (e.ahead out g) }
