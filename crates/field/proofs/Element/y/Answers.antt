use mathlib.Core.Path.{refl}
use mathlib.Core.List.{[], ◌∷◌}
use Rattle.field.specs.Vector.{zeros, unit, sum, scale, push, top}
use Rattle.field.specs.Quotient.{rule, times_x, horner, times, generator}
use Rattle.field.specs.Level.{first, second, F, K, Y}
use Rattle.field.specs.Word.{number, list, word, words}
use Rattle.field.specs.Packed.{lane, coordinate, Holds}
use Rattle.field.proofs.Packing.{coordinates}
use Rattle.field.proofs.Elements.{holds-list}
use Rattle.field.proofs.Named.{every}
use Rattle.field.proofs.Element.y.Goals as goal

pub returns : goal.returns
unfolding coordinates coordinate lane words word list number F K Y generator times_x times horner rule zeros unit sum scale push top
returns c = every (λ l. Holds l (65536 ∷ 0 ∷ 0 ∷ 0 ∷ 0 ∷ 0 ∷ []) (Y l)) c.args.level (holds-list first (65536 ∷ 0 ∷ 0 ∷ 0 ∷ 0 ∷ 0 ∷ []) (Y first) refl) (holds-list second (65536 ∷ 0 ∷ 0 ∷ 0 ∷ 0 ∷ 0 ∷ []) (Y second) refl)
