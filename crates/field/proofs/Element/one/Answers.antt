use mathlib.Core.Path.{refl}
use mathlib.Core.List.{[], ◌∷◌}
use Rattle.field.specs.Vector.{zeros, unit}
use Rattle.field.specs.Level.{first, second, F, K}
use Rattle.field.specs.Word.{number, list, word, words}
use Rattle.field.specs.Packed.{lane, coordinate, Holds}
use Rattle.field.proofs.Packing.{coordinates}
use Rattle.field.proofs.Elements.{holds-list}
use Rattle.field.proofs.Named.{every}
use Rattle.field.proofs.Element.one.Goals as goal

pub returns : goal.returns
unfolding coordinates coordinate lane words word list number F K zeros unit
returns c = every (λ l. Holds l (1 ∷ 0 ∷ 0 ∷ 0 ∷ 0 ∷ 0 ∷ []) (K l).one) c.args.level (holds-list first (1 ∷ 0 ∷ 0 ∷ 0 ∷ 0 ∷ 0 ∷ []) (K first).one refl) (holds-list second (1 ∷ 0 ∷ 0 ∷ 0 ∷ 0 ∷ 0 ∷ []) (K second).one refl)
