use Rattle.std.proofs.Common.{◌≡◌, ℕ, ◌^◌, take}
use Rattle.std.specs.Prelude.{ltb}
use Rattle.lists.specs.Words.{all}
use Rattle.field.proofs.excess.Given as goal

abbrev pub invariant-loop-x : goal.invariant-loop-x
invariant-loop-x l = (w : ℕ) → ltb l.any (2 ^ w) ≡ all (λ x. ltb x (2 ^ w)) (take l.x-index l.s)
