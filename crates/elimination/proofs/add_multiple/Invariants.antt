use Prim.Native.Nat.{◌%◌, ◌^◌, ◌≤◌, ◌<◌}
use mathlib.Core.Path.{◌≡◌}
use lib.Bits.{bit_xor}
use lib.ListN.{length, get_or}
use Rattle.field.specs.Level.{level_at}
use Rattle.elimination.specs.Steps.{Row}
use Rattle.elimination.proofs.Words.{product}
use Rattle.elimination.proofs.add_multiple.Given as goal

abbrev pub invariant-loop-k : goal.invariant-loop-k
invariant-loop-k l = (l.k ≤ l.width) × (l.width ≡ (level_at l.level).width)
    × Row (length l.initial.part) l.part (λ j. bit_xor (get_or l.initial.part j 0) (product (level_at l.level) l.f (get_or l.row j 0 % 2 ^ l.k))) × (l.k < l.width → l.multiple ≡ product (level_at l.level) l.f (2 ^ l.k))
