use mathlib.Core.Path.{◌≡◌}
use native.Mathlib.Omega.{arith}
use lib.ListN.{get_or}
use Rattle.field.proofs.Packing.{by_lanes}
use Rattle.field.specs.Packed.{Holds, room}
use Rattle.field.specs.Word.{small, words}
use Rattle.field.specs.Level.{embed, level_at, K}
use Rattle.field.proofs.packed.scaled.Goals as goal

pub returns : goal.returns
unfolding Holds
returns c x below h =
    let m = level_at c.args.level in
    by_lanes c.loop-q.z (λ k v. v ≡ get_or (words m ((K m).mul ((embed m).map (small m c.args.f)) x)) k 0) (room m) m.coordinates (omega arith) (λ q j hq hj hc. c.loop-q.invariant.3 q (omega (arith, c.loop-q.invariant.1)) x below h j hj hc)
