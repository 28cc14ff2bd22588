use Rattle.std.proofs.Common.{subst}
use Rattle.field.specs.Level.{level_at, K}
use Rattle.field.specs.Packed.{Holds}
use Rattle.row.specs.Elements.{el, value_of}
use Rattle.checkzero.proofs.Laws.{pow-none, mask-sum-none}
use Rattle.checkzero.proofs.mask_sum.Goals as goal

pub loop-k-init : goal.loop-k-init
loop-k-init c =
    let l = level_at c.args.level in
    let Δ = value_of l c.args.delta.words in
    record {
      power = subst (Holds l c.one-power.result.words) (pow-none (K l) Δ) c.one-power.ensures;
      total = subst (Holds l c.zero-total.result.words) (mask-sum-none (K l) Δ (el l c.args.masks.now)) c.zero-total.ensures;
    }
