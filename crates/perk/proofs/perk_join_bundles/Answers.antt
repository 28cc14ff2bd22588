use Prim.Native.Nat.{ℕ}
use Rattle.perk.specs.Answered.{size_or}
use Rattle.perk.proofs.Numbers.{put, size-told}
use Rattle.perk.proofs.perk_join_bundles.Goals as goal

pub returns : goal.returns
returns c =
    let e = c.join_bundles.ensures in
    let w = c.join_bundles.result in
    let f = c.put_size.ensures in
    let old : ℕ × ℕ = (c.args.length.now, c.args.groups.now) in
    record { outcome = put size_or w old f e.outcome; reads = λ z. e.reads (record { length = c.put_size.new.length; groups = c.put_size.new.groups }) (size-told w old f z) }
