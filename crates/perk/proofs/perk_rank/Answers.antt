use Rattle.perk.specs.Answered.{found_or}
use Rattle.perk.proofs.Numbers.{put, found-told}
use Rattle.perk.proofs.perk_rank.Goals as goal

pub returns : goal.returns
returns c =
    let e = c.rank.ensures in
    let old = c.args.rank.now in
    let f = c.put.ensures in
    record { outcome = put found_or c.rank.result old f e.outcome; tells = λ z. e.tells c.put.new.to (found-told c.rank.result old f z) }
