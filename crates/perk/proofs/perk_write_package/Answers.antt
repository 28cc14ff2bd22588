use Rattle.perk.specs.Answered.{found_or}
use Rattle.perk.proofs.Numbers.{put, found-told, found-leans}
use Rattle.perk.proofs.perk_write_package.Goals as goal

pub returns : goal.returns
returns c =
    let e = c.write_package.ensures in
    let old = c.args.length.now in
    let w = c.write_package.result in
    let f = c.put.ensures in
    record { outcome = put found_or w old f e.outcome; leans = found-leans w old f e.leans; reads = λ z. e.reads c.put.new.to (found-told w old f z) }
