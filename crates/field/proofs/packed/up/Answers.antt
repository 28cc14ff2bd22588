use Rattle.field.proofs.Lanes.{lane-up-zero, lane-up-suc}
use Rattle.field.proofs.packed.up.Goals as goal

pub returns : goal.returns
returns c = record { zero = lane-up-zero 3 c.args.x c.args.b c.requires; others = λ j l. lane-up-suc 3 c.args.x c.args.b j c.requires l }
