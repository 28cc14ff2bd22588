use mathlib.Core.Path.{sym, ◌∙◌}
use Prim.Native.Nat.{◌/◌, ◌%◌}
use lib.ListN.{get_or}
use Rattle.field.proofs.Packing.{coordinate-is, lane_shift}
use Rattle.field.proofs.packed.coordinate.Goals as goal

pub returns : goal.returns
returns c = sym (coordinate-is c.args.ws.now c.args.i ∙ lane_shift (get_or c.args.ws.now (c.args.i / 4) 0) (c.args.i % 4))
