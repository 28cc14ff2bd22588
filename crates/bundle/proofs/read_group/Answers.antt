use Rattle.bundle.proofs.Steps.{group-further}
use Rattle.bundle.proofs.read_group.Goals as goal

pub returns : goal.returns
returns c =
    let a = c.args in
    group-further a.key a.s.now a.low a.at (c.read_serial.ensures a.key) c.read_proof.ensures
