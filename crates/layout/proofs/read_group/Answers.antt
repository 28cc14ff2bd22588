use mathlib.Core.List.{[], ◌∷◌}
use Rattle.field.specs.Level.{FIRST, level_at}
use Rattle.layout.specs.Layout.{serial_row, proof_rows}
use Rattle.layout.proofs.Rows.{outcome_more}
use Rattle.layout.proofs.read_group.Goals as goal

pub returns : goal.returns
returns c =
    let a = c.args in
    outcome_more (level_at FIRST) a.s.now a.at (serial_row a.s.now a.at ∷ []) (proof_rows (level_at FIRST) a.key) c.read_serial.ensures c.read_proof.ensures
