use Rattle.field.specs.Level.{FIRST, level_at}
use Rattle.layout.proofs.Rows.{row_absent}
use Rattle.layout.proofs.read_optional.Goals as goal

pub returns-else-has_tag : goal.returns-else-has_tag
returns-else-has_tag c = row_absent (level_at FIRST) c.args.s.now c.args.at c.args.row c.has_tag.ensures c.if-has_tag.false
