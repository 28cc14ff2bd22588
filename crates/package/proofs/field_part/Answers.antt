use Rattle.field.specs.Level.{FIRST, level_at}
use Rattle.layout.specs.Layout.{package_rows}
use Rattle.layout.specs.Tests.{part_of}
use Rattle.package.specs.Reading.{part_if, package_reader}
use Rattle.package.proofs.Accepted.{package_whole, of_reader}
use Rattle.package.proofs.field_part.Goals as goal

pub returns : goal.returns
returns c =
    let a = c.args in
    let s = a.bytes.now in
    of_reader (level_at FIRST) (package_reader (level_at FIRST)) s (λ r rows. part_if r (part_of a.tag 0 rows)) (package_whole (level_at FIRST) s) c.check_package.ensures (c.located.ensures.0 (level_at FIRST) (package_rows (level_at FIRST) s))
