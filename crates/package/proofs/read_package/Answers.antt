use Rattle.std.proofs.Common.{arith}
use Rattle.field.specs.Level.{FIRST, level_at}
use Rattle.layout.specs.Layout.{package_rows}
use Rattle.package.specs.Reading.{read_as, contents_of, package_reader}
use Rattle.package.proofs.Accepted.{package_whole, package_serial, of_reader}
use Rattle.package.proofs.read_package.Goals as goal

pub returns : goal.returns
returns c =
    let l = level_at FIRST in
    let s = c.args.bytes.now in
    of_reader l (package_reader l) s (λ r rows. read_as r (contents_of s rows)) (package_whole l s) c.check_package.ensures
    (λ w. c.read_as.ensures l (package_rows l s) w (package_serial l s (λ i. omega (arith, c.type_inv.bytes i))))
