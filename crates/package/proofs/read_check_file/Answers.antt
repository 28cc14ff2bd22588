use Rattle.std.proofs.Common.{arith}
use Rattle.field.specs.Level.{FIRST, level_at}
use Rattle.layout.specs.Layout.{check_file_rows}
use Rattle.package.specs.Reading.{read_as, contents_of, check_file_reader}
use Rattle.package.proofs.Accepted.{check_file_whole, check_file_serial, of_reader}
use Rattle.package.proofs.read_check_file.Goals as goal

pub returns : goal.returns
returns c =
    let l = level_at FIRST in
    let s = c.args.bytes.now in
    of_reader l (check_file_reader l) s (λ r rows. read_as r (contents_of s rows)) (check_file_whole l s) c.check_file.ensures
    (λ w. c.read_as.ensures l (check_file_rows l s) w (check_file_serial l s (λ i. omega (arith, c.type_inv.bytes i))))
