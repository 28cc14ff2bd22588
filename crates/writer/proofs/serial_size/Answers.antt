use mathlib.Core.Path.{ap}
use native.Mathlib.Omega.{arith}
use lib.ListN.{length}
use Rattle.package.specs.Written.{serial_bytes}
use Rattle.package.proofs.Serial.{in_two, in_four}
use Rattle.writer.proofs.Fields.{field_length}
use Rattle.writer.proofs.serial_size.Goals as goal

pub returns-then-serial-lt65536 : goal.returns-then-serial-lt65536
returns-then-serial-lt65536 c = let x = c.args.serial in (omega (arith, field_length 0x05 (serial_bytes x), ap length (in_two x (omega arith))), omega arith)

pub returns-else-serial-lt65536 : goal.returns-else-serial-lt65536
returns-else-serial-lt65536 c = let x = c.args.serial in (omega (arith, field_length 0x05 (serial_bytes x), ap length (in_four x (omega arith))), omega arith)
