use mathlib.Core.Path.{sym, ◌∙◌}
use native.Mathlib.Omega.{arith}
use Rattle.layout.proofs.Rows.{exits}
use Rattle.bundle.proofs.Steps.{serial_stops, serial-below, serial-passes, serial-fits}
use Rattle.bundle.proofs.read_serial.Goals as goal

pub returns-in_err-end : goal.returns-in_err-end
returns-in_err-end c =
    let a = c.args in
    λ key. exits c.from_residual.ensures.1 ∙ sym c.in_err-end.was ∙ serial_stops key a.s.now a.low a.at c.read_serial.ensures c.in_err-end.was

pub serial_at-requires : goal.serial_at-requires
serial_at-requires c =
    let a = c.args in
    serial-fits (record { n = 0; m = 0 }) a.s.now a.low a.at c.read_serial.ensures c.in_ok-end.was

pub returns-then-serial_at-low : goal.returns-then-serial_at-low
returns-then-serial_at-low c =
    let a = c.args in
    λ key. serial-below key a.s.now a.low a.at c.read_serial.ensures c.in_ok-end.was (omega (arith, c.serial_at.ensures key, c.if-serial_at-low.true))

pub returns-else-serial_at-low : goal.returns-else-serial_at-low
returns-else-serial_at-low c =
    let a = c.args in
    λ key. sym c.in_ok-end.was ∙ serial-passes key a.s.now a.low a.at c.read_serial.ensures c.in_ok-end.was (omega (arith, c.serial_at.ensures key, c.if-serial_at-low.false))
