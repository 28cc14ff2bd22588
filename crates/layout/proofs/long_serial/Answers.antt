use Rattle.std.proofs.Common.{◌≡◌, length, arith}
use Rattle.copying.specs.Words.{from_bytes}
use Rattle.copying.proofs.Bytes.{from_lt}
use borrow.Author.Tests.{eq-eqb}
use Rattle.layout.proofs.long_serial.Goals as goal

pub returns : goal.returns
returns c =
    let s = c.args.c.now in
    let four : length s ≡ 4 = omega arith in
    let small = from_lt s (λ i. omega (arith, c.type_inv.c i)) (omega arith) in
    let all : c.from_bytes.result ≡ from_bytes s = omega (arith, c.from_bytes.ensures) in
    rw (all, eq-eqb _ _ four)
