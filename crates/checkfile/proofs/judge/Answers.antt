use mathlib.Core.Path.{sym, ap}
use lib.Seq.{length-take-le}
use native.Mathlib.Omega.{arith}
use Rattle.key.specs.declared.Key.{Key}
use Rattle.checkfile.proofs.Rooms.{matrix, vector, rows, target, target-put, proof}
use Rattle.copying.specs.Words.{Bytes}
use Rattle.checkfile.proofs.judge.Goals as goal

pub load-h_len-requires : goal.load-h_len-requires
load-h_len-requires c = (c.requires.0, omega (arith, matrix c.args.bytes.now (λ i. omega (arith, c.type_inv.bytes i)) c.requires.0))

pub load-x_len-requires : goal.load-x_len-requires
load-x_len-requires c = (c.requires.0, omega (arith, vector c.args.bytes.now (λ i. omega (arith, c.type_inv.bytes i)) c.requires.0))

pub load-requires : goal.load-requires
load-requires c = (c.requires.0, omega (arith, target c.args.bytes.now (λ i. omega (arith, c.type_inv.bytes i)) c.requires.0))

pub load-a_len-requires : goal.load-a_len-requires
load-a_len-requires c = (c.requires.0, omega (arith, proof c.args.bytes.now (λ i. omega (arith, c.type_inv.bytes i)) c.requires.0))

pub slice_bounds-y-end : goal.slice_bounds-y-end
slice_bounds-y-end c = omega (arith, rows c.args.bytes.now (λ i. omega (arith, c.type_inv.bytes i)) c.requires.0, ap (λ (k : Key). k.m) c.requires.1)

pub slice_bounds-lent-end-3 : goal.slice_bounds-lent-end-3
slice_bounds-lent-end-3 c = sym (length-take-le _ _ (omega (arith, rows c.args.bytes.now (λ i. omega (arith, c.type_inv.bytes i)) c.requires.0, ap (λ (k : Key). k.m) c.requires.1)))

pub returns : goal.returns
returns c =
    rw (c.judge_with.ensures, c.requires.1, c.load-h_len.ensures.0, c.load-x_len.ensures.0, c.load.ensures.3, target-put c.args.bytes.now (λ i. omega (arith, c.type_inv.bytes i)) c.requires.0, c.load-a_len.ensures.0)
