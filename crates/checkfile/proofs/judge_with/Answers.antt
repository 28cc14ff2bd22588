use mathlib.Core.Path.{◌≡◌}
use native.Mathlib.Omega.{arith}
use Rattle.field.specs.Level.{FIRST, level_at}
use Rattle.checkfile.specs.Checking.{content}
use Rattle.checkfile.proofs.Joined.{content-is}
use Rattle.checkfile.proofs.Rooms.{elements, masks, one, values}
use Rattle.copying.specs.Words.{Bytes}
use Rattle.checkfile.proofs.judge_with.Goals as goal

pub load-q_len-requires : goal.load-q_len-requires
load-q_len-requires c = (c.requires, omega (arith, elements c.args.bytes.now (λ i. omega (arith, c.type_inv.bytes i)) c.requires))

pub load-masks_len-requires : goal.load-masks_len-requires
load-masks_len-requires c = (c.requires, omega (arith, masks c.args.bytes.now (λ i. omega (arith, c.type_inv.bytes i)) c.requires))

pub load-delta_len-requires : goal.load-delta_len-requires
load-delta_len-requires c = (c.requires, omega (arith, one c.args.bytes.now (λ i. omega (arith, c.type_inv.bytes i)) c.requires))

pub load-alpha_len-requires : goal.load-alpha_len-requires
load-alpha_len-requires c = (c.requires, omega (arith, values c.args.bytes.now (λ i. omega (arith, c.type_inv.bytes i)) c.requires))

pub returns : goal.returns
returns c = rw (c.verify.ensures.outcome, content-is c.content-t.result c.args.bytes 0x06 c.requires c.content-t.ensures, c.load-q_len.ensures.0, c.load-masks_len.ensures.0, c.load-delta_len.ensures.0, c.load-alpha_len.ensures.0)
