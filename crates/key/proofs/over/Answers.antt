use Rattle.std.proofs.Common.{◌^◌, ltb}
use mathlib.Core.Bool.{◌&&◌}
use mathlib.Core.Path.{sym, ap, ◌∙◌}
use native.Mathlib.Omega.{arith}
use borrow.Author.Tests.{lt-ltb}
use lib.ListN.{get_or}
use lib.Pow.{pow_pos}
use lib.Seq.{take_all}
use Rattle.lists.specs.Words.{all}
use Rattle.lists.proofs.Words.{all_more}
use Rattle.field.proofs.Limit.{or-below, high-none}
use Rattle.key.specs.Key.{below}
use Rattle.key.proofs.over.Goals as goal

pub loop-byte-init : goal.loop-byte-init
unfolding all
loop-byte-init c = (omega arith, lt-ltb 0 (2 ^ c.args.digits) (pow_pos c.args.digits))

pub loop-byte-preserved : goal.loop-byte-preserved
loop-byte-preserved c =
    let l = c.loop-byte in
    let a = c.args in
    let s = a.s.now in
    (omega arith, or-below a.digits l.any (get_or s l.byte-index 0) ∙ ap (λ b. b && ltb (get_or s l.byte-index 0) (2 ^ a.digits)) l.invariant.1 ∙ sym (all_more (λ b. ltb b (2 ^ a.digits)) s l.byte-index (omega arith)))

pub returns : goal.returns
unfolding below
returns c =
    let a = c.args in
    high-none a.digits c.loop-byte.any ∙ c.loop-byte.invariant.1 ∙ ap (λ s. all (λ b. ltb b (2 ^ a.digits)) s) (take_all c.loop-byte.byte-index a.s.now (omega arith))
