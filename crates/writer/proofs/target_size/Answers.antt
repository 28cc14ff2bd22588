use mathlib.Core.Path.{sym, ap, ◌∙◌}
use native.Mathlib.Omega.{arith}
use lib.ListN.{length}
use Rattle.package.specs.Written.{joined}
use Rattle.package.proofs.Target.{absent, present}
use Rattle.writer.proofs.Fields.{words-length}
use Rattle.writer.proofs.target_size.Goals as goal

pub returns-then-zero : goal.returns-then-zero
unfolding joined
returns-then-zero c = (sym (ap (λ f. length (joined f)) (absent _ (sym c.zero.ensures ∙ c.if-zero.true))), omega arith)

pub returns-else-zero : goal.returns-else-zero
returns-else-zero c =
    let y = c.args.y.now in
    let e = ap (λ f. length (joined f)) (present y (sym c.zero.ensures ∙ c.if-zero.false)) in
    (omega (arith, e, words-length 0x04 y), omega arith)
