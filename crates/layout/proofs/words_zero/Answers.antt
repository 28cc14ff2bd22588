use Rattle.std.proofs.Common.{◌∙◌, arith}
use Rattle.layout.proofs.Words.{zeros_stop, zeros-go, zeros-end}
use Rattle.layout.proofs.words_zero.Goals as goal

pub returns-then-word_at-ne0 : goal.returns-then-word_at-ne0
returns-then-word_at-ne0 c =
    let p = c.in-Some.ensures.steps.1 in
    zeros_stop _ _ _ p.0 (p.1 ∙ c.loop-pair.invariant.0) (λ e. omega (arith, e)) ∙ c.loop-pair.invariant.1

pub loop-pair-preserved : goal.loop-pair-preserved
loop-pair-preserved c =
    let p = c.in-Some.ensures.steps.1 in
    (c.in-Some.ensures.steps.0 ∙ c.loop-pair.invariant.0, zeros-go _ _ _ p.0 (p.1 ∙ c.loop-pair.invariant.0) (omega arith) ∙ c.loop-pair.invariant.1)

pub returns : goal.returns
returns c = zeros-end c.loop-pair.pair-iterator.rest.now (omega (arith, c.in-None.ensures.steps.1.0)) ∙ c.loop-pair.invariant.1
