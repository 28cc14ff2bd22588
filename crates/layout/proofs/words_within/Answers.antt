use Rattle.std.proofs.Common.{ℕ, ap, ◌≡◌, ◌∙◌, arith}
use Rattle.field.specs.declared.Level.{Level}
use Rattle.field.specs.Level.{FIRST, level_at}
use Rattle.layout.proofs.Words.{words_stop, words-go, words-end}
use Rattle.layout.proofs.words_within.Goals as goal

-- the limit is the level's
limit : {l m : Level} {k : ℕ} → k ≡ l.limit → l ≡ m → k ≡ m.limit
limit e f = e ∙ ap (λ (l : Level). l.limit) f

pub returns-then-limit-word_at : goal.returns-then-limit-word_at
returns-then-limit-word_at c =
    let p = c.in-Some.ensures.steps.1 in
    words_stop (level_at FIRST) _ _ _ p.0 (p.1 ∙ c.loop-pair.invariant.0) (omega (arith, limit c.from-limit.ensures c.of.ensures)) ∙ c.loop-pair.invariant.1

pub loop-pair-preserved : goal.loop-pair-preserved
loop-pair-preserved c =
    let p = c.in-Some.ensures.steps.1 in
    (c.in-Some.ensures.steps.0 ∙ c.loop-pair.invariant.0, words-go (level_at FIRST) _ _ _ p.0 (p.1 ∙ c.loop-pair.invariant.0) (omega (arith, limit c.from-limit.ensures c.of.ensures)) ∙ c.loop-pair.invariant.1)

pub returns : goal.returns
returns c = words-end (level_at FIRST) c.loop-pair.pair-iterator.rest.now (omega (arith, c.in-None.ensures.steps.1.0)) ∙ c.loop-pair.invariant.1
