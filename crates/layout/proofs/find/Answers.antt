use native.Mathlib.Omega.{arith}
use Rattle.layout.specs.Tests.{part_of}
use Rattle.layout.proofs.Rest.{rest_all, rest-fits, rest-found, rest-past, rest_end}
use Rattle.layout.proofs.find.Goals as goal

pub loop-at-init : goal.loop-at-init
loop-at-init c = (omega arith, λ l rows w. rest_all l c.args.s.now c.args.tag rows w)

pub returns-then-s-at-lt-HEAD : goal.returns-then-s-at-lt-HEAD
returns-then-s-at-lt-HEAD c =
    let g = c.loop-at in
    let a = c.args in
    (λ l rows w. absurd (omega (arith, rest-fits l a.s.now a.tag (part_of a.tag 0 rows) g.at (g.invariant.1 l rows w) c.loop-at-test.true)), omega arith)

pub returns-then-s-start : goal.returns-then-s-start
returns-then-s-start c =
    let g = c.loop-at in
    let a = c.args in
    let e = c.word_at-len.ensures.0 in
    (λ l rows w. absurd (omega (arith, e, rest-fits l a.s.now a.tag (part_of a.tag 0 rows) g.at (g.invariant.1 l rows w) c.loop-at-test.true)), omega arith)

pub returns-then-found-tag : goal.returns-then-found-tag
returns-then-found-tag c =
    let g = c.loop-at in
    let a = c.args in
    (λ l rows w. rw c.word_at-len.ensures.0 (rest-found l a.s.now a.tag (part_of a.tag 0 rows) g.at (g.invariant.1 l rows w) c.loop-at-test.true c.if-found-tag.true), omega arith)

pub loop-at-preserved : goal.loop-at-preserved
loop-at-preserved c =
    let g = c.loop-at in
    let a = c.args in
    (omega arith, λ l rows w. rw c.word_at-len.ensures.0 (rest-past l a.s.now a.tag (part_of a.tag 0 rows) g.at (g.invariant.1 l rows w) c.loop-at-test.true c.if-found-tag.false))

pub returns : goal.returns
returns c =
    let g = c.loop-at in
    let a = c.args in
    (λ l rows w. rest_end l a.s.now a.tag (part_of a.tag 0 rows) g.at (g.invariant.1 l rows w) c.loop-at-test.false, omega arith)
