use Rattle.std.proofs.Common.{ℕ, ◌≡◌, ◌+◌, ◌≤◌, ◌<◌, sym, ap, ◌∙◌, arith}
use native.Mathlib.Nat.{add-sub_cancel_left}
use borrow.Author.Tests.{lt-ltb, le-ltb, eq-eqb, ne_eqb}
use Rattle.lists.specs.Words.{part}
use Rattle.refusal.specs.Answer.{first_of}
use Rattle.field.specs.Level.{FIRST, level_at}
use Rattle.layout.specs.Tests.{value_tests, row_tests}
use Rattle.layout.proofs.Rows.{row-whole}
use Rattle.layout.proofs.check_row.Goals as goal

-- the bytes that are left have no room for tag and length, or they have it
short : {k n : ℕ} → k ≡ n → k < 3 → n < 3
short e h = omega arith

enough : {k n : ℕ} → k ≡ n → 3 ≤ k → 3 ≤ n
enough e h = omega arith

pub returns-then-left-lt-HEAD : goal.returns-then-left-lt-HEAD
unfolding row_tests
returns-then-left-lt-HEAD c = simp (lt-ltb _ _ (short c.left.ensures c.if-left-lt-HEAD.true))

pub returns-then-s-at : goal.returns-then-s-at
unfolding row_tests
returns-then-s-at c = simp (le-ltb _ _ (enough c.left.ensures c.if-left-lt-HEAD.false), ne_eqb _ _ c.if-s-at.true)

pub returns-then-word_at-row : goal.returns-then-word_at-row
unfolding row_tests
returns-then-word_at-row c = simp (le-ltb _ _ (enough c.left.ensures c.if-left-lt-HEAD.false), eq-eqb _ _ c.if-s-at.false, ne_eqb _ _ (λ h. c.if-word_at-row.true (c.word_at.ensures.0 ∙ h)))

pub returns-then-s-start : goal.returns-then-s-start
unfolding row_tests
returns-then-s-start c = simp (le-ltb _ _ (enough c.left.ensures c.if-left-lt-HEAD.false), eq-eqb _ _ c.if-s-at.false, eq-eqb _ _ (sym c.word_at.ensures.0 ∙ c.if-word_at-row.false), lt-ltb _ _ c.if-s-start.true)

pub returns : goal.returns
returns c =
    let a = c.args in
    c.values.ensures
    ∙ ap (λ n. first_of (value_tests (level_at FIRST) a.row.kind (part (a.at + 3) n a.s.now))) (add-sub_cancel_left (a.at + 3) a.row.len)
    ∙ row-whole (level_at FIRST) a.s.now a.at a.row (enough c.left.ensures c.if-left-lt-HEAD.false) c.if-s-at.false (sym c.word_at.ensures.0 ∙ c.if-word_at-row.false) c.if-s-start.false
