use Rattle.std.proofs.Common.{◌≡◌, ℕ, ◌+◌, ◌-◌, ◌*◌, ◌^◌, ◌≤◌, ◌<◌, length, refl, sym, arith, ◌∙◌, subst}
use Rattle.lists.proofs.Words.{part_length}
use Rattle.field.specs.Level.{level_at, F}
use Rattle.field.specs.Word.{small, word, Words}
use Rattle.field.proofs.Fields.{bounded}
use Rattle.elimination.specs.Steps.{Grid, entry_at, times_word}
use Rattle.elimination.proofs.Words.{times-is, times-lt}
use Rattle.elimination.proofs.Grids.{row-end, words-part}
use Rattle.elimination.proofs.Clearing.{cleared, skipped, added, added_words}
use Rattle.elimination.proofs.clear.Goals as goal
use Rattle.elimination.proofs.clear.Goals.{then-used-from-eq0, else-used-from-eq0}

-- the factor of a row
factor : (level x v r : ℕ) → x < 2 ^ (level_at level).width → v < 2 ^ (level_at level).width → (x ≤ (level_at level).limit → v ≤ (level_at level).limit → r ≡ word (level_at level) ((F (level_at level)).mul (small (level_at level) x) (small (level_at level) v))) → r ≡ times_word (level_at level) x v
factor level x v r h k e = times-is (level_at level) x v (e (omega (arith, (bounded level).whole)) (omega (arith, (bounded level).whole)))

pub add_multiple-requires : goal.add_multiple-requires
add_multiple-requires c =
    let l = c.loop-k in
    let a = c.args in
    let room : l.k * a.n + a.n ≤ length l.rest = omega (arith, row-end a.n l.k a.rows (omega arith) (omega arith), l.invariant.grid.size) in (
      part_length (l.k * a.n + a.c) (l.k * a.n + a.n - (l.k * a.n + a.c)) l.rest (omega arith) ∙ omega (arith, c.requires.rest_len.5),
      words-part (level_at a.level) (l.k * a.n + a.c) (l.k * a.n + a.n - (l.k * a.n + a.c)) l.rest l.invariant.words,
      c.requires.words.1,
      subst (λ x. x < 2 ^ (level_at a.level).width) (sym (factor a.level (entry_at a.n l.rest l.k a.c) a.v c.product-f.result (l.invariant.words (l.k * a.n + a.c)) c.requires.words.2 c.product-f.ensures)) (times-lt (level_at a.level) (entry_at a.n l.rest l.k a.c) a.v),
    )

pub loop-k-preserved : goal.loop-k-preserved
loop-k-preserved c =
    let l = c.loop-k in
    let a = c.args in
    let L = level_at a.level in
    let b : ℕ = l.k * a.n + a.c in
    let q : l.k < a.rows = omega arith in
    let both : Grid a.rows a.n c.if-used-from-eq0.rest (cleared L a.n a.c a.v a.from a.used.now a.row.now a.rest.now (l.k + 1)) × Words L c.if-used-from-eq0.rest =
    elim c.if-used-from-eq0.branch [
      | then-used-from-eq0 w ↦ let e = factor a.level (entry_at a.n l.rest l.k a.c) a.v w.product-f.result (l.invariant.words b) c.requires.words.2 w.product-f.ensures in
          rw w.rest-is (
            added L a.n a.c a.v a.from a.used.now a.row.now a.rest.now a.rows l.k l.rest q c.requires.rest_len.4 l.invariant.grid b (l.k * a.n + a.n - b) w.product-f.result w.add_multiple.new.part refl (omega arith) w.if-used-from-eq0.true e w.add_multiple.ensures,
            added_words L a.n a.c a.v a.from a.used.now a.row.now a.rest.now a.rows l.k l.rest q c.requires.rest_len.4 l.invariant.grid b (l.k * a.n + a.n - b) w.product-f.result w.add_multiple.new.part refl (omega arith) w.if-used-from-eq0.true e w.add_multiple.ensures l.invariant.words,
          )
      | else-used-from-eq0 w ↦ rw w.rest-is (skipped L a.n a.c a.v a.from a.used.now a.row.now a.rest.now a.rows l.k l.rest q c.requires.rest_len.4 l.invariant.grid w.if-used-from-eq0.false, l.invariant.words)
    ] in
    record { grid = both.0; words = both.1 }
