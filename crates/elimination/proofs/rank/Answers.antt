use Rattle.std.proofs.Common.{◌≡◌, ℕ, List, ◌≤◌, ◌<◌, length, get_or, refl, sym, ap, subst, arith, ◌∙◌}
use lib.Seq.{ext_get_or}
use Rattle.lists.proofs.Words.{set_more}
use Rattle.field.specs.Level.{level_at}
use Rattle.field.specs.Word.{Words}
use Rattle.elimination.specs.Rank.{cleared_words, rank_of}
use Rattle.elimination.proofs.rank.Goals as goal

-- the matrix is H when every word is put
all : (s h : List ℕ) (i : ℕ) → length s ≡ length h → length h ≤ i → ((k : ℕ) → k < i → get_or s k 0 ≡ get_or h k 0) → s ≡ h
all s h i e b f = ext_get_or 0 s h e (λ k l. f k (omega arith))

pub loop-i-preserved : goal.loop-i-preserved
loop-i-preserved c =
    let a = c.args in
    let l = c.loop-i in
    set_more (λ k x. x ≡ get_or a.h.now k 0) l.matrix l.i (get_or a.h.now l.i 0) (omega arith) l.invariant refl

pub eliminate-requires : goal.eliminate-requires
eliminate-requires c =
    let a = c.args in
    let l = c.loop-i in
    let same = all l.matrix a.h.now l.i (omega arith) (omega arith) l.invariant in
    (omega arith, c.requires.2, c.requires.3, subst (Words (level_at a.level)) (sym same) c.requires.4)

pub returns-clause-rank : goal.returns-clause-rank
returns-clause-rank c =
    let a = c.args in
    let l = c.loop-i in
    let same = all l.matrix a.h.now l.i (omega arith) (omega arith) l.invariant in
    c.eliminate.ensures.rank ∙ ap (rank_of (level_at a.level) a.n a.m) same

pub returns-clause-cleared : goal.returns-clause-cleared
returns-clause-cleared c =
    let a = c.args in
    let l = c.loop-i in
    let same = all l.matrix a.h.now l.i (omega arith) (omega arith) l.invariant in
    c.eliminate.ensures.cleared ∙ ap (cleared_words (level_at a.level) a.n a.m) same
