-- What holds where rank refuses nothing, and what its answer tells.
use mathlib.Core.Path.{◌≡◌, sym, ap, ap₂, ◌∙◌, subst}
use mathlib.Core.List.{List}
use Prim.Native.Nat.{ℕ, ◌*◌}
use Rattle.std.specs.Prelude.{Result, Ok, Err}
use native.Mathlib.Omega.{arith}
use borrow.Author.Tests.{not-false}
use lib.ListN.{length}
use Rattle.lists.specs.Lent.{long}
use Rattle.lists.proofs.Lent.{each_long}
use Rattle.refusal.specs.Answer.{first_of, written, Answer, Done}
use Rattle.refusal.specs.declared.Refusal.{Refusal}
use Rattle.refusal.proofs.Answers.{none}
use Rattle.field.specs.declared.Level.{Level}
use Rattle.field.specs.Level.{level_at}
use Rattle.field.specs.Word.{within, Words}
use Rattle.field.proofs.Fields.{bounded}
use Rattle.elimination.specs.Rank.{rank_of, cleared_words}
use Rattle.elimination.proofs.Leaning.{most, below}
use Rattle.key.specs.declared.Key.{Key}
use Rattle.key.specs.Key.{Sized, lengths}
use Rattle.key.proofs.Sized.{sized}
use Rattle.key.proofs.Fine.{within-le}
use Rattle.rank.specs.Entry.{ranked_as, rank_lent, rank_rows, rank_outcome, Tells}

module _ (number : ℕ) (key : Key) (h matrix : List ℕ) where
  abbrev l : Level
  l = level_at number

  pub record Fine : Type 0 where
    pub is-sized : Sized (level_at number) key
    pub h-length : length h ≡ key.m * key.n
    pub matrix-length : length matrix ≡ key.m * key.n
    pub h-words : Words (level_at number) h

  pub fine : first_of (rank_rows (level_at number) key h matrix) ≡ Done → Fine
  fine e =
      let f = none (rank_rows l key h matrix) e in
      let g = f.1.1.1.1 in
      let s = each_long (rank_lent (lengths l key) h matrix) (not-false (long (rank_lent (lengths l key) h matrix)) g.0) in
      record {
        is-sized = sized l key (f.0, (f.1.0, (f.1.1.0, (f.1.1.1.0, tt))));
        h-length = s.0;
        matrix-length = s.1.0;
        h-words = λ k. omega (arith, within-le l h (not-false (within l h) g.1.0) k, (bounded number).limit);
      }

  -- the outcome of a rank r with the matrix s
  pub ranked : {a : Answer} → a ≡ first_of (rank_rows (level_at number) key h matrix) → {r : ℕ} {s : List ℕ} → a ≡ Done → r ≡ rank_of (level_at number) key.n key.m h → s ≡ cleared_words (level_at number) key.n key.m h → (Ok r, s) ≡ rank_outcome (level_at number) key h matrix
  unfolding rank_outcome
  ranked e d f g = ap₂ (λ (x : Result ℕ Refusal) (y : List ℕ). (x, y)) (ap (λ (r : ℕ). Ok r) f ∙ ap (λ x. ranked_as x (rank_of l key.n key.m h)) (sym d ∙ e)) (g ∙ ap (λ x. written x (cleared_words l key.n key.m h) matrix) (sym d ∙ e))

-- the rank that an answer carries
abbrev value : Result ℕ Refusal → ℕ
value (Ok r) = r
value (Err q) = 0

pub tells : (number : ℕ) (key : Key) (h : List ℕ) {r : ℕ} → r ≡ rank_of (level_at number) key.n key.m h → (k : ℕ) → ◌≡◌ {A = Result ℕ Refusal} (Ok r) (Ok k) → Tells (level_at number) key h k
tells number key h e k f = subst (Tells (level_at number) key h) (sym e ∙ ap value f) (record { most = most (level_at number) key.n key.m h; below = below number key.n key.m h })
