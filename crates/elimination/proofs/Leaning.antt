-- The computed test of refusal 15 and what it means, at every level.
use mathlib.Core.Path.{◌≡◌}
use mathlib.Core.Bool.{true}
use mathlib.Core.Logic.{◌↔◌}
use mathlib.Core.List.{List}
use Prim.Native.Nat.{ℕ, ◌≤◌, ◌<◌}
use borrow.Author.Tests.{ltb-true, lt-ltb}
use Rattle.lists.proofs.Count.{count-le}
use Rattle.field.specs.declared.Level.{Level}
use Rattle.field.specs.Level.{level_at}
use Rattle.field.proofs.Fields.{bounded}
use Rattle.galois.proofs.Inverse.{level_inverts}
use Rattle.elimination.specs.Elimination.{rank}
use Rattle.elimination.specs.Rank.{rank_of, short, Leaning}
use Rattle.elimination.proofs.Words.{short_leaning}

-- the rank is at most m, and below it exactly when the rows lean on each other
pub most : (l : Level) (n m : ℕ) (h : List ℕ) → rank_of l n m h ≤ m
unfolding rank_of rank
most l n m h = count-le m _

pub below : (number n m : ℕ) (h : List ℕ) → (rank_of (level_at number) n m h < m) ↔ Leaning (level_at number) n m h
below number = short_leaning (level_at number) (level_inverts number) (bounded number).width

pub leaning : (number n m : ℕ) (h : List ℕ) → (short (level_at number) n m h ≡ true) ↔ Leaning (level_at number) n m h
leaning number n m h =
    let e = below number n m h in
    (λ t. e.0 (ltb-true (rank_of (level_at number) n m h) m t), λ d. lt-ltb (rank_of (level_at number) n m h) m (e.1 d))
