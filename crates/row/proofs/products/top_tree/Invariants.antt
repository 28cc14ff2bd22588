use Rattle.std.proofs.Common.{◌≡◌, ◌^◌}
use Rattle.field.specs.Level.{level_at, K}
use Rattle.field.specs.Word.{Words}
use Rattle.row.specs.Elements.{el}
use Rattle.row.specs.Polynomial.{digit}
use Rattle.row.proofs.ValueLaws.{Ends}
use Rattle.row.proofs.products.top_tree.Given as goal

abbrev pub invariant-loop-t : goal.invariant-loop-t
invariant-loop-t l =
    (l.h ≡ 2 ^ l.t) × Words (level_at l.level) l.buf
    × Ends (K (level_at l.level)) l.d (digit l.d l.position) (λ k. (K (level_at l.level)).zero) (K (level_at l.level)).one (el (level_at l.level) l.buf) l.t
