use Rattle.field.specs.Level.{level_at, K}
use Rattle.field.specs.Word.{odd}
use Rattle.field.specs.Packed.{Multiplies}
use Rattle.row.specs.Step.{Step, Doubled}
use Rattle.row.proofs.products.double.Given as goal

abbrev pub invariant-loop-p : goal.invariant-loop-p
invariant-loop-p l =
    (y : (K (level_at l.level)).Carrier) → Multiplies (level_at l.level) l.multiples y → Step (level_at l.level) l.fn.buf l.buf (λ f g. Doubled (K (level_at l.level)) f g l.n l.h l.s (odd l.w) y l.p)
