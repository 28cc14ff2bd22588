use Rattle.field.specs.Level.{level_at, K}
use Rattle.row.specs.Elements.{value_of}
use Rattle.row.specs.Step.{Step, Twofold}
use Rattle.row.proofs.products.twin.Given as goal

abbrev pub invariant-loop-p : goal.invariant-loop-p
invariant-loop-p l =
    Step (level_at l.level) l.fn.buf l.buf (λ f g. Twofold (K (level_at l.level)) f g l.h (value_of (level_at l.level) l.fn.a.words) (value_of (level_at l.level) l.fn.b.words) l.p)
