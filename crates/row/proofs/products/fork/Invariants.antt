use Rattle.std.proofs.Common.{not}
use Rattle.field.specs.Binary.{bit}
use Rattle.field.specs.Level.{level_at, K}
use Rattle.field.specs.Word.{odd}
use Rattle.row.specs.Step.{Step, Twofold}
use Rattle.row.proofs.products.fork.Given as goal

abbrev pub invariant-loop-p : goal.invariant-loop-p
invariant-loop-p l =
    Step (level_at l.level) l.fn.buf l.buf (λ f g. Twofold (K (level_at l.level)) f g l.h (bit (K (level_at l.level)) (not (odd l.w))) (bit (K (level_at l.level)) (odd l.w)) l.p)
