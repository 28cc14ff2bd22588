use Rattle.std.proofs.Common.{◌≡◌, ◌^◌, ◌≤◌, ltb, length, take}
use Rattle.lists.specs.Words.{all}
use Rattle.key.proofs.over.Given as goal

abbrev pub invariant-loop-byte : goal.invariant-loop-byte
invariant-loop-byte l = (l.byte-index ≤ length l.s) × (ltb l.any (2 ^ l.digits) ≡ all (λ b. ltb b (2 ^ l.digits)) (take l.byte-index l.s))
