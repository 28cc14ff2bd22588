use Rattle.std.proofs.Common.{◌≡◌, ◌<◌, ◌≤◌, ltb, length, take}
use Rattle.lists.specs.Words.{all}
use Rattle.key.proofs.Key.codes.Given as goal

abbrev pub invariant-loop-position : goal.invariant-loop-position
invariant-loop-position l =
    let seen = take l.position-index l.positions in
    (l.position-index ≤ length l.positions) × (l.no_column < 512) × (l.no_code < 512) × (ltb l.no_column 256 ≡ all (λ p. ltb p l.n) seen) × (ltb l.no_code 256 ≡ all (λ p. ltb p l.power) seen)
