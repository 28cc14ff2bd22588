use Rattle.std.proofs.Common.{◌≡◌, ◌%◌, drop}
use Rattle.copying.specs.Words.{from_bytes_after, from_bytes}
use Rattle.copying.proofs.from_bytes.Given as goal

abbrev pub invariant-loop-b : goal.invariant-loop-b
invariant-loop-b l = from_bytes_after l.x (drop l.b-index l.c) % 4294967296 ≡ from_bytes l.c % 4294967296
