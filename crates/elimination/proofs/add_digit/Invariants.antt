use Rattle.std.proofs.Common.{◌≡◌, ℕ, ◌*◌, ◌/◌, ◌%◌, ◌^◌, ◌≤◌, ◌<◌, get_or}
use Rattle.std.specs.Int.Bits.{bit_xor, bit_and}
use Rattle.elimination.proofs.add_digit.Given as goal

abbrev pub invariant-loop-j : goal.invariant-loop-j
invariant-loop-j l = record {
  changed : (i : ℕ) → i < l.j → get_or l.part i 0 ≡ bit_xor (get_or l.fn.part i 0) (bit_and l.multiple (get_or l.row i 0 / 2 ^ l.k % 2 * 65535));
  rest : (i : ℕ) → l.j ≤ i → get_or l.part i 0 ≡ get_or l.fn.part i 0;
}
