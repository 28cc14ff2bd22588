use Rattle.std.proofs.Common.{◌≡◌, ◌+◌, ◌-◌, ◌^◌, ◌≤◌, get_or}
use Rattle.field.specs.Level.{level_at, K}
use Rattle.field.specs.Word.{odd, Words}
use Rattle.row.specs.Elements.{el, value_of}
use Rattle.row.proofs.ValueLaws.{Ends}
use Rattle.row.proofs.products.value_tree.Given as goal

abbrev pub invariant-loop-k : goal.invariant-loop-k
invariant-loop-k l =
    (l.at ≤ l.k) × (l.h ≡ 2 ^ (l.at + l.d - l.k)) × Words (level_at l.level) l.buf
    × Ends (K (level_at l.level)) l.d (λ k. odd (get_or l.bits (l.at + k) 0)) (λ k. el (level_at l.level) l.numbers (l.at + k)) (value_of (level_at l.level) l.delta.words) (el (level_at l.level) l.buf) (l.at + l.d - l.k)
