use Rattle.std.proofs.Common.{◌≡◌, ℕ, ◌-◌, length}
use Rattle.order.specs.Seen.{has}
use Rattle.order.specs.Entry.{among, offends, first_from, first_offender}
use Rattle.order.proofs.first_offender.Given as goal

abbrev pub invariant-loop-i : goal.invariant-loop-i
invariant-loop-i l =
    (length l.seen ≡ 2) × (first_offender l.n l.positions ≡ first_from (offends l.n l.positions) l.i (l.n - l.i)) × ((j : ℕ) → has l.seen j ≡ among l.positions l.i j)
