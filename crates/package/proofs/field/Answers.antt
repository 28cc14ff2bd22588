use Rattle.std.proofs.Common.{refl, ap}
use native.Mathlib.Nat.{add_comm, add-sub_cancel_left}
use Rattle.lists.specs.Words.{part}
use Rattle.field.specs.Level.{FIRST, level_at}
use Rattle.layout.specs.Layout.{package_rows}
use Rattle.layout.specs.Tests.{part_of}
use Rattle.package.specs.Reading.{part_if, package_reader}
use Rattle.package.proofs.Accepted.{package_whole, of_reader}
use Rattle.package.proofs.field.Goals as goal

pub returns : goal.returns
returns c =
    let a = c.args in
    let s = a.bytes.now in
    let p = c.located-p.result in
    let found = of_reader (level_at FIRST) (package_reader (level_at FIRST)) s (λ r rows. part_if r (part_of a.tag 0 rows)) (package_whole (level_at FIRST) s) c.check_package.ensures (c.located-p.ensures.0 (level_at FIRST) (package_rows (level_at FIRST) s)) in
    rw (← found) (record { bytes = ap (λ n. part p.start n s) (add-sub_cancel_left p.start p.len); block = refl; offset = add_comm _ _ })
