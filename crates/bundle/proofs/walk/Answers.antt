use Prim.Native.Nat.{ℕ, suc}
use mathlib.Core.Path.{sym, ap, ap₂, ◌∙◌}
use mathlib.Core.List.{List}
use lib.ListN.{length}
use Rattle.refusal.specs.Answer.{first_of}
use Rattle.field.specs.Level.{FIRST, level_at}
use Rattle.key.specs.declared.Key.{Key}
use Rattle.layout.specs.Layout.{key_tests, key_end}
use Rattle.layout.specs.Tests.{key_of}
use Rattle.layout.proofs.Rows.{exits, step_next, first_stops, first_ends}
use Rattle.layout.proofs.Files.{key-sized}
use Rattle.bundle.specs.Bundle.{starts_from, groups_tests, starts}
use Rattle.bundle.specs.Reading.{found}
use Rattle.bundle.proofs.walk.Goals as goal

pub returns-in_err-at : goal.returns-in_err-at
returns-in_err-at c =
    let l = level_at FIRST in
    let s = c.args.bytes.now in
    exits c.from_residual.ensures.1
    ∙ ap (λ a. found a (key_end l s) (length (starts l s))) (first_stops (key_tests l s) (groups_tests l (key_of s) s 0 (starts l s)) (key_end l s) (sym c.read_key.ensures ∙ c.in_err-at.was))

pub read_groups-requires : goal.read_groups-requires
read_groups-requires c =
    let s = c.args.bytes.now in
    rw c.key_at.ensures (key-sized (level_at FIRST) s (step_next (first_of (key_tests (level_at FIRST) s)) (key_end (level_at FIRST) s) (sym c.read_key.ensures ∙ c.in_ok-at.was)).0)

pub returns : goal.returns
returns c =
    let l = level_at FIRST in
    let s = c.args.bytes.now in
    let h = first_ends (key_tests l s) (groups_tests l (key_of s) s 0 (starts l s)) (key_end l s) (sym c.read_key.ensures ∙ c.in_ok-at.was) in
    let all : (key : Key) (at : ℕ) → List ℕ = λ key at. starts_from l key s (suc (length s)) at in
    c.read_groups.ensures
    ∙ ap₂ (λ (key : Key) (at : ℕ). found (first_of (groups_tests l key s 0 (all key at))) at (length (all key at))) c.key_at.ensures h.1
    ∙ ap (λ a. found a (key_end l s) (length (starts l s))) (sym h.0)
