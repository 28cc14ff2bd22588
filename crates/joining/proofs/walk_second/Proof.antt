use Prim.Native.Nat.{ℕ, suc, ◌≤◌}
use mathlib.Core.Path.{◌≡◌, sym, ap, ap₂, ◌∙◌, subst}
use mathlib.Core.List.{List}
use native.Mathlib.Omega.{arith}
use borrow.Author.Rules.{rules}
use lib.ListN.{length, get_or, take}
use lib.Seq.{length-take-le}
use Rattle.copying.specs.Words.{Bytes}
use Rattle.refusal.specs.Answer.{first_of, Done}
use Rattle.refusal.proofs.Answers.{after-done}
use Rattle.field.specs.Level.{FIRST, level_at}
use Rattle.key.specs.declared.Key.{Key}
use Rattle.key.specs.Key.{Sized}
use Rattle.layout.specs.Layout.{key_tests, key_end}
use Rattle.layout.specs.Tests.{key_of}
use Rattle.layout.proofs.Files.{key-sized}
use Rattle.bundle.specs.Bundle.{starts_from, groups_tests, starts}
use Rattle.bundle.specs.Reading.{found}
use Rattle.bundle.proofs.Faithful.{key-within, again-done, again-end}
use Rattle.joining.proofs.Equal.{same_true}
use Rattle.joining.proofs.walk_second.Statement.{statement}
use Rattle.joining.proofs.walk_second.Tie as tie

bytes_one : (c : tie.After-shared_slice_known-1) → Bytes c.args.first.now
bytes_one c i = omega (arith, c.shared_slice_known-1.given i)

walk-requires : tie.Need-walk-requires
walk-requires c κs = search rules

returns-then-second-start : tie.Need-returns-then-second-start
returns-then-second-start c = search rules

slice_bounds-same-end : tie.Need-slice_bounds-same-end
slice_bounds-same-end c = sym (length-take-le c.args.start c.args.first.now (subst (λ i. i ≤ length c.args.first.now) (sym c.requires.1) (key-within c.args.first.now (bytes_one c.before.before) c.requires.0)))

slice_bounds-same-end-2 : tie.Need-slice_bounds-same-end-2
slice_bounds-same-end-2 c = sym (length-take-le c.args.start c.args.second.now (omega (arith, c.if-second-start.false)))

same-requires : tie.Need-same-requires
same-requires c κs = search rules

walk-requires-then-not-same : tie.Need-walk-requires-then-not-same
walk-requires-then-not-same c κs = search rules

returns-then-not-same : tie.Need-returns-then-not-same
returns-then-not-same c = search rules

byte_at-requires : tie.Need-byte_at-requires
byte_at-requires c κs = search rules

overflow_cast-t-11 : tie.Need-overflow_cast-t-11
overflow_cast-t-11 c = search rules

walk-requires-then-byte_at : tie.Need-walk-requires-then-byte_at
walk-requires-then-byte_at c κs = search rules

returns-then-byte_at : tie.Need-returns-then-byte_at
returns-then-byte_at c = search rules

key_at-requires : tie.Need-key_at-requires
key_at-requires c κs = search rules

-- the key fields are those of the first, and no field 04 follows
begins : (c : tie.After-key_at) → let a = c.args in take (key_end (level_at FIRST) a.first.now) a.second.now ≡ take (key_end (level_at FIRST) a.first.now) a.first.now
begins c =
    subst (λ i. take i c.args.second.now ≡ take i c.args.first.now) c.requires.1
    (sym (same_true (take c.args.start c.args.first.now) (take c.args.start c.args.second.now) (sym c.same.ensures ∙ c.if-not-same.false)))

other : (c : tie.After-key_at) → let a = c.args in get_or a.second.now (key_end (level_at FIRST) a.first.now) 0 ≡ 0x04 → ⊥
other c e =
    c.if-byte_at.false (c.byte_at.ensures.0 ∙ ap (λ i. get_or c.args.second.now i 0) c.requires.1 ∙ e)

done : (c : tie.After-key_at) → first_of (key_tests (level_at FIRST) c.args.second.now) ≡ Done
done c = again-done c.args.first.now (bytes_one c.before.before.before.before.before.before.before) c.requires.0 c.args.second.now (begins c) (other c)

end : (c : tie.After-key_at) → c.args.start ≡ key_end (level_at FIRST) c.args.second.now
end c = c.requires.1 ∙ sym (again-end c.args.first.now (bytes_one c.before.before.before.before.before.before.before) c.requires.0 c.args.second.now (begins c) (other c))

read_groups-requires : tie.Need-read_groups-requires
read_groups-requires c κs = subst (Sized (level_at FIRST)) (sym c.key_at.ensures) (key-sized (level_at FIRST) c.args.second.now (done c))

returns : tie.Need-returns
returns c =
    let l = level_at FIRST in
    let t = c.args.second.now in
    let all : (key : Key) (at : ℕ) → List ℕ = λ key at. starts_from l key t (suc (length t)) at in
    c.read_groups.ensures
    ∙ ap₂ (λ (key : Key) (at : ℕ). found (first_of (groups_tests l key t 0 (all key at))) at (length (all key at))) c.key_at.ensures (end c.before)
    ∙ ap (λ a. found a (key_end l t) (length (starts l t))) (sym (after-done (key_tests l t) (groups_tests l (key_of t) t 0 (starts l t)) (done c.before)))

pub walk_second_spec : {M : Type 1} → statement M
walk_second_spec =
    tie.close
    (tie.spec
    walk-requires
    returns-then-second-start
    slice_bounds-same-end
    slice_bounds-same-end-2
    same-requires
    walk-requires-then-not-same
    returns-then-not-same
    byte_at-requires
    overflow_cast-t-11
    walk-requires-then-byte_at
    returns-then-byte_at
    key_at-requires
    read_groups-requires
    returns)
