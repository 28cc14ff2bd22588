-- What the functions that join two bundles rely on and answer: inner data, no part of the entries' promises.
use Rattle.std.specs.Prelude.{◌≡◌, true, false, List, ℕ, ◌+◌, ◌≤◌, length, Result, Ok, Err}
use Rattle.refusal.specs.Answer.{Answer}
use Rattle.refusal.specs.declared.Refusal.{Refusal}
use Rattle.refusal.specs.declared.Refusal.TheVariants.{GroupsDiffer}
use Rattle.field.specs.declared.Level.{Level}
use Rattle.layout.specs.Layout.{key_end}
use Rattle.layout.specs.Tests.{key_of}
use Rattle.package.specs.Written.{joined, Group}
use Rattle.bundle.specs.Written.{Accepted, groups_fields, written}
use Rattle.joining.specs.declared.Shared.{Shared}
use Rattle.joining.specs.declared.Plan.{Plan}
use Rattle.joining.specs.Union.{union, differ}
use Rattle.joining.specs.Entry.{joined_bundle}

-- two accepted bundles of one n and m, whose groups start at the same position
pub record Mates (l : Level) (s t : List ℕ) (start : ℕ) : Type 0 where
  pub first : Accepted l s
  pub second : Accepted l t
  pub from_first : key_end l s ≡ start
  pub from_second : key_end l t ≡ start
  pub key : key_of t ≡ key_of s

-- the bytes of groups
abbrev pub groups_bytes : List Group → List ℕ
groups_bytes groups = joined (groups_fields groups)

-- so many groups, and so many bytes of groups, stand in both lists, and no two with one serial differ
pub record Counted (xs ys : List Group) (number size : ℕ) : Type 0 where
  pub agree : differ xs ys ≡ false
  pub groups : length (union xs ys) + number ≡ length xs + length ys
  pub few : number ≤ length xs
  pub bytes : length (groups_bytes (union xs ys)) + size ≡ length (groups_bytes xs) + length (groups_bytes ys)
  pub short : size ≤ length (groups_bytes xs)

-- the shared groups, or 22
abbrev pub Tallied : (xs ys : List Group) → Result Shared Refusal → Type 0
Tallied xs ys (Ok s) = Counted xs ys s.number s.length
Tallied xs ys (Err r) = (differ xs ys ≡ true) × (r ≡ GroupsDiffer)

-- the joined bundle that fits, or the refusal
abbrev pub planned : (l : Level) (first second : List ℕ) → Answer → Result Plan Refusal
planned l first second (Ok _) =
    Ok (record { start = key_end l first; size = record { length = length (written (joined_bundle l first second)); groups = length (joined_bundle l first second).groups } })
planned l first second (Err r) = Err r
