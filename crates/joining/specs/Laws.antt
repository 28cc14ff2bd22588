-- What is promised of joined bundles, besides their bytes: that they are read back, what joining groups is, and what a look before the join tells.
use Rattle.std.specs.Prelude.{◌≡◌, false, cond, ◌⊎◌, List, [], ◌∷◌, ◌++◌, ℕ, ◌+◌, ◌≤◌, ◌<◌, ltb, length, take, drop, Ok, Err}
use Rattle.copying.specs.Words.{Bytes}
use Rattle.refusal.specs.declared.Refusal.{Refusal}
use Rattle.refusal.specs.declared.Refusal.TheVariants.{ShortOutput}
use Rattle.refusal.specs.Answer.{number, number_of}
use Rattle.field.specs.declared.Level.{Level}
use Rattle.layout.specs.Tests.{key_of}
use Rattle.package.specs.Written.{Group}
use Rattle.bundle.specs.Reading.{reading}
use Rattle.bundle.specs.Bundle.{groups_of}
use Rattle.bundle.specs.Written.{Rising, Accepted, said}
use Rattle.joining.specs.declared.Size.{Size}
use Rattle.joining.specs.Union.{union, differ}
use Rattle.joining.specs.Entry.{joined_bundle, join_answer, join_outcome}

-- where a size is answered and out is what the output then holds: its first bytes, as many as the length, are read as the joined bundle
pub record ReadBack (l : Level) (first second : List ℕ) (size : Size) (out : List ℕ) : Type 0 where
  pub fits : size.length ≤ length out
  pub read : reading l (take size.length out) ≡ Ok (record { n = (key_of first).n; m = (key_of first).m; groups = size.groups })
  pub says : said l (take size.length out) ≡ joined_bundle l first second

-- a group is one of these
abbrev pub In : Group → List Group → Type 0
In g [] = ⊥
In g (h ∷ groups) = (g ≡ h) ⊎ In g groups

-- groups of rising serials joined: the serials rise; each group is one of either, and each of either is there, where no two with one serial
-- differ; joined with themselves they stay; and then the order of the two does not matter
pub record UnionLaws : Type 0 where
  pub rises : (low : ℕ) (xs ys : List Group) → Rising low xs → Rising low ys → Rising low (union xs ys)
  pub either : (g : Group) (xs ys : List Group) → In g (union xs ys) → In g xs ⊎ In g ys
  pub second : (g : Group) (xs ys : List Group) → In g ys → In g (union xs ys)
  pub first : (g : Group) (xs ys : List Group) → Rising 0 xs → Rising 0 ys → differ xs ys ≡ false → In g xs → In g (union xs ys)
  pub itself : (xs : List Group) → Rising 0 xs → union xs xs ≡ xs
  pub order : (xs ys : List Group) → Rising 0 xs → Rising 0 ys → differ xs ys ≡ false → union xs ys ≡ union ys xs

-- a bundle joined with itself, into any output with room for it, is left as those very bytes
abbrev pub JoinsItself : Level → Type 0
JoinsItself l = (s : List ℕ) → Bytes s → Accepted l s → (out : List ℕ) → length s ≤ length out → join_outcome l s s out ≡ (Ok (record { length = length s; groups = length (groups_of l s) }), s ++ drop (length s) out)

-- the answers of the two entries, look_before_join by join_answer and join_bundles by join_outcome, for every output and every room
pub record LookLaws (l : Level) : Type 0 where
  -- "the one that the join itself would give": with an output of as many bytes as were named
  pub ahead : (first second out : List ℕ) → join_answer l first second (length out) ≡ (join_outcome l first second out).0
  -- a size that is told for one room is told for every other that holds it, one of exactly that length included, and a lesser room gets 13
  pub told : (first second : List ℕ) (room : ℕ) (size : Size) → join_answer l first second room ≡ Ok size → (other : ℕ) → join_answer l first second other ≡ cond (ltb other size.length) (Err ShortOutput) (Ok size)
  -- a refusal other than 13 is the same for every room
  pub refused : (first second : List ℕ) (room : ℕ) (k : Refusal) → join_answer l first second room ≡ Err k → (number k ≡ 13 → ⊥) → (other : ℕ) → join_answer l first second other ≡ Err k
  -- as many bytes as both bundles have are room enough
  pub enough : (first second : List ℕ) → Bytes first → Bytes second → (room : ℕ) → number_of (join_answer l first second room) ≡ 13 → room < length first + length second
