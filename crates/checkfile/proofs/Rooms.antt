-- The words of an accepted check file's fields fit in the room for them.
use mathlib.Core.Path.{◌≡◌}
use mathlib.Core.List.{List}
use Prim.Native.Nat.{ℕ, ◌+◌, ◌-◌, ◌≤◌}
use native.Mathlib.Nat.{mul-le-mul}
use native.Mathlib.Omega.{arith}
use lib.ListN.{length, take, replicate}
use Rattle.lists.specs.Words.{put}
use Rattle.copying.specs.Words.{Bytes, words}
use Rattle.field.specs.Level.{FIRST, level_at}
use Rattle.field.proofs.Fields.{first-narrow}
use Rattle.key.specs.Key.{degree}
use Rattle.layout.specs.Tests.{key_of}
use Rattle.package.specs.Written.{Form, check_form}
use Rattle.package.specs.Said.{key_data_of}
use Rattle.package.proofs.Rooms as any
use Rattle.checkfile.specs.Checking.{Accepts, content}
use Rattle.checkfile.proofs.Said.{data_of, within-limits}

module _ (s : List ℕ) (b : Bytes s) (e : Accepts (level_at FIRST) s) where
  abbrev form : Form
  form = check_form (level_at FIRST)

  abbrev limits : (check_form (level_at FIRST)).Limits (data_of s)
  limits = within-limits s b e

  -- how many words the content of a field has
  abbrev size : ℕ → ℕ
  size tag = length (words (content (level_at FIRST) s tag))

  pub rows : (key_of s).m ≤ 63
  rows = any.rows form s limits.0.0

  pub matrix : size 0x02 ≤ 4032
  matrix = any.matrix form s limits.0.0

  pub vector : size 0x03 ≤ 64
  vector = any.vector form s limits.0.0

  pub target : size 0x04 ≤ 63
  target = any.target form s limits.0.0

  pub target-put : take (key_of s).m (put 0 (words (content (level_at FIRST) s 0x04)) (replicate 63 0)) ≡ (key_data_of (check_form (level_at FIRST)) s).slices.y
  target-put = any.target-put form s limits.0.0

  pub proof : size 0x07 ≤ 72
  proof = any.proof form s limits.0.0 limits.0.1

  few : (key_of s).n ≤ 64
  few = any.few form s limits.0.0

  digits : degree (key_of s).n ≤ 6
  digits = any.digits form s limits.0.0

  pub elements : size 0x11 ≤ 4608
  elements = rw limits.1.q.0 (mul-le-mul first-narrow (mul-le-mul few digits))

  pub masks : size 0x12 ≤ 60
  masks = rw limits.1.masks.0 (mul-le-mul first-narrow less)
    where
      less : degree (key_of s).n - 1 ≤ 5
      less = omega (arith, digits)

  pub one : size 0x13 ≤ 12
  one = rw limits.1.delta.0 first-narrow

  pub values : size 0x14 ≤ 1524
  values = rw limits.1.alpha.0 (mul-le-mul first-narrow sum)
    where
      sum : (key_of s).n + (key_of s).m ≤ 127
      sum = omega (arith, few, limits.0.0.sized.fewer)
