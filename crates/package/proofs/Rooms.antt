-- The words of an accepted file's fields fit in the room for them: those of the key and of the group, in any form.
use mathlib.Core.Path.{◌≡◌, refl, ap}
use mathlib.Core.List.{List, [], ◌∷◌}
use Prim.Native.Nat.{ℕ, zero, suc, ◌+◌, ◌≤◌}
use native.Mathlib.Nat.{mul-le-mul}
use native.Mathlib.Omega.{arith}
use lib.ListN.{length, take, drop, replicate}
use lib.Seq.{take_at}
use Rattle.lists.specs.Words.{put}
use Rattle.copying.specs.Words.{words}
use Rattle.field.specs.Level.{FIRST, level_at}
use Rattle.field.proofs.Fields.{first-most, first-narrow}
use Rattle.key.specs.Key.{degree}
use Rattle.key.proofs.Sized.{first-matrix, degree-lt}
use Rattle.layout.specs.Tests.{key_of}
use Rattle.package.specs.Written.{Form, ValidKey, ValidGroup, handed}
use Rattle.package.specs.Said.{target_of, key_data_of, group_of}

-- y has at least the words of its field
target-le : (m : ℕ) (c : List ℕ) → length (target_of m c) ≡ m → length c ≤ m
target-le m [] h = omega arith
target-le m (a ∷ s) h = omega arith

-- the first m of k zeros where those words are put
take-zeros : (m k : ℕ) → m ≤ k → take {A = ℕ} m (replicate k 0) ≡ replicate m 0
take-zeros zero k h = refl
take-zeros (suc m) zero h = absurd (omega arith)
take-zeros (suc m) (suc k) h = ap (λ (s : List ℕ). zero ∷ s) (take-zeros m k (omega arith))

target-taken : (k m : ℕ) (c : List ℕ) → m ≤ k → length (target_of m c) ≡ m → take m (put 0 c (replicate k 0)) ≡ target_of m c
target-taken k m [] h e = take-zeros m k h
target-taken k m (a ∷ s) h e = take_at (a ∷ s) (drop (0 + length (a ∷ s)) (replicate k 0)) m e

module _ (form : Form) (s : List ℕ) where
  -- how many words the content of a field has
  abbrev pub size : ℕ → ℕ
  size tag = length (words (handed form s tag))

  module _ (v : ValidKey (level_at FIRST) (key_data_of form s)) where
    pub few : (key_of s).n ≤ 64
    few = omega (arith, v.sized.most, first-most)

    pub digits : degree (key_of s).n ≤ 6
    digits = omega (arith, degree-lt (key_of s).n 7 (omega (arith, v.sized.two)) (omega (arith, few)) (omega (arith, few)))

    pub rows : (key_of s).m ≤ 63
    rows = omega (arith, few, v.sized.fewer)

    pub matrix : size 0x02 ≤ 4032
    matrix = rw v.h.0 (first-matrix (key_of s) v.sized)

    pub vector : size 0x03 ≤ 64
    vector = rw v.x.0 few

    -- field 04 has m words, or is absent
    pub target : size 0x04 ≤ 63
    target = omega (arith, rows, target-le (key_of s).m (words (handed form s 0x04)) v.y.0)

    -- and y is told from zeros where its content is put
    pub target-put : take (key_of s).m (put 0 (words (handed form s 0x04)) (replicate 63 0)) ≡ (key_data_of form s).slices.y
    target-put = target-taken 63 (key_of s).m (words (handed form s 0x04)) rows v.y.0

    pub proof : ValidGroup (level_at FIRST) (key_of s) (group_of form s) → size 0x07 ≤ 72
    proof w = rw w.a.0 (mul-le-mul first-narrow digits)
