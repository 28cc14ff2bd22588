use Prim.Native.Nat.{ℕ, ◌+◌, ◌-◌, ◌*◌}
use mathlib.Core.Path.{◌≡◌, ap, ◌∙◌}
use mathlib.Core.List.{List}
use native.Mathlib.Nat.{add-sub_cancel_left}
use native.Mathlib.Omega.{arith}
use lib.ListN.{length}
use Rattle.lists.specs.Words.{part}
use Rattle.lists.proofs.Words.{part_length}
use Rattle.copying.specs.Words.{words}
use Rattle.copying.proofs.Bytes.{words-length}
use Rattle.field.specs.Level.{FIRST, level_at}
use Rattle.field.specs.Word.{Words}
use Rattle.elimination.proofs.Words.{within-lt}
use Rattle.key.specs.declared.Key.{Key}
use Rattle.key.specs.declared.Lengths.{Lengths}
use Rattle.key.specs.Key.{lengths}
use Rattle.key.proofs.Fine.{within-le}
use Rattle.key.proofs.Sized.{first-matrix}
use Rattle.layout.specs.Layout.{matrix_of}
use Rattle.layout.specs.Tests.{key_of}
use Rattle.layout.proofs.Files.{Filled, filled}
use Rattle.layout.proofs.rows_lean.Goals as goal

-- bytes whose first fields are not refused
module _ (s : List ℕ) (f : Filled (level_at FIRST) s) where
  -- how many elements field 02 has
  count : length (matrix_of (level_at FIRST) s) ≡ (lengths (level_at FIRST) (key_of s)).matrix
  count = let k = (lengths (level_at FIRST) (key_of s)).matrix in words-length (part 8 (2 * k) s) k (part_length 8 (2 * k) s f.fits)

  fine : Words (level_at FIRST) (matrix_of (level_at FIRST) s)
  fine k = within-lt FIRST (within-le (level_at FIRST) (matrix_of (level_at FIRST) s) f.fine k)

  -- m n, by the key's bytes
  module _ {key : Key} {n : Lengths} (d : n ≡ lengths (level_at FIRST) key) (e : key ≡ key_of s) where
    size : n.matrix ≡ (lengths (level_at FIRST) (key_of s)).matrix
    size = ap (λ (n : Lengths). n.matrix) d ∙ ap (λ (key : Key). (lengths (level_at FIRST) key).matrix) e

    -- the part lent is the content of field 02
    content : words (part 8 (8 + 2 * n.matrix - 8) s) ≡ matrix_of (level_at FIRST) s
    content = ap (λ n. words (part 8 n s)) (add-sub_cancel_left 8 (2 * n.matrix) ∙ ap (λ n. 2 * n) size)

pub lengths-requires : goal.lengths-requires
lengths-requires c = let s = c.args.s.now in rw c.key_at-key.ensures (filled (level_at FIRST) s c.requires).is-sized

pub slice_bounds-words_into-end : goal.slice_bounds-words_into-end
slice_bounds-words_into-end c =
    let s = c.args.s.now in
    let f = filled (level_at FIRST) s c.requires in
    omega (arith, size s f c.lengths.ensures c.key_at-key.ensures, f.fits)

pub words_into-len-requires : goal.words_into-len-requires
words_into-len-requires c =
    let s = c.args.s.now in
    let f = filled (level_at FIRST) s c.requires in
    omega (arith, ap length (content s f c.lengths.ensures c.key_at-key.ensures), count s f, first-matrix (key_of s) f.is-sized)

pub eliminate-requires : goal.eliminate-requires
eliminate-requires c =
    let s = c.args.s.now in
    let f = filled (level_at FIRST) s c.requires in
    rw (c.words_into-len.ensures.0 ∙ content s f c.lengths.ensures c.key_at-key.ensures, c.key_at-key.ensures) (count s f, omega (arith, f.is-sized.fewer), f.is-sized.most, fine s f)
