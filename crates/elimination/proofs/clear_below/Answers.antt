use Rattle.std.proofs.Common.{◌≡◌, ℕ, ◌+◌, ◌-◌, ◌*◌, ◌^◌, ◌≤◌, ◌<◌, List, length, get_or, take, drop, refl, sym, ap, arith, ◌∙◌, subst}
use lib.ListN.{replicate}
use borrow.Rule.Slice.PartMut.{put_mid}
use Rattle.lists.proofs.Words.{part_at, part_length}
use Rattle.field.specs.Level.{level_at}
use Rattle.field.specs.declared.Level.{Level}
use Rattle.field.specs.Word.{small, word, Words}
use Rattle.field.proofs.Fields.{bounded}
use Rattle.galois.specs.Inverse.{inverse}
use Rattle.elimination.specs.Steps.{entry_at}
use Rattle.elimination.proofs.Words.{word_lt}
use Rattle.elimination.proofs.Grids.{row-end, words-zeros, words-part, put-size, put-inside, put-words, rest-length, tail-lent, tail-back}
use Rattle.elimination.proofs.Clearing.{whole}
use Rattle.elimination.proofs.clear_below.Goals as goal

-- the row p of a matrix, from column c on, copied into zeros
module _ (l : Level) (n c p : ℕ) (h ys : List ℕ) (col : c < n) (wide : n ≤ 128) (room : p * n + n ≤ length h) (words : Words l h) (e : ys ≡ take (n - c) (drop (p * n + c) h)) where
  abbrev row : List ℕ
  row = put_mid c (n - c) (replicate 128 0) ys

  fills : c + (n - c) ≤ length {A = ℕ} (replicate 128 0)
  fills = let k : ◌≡◌ {A = ℕ} (length {A = ℕ} (replicate 128 0)) 128 = refl in omega arith

  size : length ys ≡ n - c
  size = ap length e ∙ part_length (p * n + c) (n - c) h (omega arith)

  row-size : length row ≡ 128
  row-size = put-size c (n - c) (replicate 128 0) ys fills size

  row-words : Words l row
  row-words = put-words c (n - c) (replicate 128 0) ys fills size l (words-zeros l 128) (subst (Words l) (sym e) (words-part l (p * n + c) (n - c) h words))

  row-at : (j : ℕ) → c ≤ j → j < n → get_or row j 0 ≡ entry_at n h p j
  row-at j q b = ap (λ i. get_or row i 0) {x = j} {y = c + (j - c)} (omega arith) ∙ put-inside c (n - c) (replicate 128 0) ys fills size (j - c) (omega arith) ∙ ap (λ s. get_or s (j - c) 0) e
      ∙ part_at (p * n + c) (n - c) h (j - c) (omega arith) ∙ ap (λ i. get_or h i 0) {x = p * n + c + (j - c)} {y = p * n + j} (omega arith)

-- what is copied
copied : (s n c : ℕ) (h ys : List ℕ) → c < n → ys ≡ take (s + n - (s + c)) (drop (s + c) h) → ys ≡ take (n - c) (drop (s + c) h)
copied s n c h ys q e = e ∙ ap (λ k. take k (drop (s + c) h)) {x = s + n - (s + c)} {y = n - c} (omega arith)

-- how far row p reaches
reaches : (n p m : ℕ) (h : List ℕ) → p < m → m ≤ 128 → length h ≡ m * n → p * n + n ≤ length h
reaches n p m h q b e = omega (arith, row-end n p m q b)

pub inverse-v-requires : goal.inverse-v-requires
inverse-v-requires c =
    let a = c.args in
    let r = c.requires in
    let room = reaches a.n a.p a.m a.matrix.now r.matrix_len.5 r.matrix_len.1 r.matrix_len.0 in
    let ys = c.copy_from_slice.new.self in
    let from = copied (a.p * a.n) a.n a.c a.matrix.now ys r.matrix_len.4 c.copy_from_slice.ensures.after in
    let e = row-at (level_at a.level) a.n a.c a.p a.matrix.now ys r.matrix_len.4 r.matrix_len.2 room r.words.0 from a.c (omega arith) r.matrix_len.4 in
    let w = row-words (level_at a.level) a.n a.c a.p a.matrix.now ys r.matrix_len.4 r.matrix_len.2 room r.words.0 from a.c in
    (omega (arith, e, r.words.1), omega (arith, w, (bounded a.level).whole))

pub clear-requires-clause-rest_len : goal.clear-requires-clause-rest_len
clear-requires-clause-rest_len c =
    let a = c.args in
    let r = c.requires in
    let h = a.matrix.now in
    let k : ℕ = a.p * a.n + a.n in
    let room = reaches a.n a.p a.m a.matrix.now r.matrix_len.5 r.matrix_len.1 r.matrix_len.0 in
    let ys = c.copy_from_slice.new.self in
    let from = copied (a.p * a.n) a.n a.c a.matrix.now ys r.matrix_len.4 c.copy_from_slice.ensures.after in
    let size = row-size (level_at a.level) a.n a.c a.p a.matrix.now ys r.matrix_len.4 r.matrix_len.2 room r.words.0 from in
    (ap length (tail-lent k h) ∙ rest-length a.m a.n a.p h r.matrix_len.0 r.matrix_len.5, omega (arith, r.matrix_len), r.matrix_len.2, omega (arith, r.matrix_len), r.matrix_len.4, omega (arith, r.matrix_len, part_length a.c (a.n - a.c) (put_mid a.c (a.n - a.c) (replicate 128 0) ys) (omega (arith, size, r.matrix_len))))

pub clear-requires-clause-words : goal.clear-requires-clause-words
clear-requires-clause-words c =
    let a = c.args in
    let r = c.requires in
    let L = level_at a.level in
    let h = a.matrix.now in
    let k : ℕ = a.p * a.n + a.n in
    let room = reaches a.n a.p a.m h r.matrix_len.5 r.matrix_len.1 r.matrix_len.0 in
    let ys = c.copy_from_slice.new.self in
    let from = copied (a.p * a.n) a.n a.c h ys r.matrix_len.4 c.copy_from_slice.ensures.after in
    let copy : List ℕ = put_mid a.c (a.n - a.c) (replicate 128 0) ys in (
      words-part L k (length h - k) h r.words.0,
      words-part L a.c (a.n - a.c) copy (row-words L a.n a.c a.p h ys r.matrix_len.4 r.matrix_len.2 room r.words.0 from),
      subst (λ x. x < 2 ^ L.width) (sym c.inverse-v.ensures.power) (word_lt L (inverse L (small L (get_or copy a.c 0)))),
    )

pub returns : goal.returns
returns c =
    let a = c.args in
    let r = c.requires in
    let L = level_at a.level in
    let h = a.matrix.now in
    let k : ℕ = a.p * a.n + a.n in
    let room = reaches a.n a.p a.m h r.matrix_len.5 r.matrix_len.1 r.matrix_len.0 in
    let ys = c.copy_from_slice.new.self in
    let from = copied (a.p * a.n) a.n a.c h ys r.matrix_len.4 c.copy_from_slice.ensures.after in
    let copy : List ℕ = put_mid a.c (a.n - a.c) (replicate 128 0) ys in
    let at = row-at L a.n a.c a.p h ys r.matrix_len.4 r.matrix_len.2 room r.words.0 from in
    let part : List ℕ = take (a.n - a.c) (drop a.c copy) in
    let row : (j : ℕ) → a.c ≤ j → j < a.n → get_or part (j - a.c) 0 ≡ entry_at a.n h a.p j = λ j p q. part_at a.c (a.n - a.c) copy (j - a.c) (omega arith) ∙ ap (λ i. get_or copy i 0) {x = a.c + (j - a.c)} {y = j} (omega arith) ∙ at j p q in
    rw (tail-back k h c.clear.new.rest)
    (whole L a.m a.n a.p a.c c.inverse-v.result (word L (inverse L (small L (entry_at a.n h a.p a.c)))) a.used.now part h c.clear.new.rest r.matrix_len.0 r.matrix_len.5 r.matrix_len.4
    (c.inverse-v.ensures.power ∙ ap (λ x. word L (inverse L (small L x))) (at a.c (omega arith) r.matrix_len.4)) row (rw (tail-lent k h) at c.clear.ensures))
