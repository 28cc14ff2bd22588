use Rattle.std.proofs.Common.{ℕ, ◌+◌, length, refl, ap, ◌∙◌, arith}
use Rattle.field.specs.Level.{level_at, K}
use Rattle.field.specs.RingLaws.{zero-add}
use Rattle.row.specs.Elements.{el}
use Rattle.row.specs.Lent.{small_of, entry_of, digit_of, element_of}
use Rattle.row.specs.Polynomial.{sum, z}
use Rattle.row.proofs.ElementLaws.{fits_le, cleared-words, cleared-el, cleared-length}
use Rattle.folding.specs.Weights.{leaf}
use Rattle.folding.proofs.WeightLaws.{weighted-polynomials}
use Rattle.folding.proofs.polynomials.weighted.Goals as goal

pub shares-requires-clause-words : goal.shares-requires-clause-words
shares-requires-clause-words c =
    let a = c.args in
    let matrix = a.matrix.now in
    let l = level_at matrix.level in
    let w = c.requires.words in
    (cleared-words l (length a.dst.now) c.clear.ensures, cleared-words l (length a.work.now) c.clear-2.ensures, w.0, w.1, c.multipliers.ensures.words)

pub returns : goal.returns
returns c =
    let a = c.args in
    let matrix = a.matrix.now in
    let l = level_at matrix.level in
    let h = entry_of l matrix.n matrix.h.now in
    let x = small_of l matrix.x.now in
    let w = digit_of matrix.d a.positions.now in
    let v = element_of l matrix.d a.offsets.now in
    let alpha = el l a.alpha.now in
    let beta = el l c.multipliers.new.dst in
    let d = c.shares.ensures in
    let total = λ (k : ℕ). sum (K l) matrix.n (λ i. sum (K l) matrix.n (λ j. (K l).mul (leaf (K l) alpha x (beta i) j) (z (K l) matrix.d (w i) (v i) j k))) in
    record {
      same = d.same ∙ cleared-length (length a.dst.now) c.clear.ensures;
      words = d.words;
      holds = λ y k b. d.holds.low k b
          ∙ ap (λ e. (K l).add e (total k)) (cleared-el l (length a.dst.now) k c.clear.ensures (fits_le l (k + 1) matrix.d (omega arith) refl c.requires.positions_len.3))
          ∙ zero-add (K l) (total k)
          ∙ weighted-polynomials (K l) matrix.n matrix.m matrix.d h x y w v alpha beta k b c.multipliers.ensures.holds;
    }
