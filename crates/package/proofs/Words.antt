-- Contents of words: the fields that rows take, and their bytes.
use mathlib.Core.Path.{◌≡◌, refl, ap, ◌∙◌}
use mathlib.Core.Bool.{true, false, not}
use mathlib.Core.List.{List}
use Prim.Native.Nat.{ℕ, ◌*◌, ◌<◌}
use native.Mathlib.Omega.{arith}
use Rattle.copying.specs.Words.{Bytes, words, word_bytes}
use Rattle.copying.proofs.Bytes.{words-bytes, bytes-length, word-bytes}
use Rattle.refusal.proofs.Answers.{None}
use Rattle.field.specs.declared.Level.{Level}
use Rattle.field.specs.Level.{FIRST, level_at}
use Rattle.field.specs.Word.{within}
use Rattle.key.proofs.Fine.{within-le}
use Rattle.layout.specs.declared.Row.{Row}
use Rattle.layout.specs.declared.Kind.{Kind}
use Rattle.layout.specs.declared.Kind.TheVariants.{Elements, Target, Coordinates}
use Rattle.layout.specs.Tests.{zeros, value_tests}
use Rattle.package.specs.Written.{Within}
use Rattle.package.proofs.Joined.{Fit}

-- a content of words, of a kind whose first test is that all are within the limit
module _ (l : Level) (tag k : ℕ) (kind : Kind) where
  abbrev words_row : Row
  words_row = record { tag = tag; len = 2 * k; kind = kind }

  pub fit_words : (s : List ℕ) → 2 * k < 65536 → Within l k s → (within l (words (word_bytes s)) ≡ true → None (value_tests l kind (word_bytes s))) → Fit l words_row tag (word_bytes s)
  fit_words s short w test = record {
    tag = refl;
    len = bytes-length s ∙ ap (λ n. 2 * n) w.0;
    short = short;
    values = test (ap (within l) (words-bytes s) ∙ w.1);
  }

-- the tests of each kind
pub test-elements : (l : Level) (c : List ℕ) → within l (words c) ≡ true → None (value_tests l Elements c)
test-elements l c e = (ap not e, tt)

pub test-coordinates : (l : Level) (c : List ℕ) → within l (words c) ≡ true → None (value_tests l Coordinates c)
test-coordinates l c e = (ap not e, tt)

pub test-target : (l : Level) (c : List ℕ) → zeros (words c) ≡ false → within l (words c) ≡ true → None (value_tests l Target c)
test-target l c z e = (ap not e, (z, tt))

-- words within the limit are written as bytes
limit-lt : (level_at FIRST).limit < 65536
unfolding level_at
limit-lt = omega arith

pub within-bytes : (s : List ℕ) → within (level_at FIRST) s ≡ true → Bytes (word_bytes s)
within-bytes s e = word-bytes s (λ i. omega (arith, limit-lt, within-le (level_at FIRST) s e i))
