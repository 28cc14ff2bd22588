-- Parts of a list of words, and tests of all its words.
use Rattle.std.specs.Prelude.{Bool, true, ◌&&◌, List, [], ◌∷◌, ◌++◌, ℕ, zero, suc, ◌+◌, length, take, drop}

-- the n words from place i on
abbrev pub part : ℕ → ℕ → List ℕ → List ℕ
part i n s = take n (drop i s)

-- s with b in place of the words from place i on
abbrev pub put : ℕ → List ℕ → List ℕ → List ℕ
put i b s = take i s ++ b ++ drop (i + length b) s

-- whether the test holds of every word
unfoldable pub all : (ℕ → Bool) → List ℕ → Bool
all p [] = true
all p (x ∷ s) = p x && all p s

-- f 0, f 1, .., f (n - 1), one after the other
unfoldable pub concat : (n : ℕ) → (ℕ → List ℕ) → List ℕ
concat zero f = []
concat (suc n) f = concat n f ++ f n
