-- Tests of all numbers of two bytes, by the first pair of bytes: of any test, of the limit, and of zero.
use mathlib.Core.Path.{◌≡◌}
use mathlib.Core.Bool.{Bool, true, false}
use mathlib.Core.List.{List, [], ◌∷◌, ◌++◌}
use Prim.Native.Nat.{ℕ, ◌≤◌, ◌<◌}
use native.Mathlib.Omega.{arith}
use borrow.Author.Tests.{le-leb, lt-leb, eq-eqb, ne_eqb}
use lib.Dec.{leb, eqb}
use lib.ListN.{length}
use Rattle.lists.specs.Words.{all}
use Rattle.copying.specs.Words.{word, words}
use Rattle.copying.proofs.Words.{words-short}
use Rattle.field.specs.declared.Level.{Level}
use Rattle.field.specs.Word.{within}
use Rattle.layout.specs.Tests.{zeros}

-- bytes that begin with a pair
record Begins (pair rest c : List ℕ) : Type 0 where
  joined : c ≡ pair ++ rest
  two : length pair ≡ 2

words_pair : (pair rest c : List ℕ) → Begins pair rest c → words c ≡ word pair 0 ∷ words rest
unfolding words
words_pair [] rest c h = absurd (omega (arith, h.two))
words_pair (a ∷ []) rest c h = absurd (omega (arith, h.two))
words_pair (a ∷ b ∷ []) rest c h = rw h.joined
words_pair (a ∷ b ∷ x ∷ s) rest c h = absurd (omega (arith, h.two))

module _ (p : ℕ → Bool) where
  all_stop : {pair rest c : List ℕ} → Begins pair rest c → p (word pair 0) ≡ false → false ≡ all p (words c)
  unfolding all
  all_stop {pair} {rest} {c} h b = rw (words_pair pair rest c h, b)

  all_go : {pair rest c : List ℕ} → Begins pair rest c → p (word pair 0) ≡ true → all p (words rest) ≡ all p (words c)
  unfolding all
  all_go {pair} {rest} {c} h b = rw (words_pair pair rest c h, b)

  all_end : (c : List ℕ) → length c < 2 → true ≡ all p (words c)
  unfolding all
  all_end c h = rw (words-short c h)

module _ (l : Level) where
  pub words_stop : (pair rest c : List ℕ) → c ≡ pair ++ rest → length pair ≡ 2 → l.limit < word pair 0 → false ≡ within l (words c)
  unfolding within
  words_stop pair rest c e n b = all_stop (λ x. leb x l.limit) (record { joined = e; two = n }) (lt-leb _ _ b)

  pub words-go : (pair rest c : List ℕ) → c ≡ pair ++ rest → length pair ≡ 2 → word pair 0 ≤ l.limit → within l (words rest) ≡ within l (words c)
  unfolding within
  words-go pair rest c e n b = all_go (λ x. leb x l.limit) (record { joined = e; two = n }) (le-leb _ _ b)

  pub words-end : (c : List ℕ) → length c < 2 → true ≡ within l (words c)
  unfolding within
  words-end c h = all_end (λ x. leb x l.limit) c h

pub zeros_stop : (pair rest c : List ℕ) → c ≡ pair ++ rest → length pair ≡ 2 → (word pair 0 ≡ 0 → ⊥) → false ≡ zeros (words c)
zeros_stop pair rest c e n b = all_stop (λ x. eqb x 0) (record { joined = e; two = n }) (ne_eqb _ _ b)

pub zeros-go : (pair rest c : List ℕ) → c ≡ pair ++ rest → length pair ≡ 2 → word pair 0 ≡ 0 → zeros (words rest) ≡ zeros (words c)
zeros-go pair rest c e n b = all_go (λ x. eqb x 0) (record { joined = e; two = n }) (eq-eqb _ _ b)

pub zeros-end : (c : List ℕ) → length c < 2 → true ≡ zeros (words c)
zeros-end c h = all_end (λ x. eqb x 0) c h
