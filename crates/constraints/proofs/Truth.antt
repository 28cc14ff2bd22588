-- Demand 3, proved: the slices read back what is written, and the facts on polynomials and values hold of them.
use mathlib.Core.Path.{◌≡◌, refl, sym, ◌∙◌, ap}
use mathlib.Core.Bool.{Bool, true, false, cond}
use mathlib.Core.List.{List, [], ◌∷◌}
use mathlib.Core.Logic.{◌↔◌}
use Prim.Native.Nat.{ℕ, suc, ◌+◌, ◌*◌, ◌%◌, ◌^◌, ◌<◌}
use native.Mathlib.Omega.{arith}
use lib.ListN.{get_or}
use Rattle.lists.specs.Words.{part}
use Rattle.lists.proofs.Words.{part_at}
use Rattle.field.specs.declared.Level.{Level}
use Rattle.field.specs.Level.{K, embed}
use Rattle.field.specs.Word.{odd, element, words}
use Rattle.field.proofs.Elements.{words-length, element-words}
use Rattle.constraints.specs.Graded.{Polynomial, coefficient, top, eval}
use Rattle.constraints.specs.System.{System, masked, polynomial, value}
use Rattle.key.specs.Key.{degree, KeySlices}
use Rattle.constraints.specs.Order.{Order, Solves}
use Rattle.constraints.specs.Slices.{bits, element_at, elements, polynomial_at, masked_bytes, polynomial_words, value_words, key_of, system_of, position_at, witness_of}
use Rattle.constraints.specs.Truth.{HonestNumbers, evaluated, Agrees, Truth}
use Rattle.constraints.proofs.Coefficients.{coefficient_ext, coefficient-vector}
use Rattle.constraints.proofs.Agreement.{agreement, value_cong}
use Rattle.key.proofs.Sized.{degree-fits}
use Rattle.constraints.proofs.Tops.{tops}
use Rattle.field.proofs.Fields.{K-distinct, embed-injective}
use Rattle.lists.proofs.Concat.{concat_cong, concat-part, rows-part}

module _ (l : Level) (S : System (K l)) where
  abbrev d : ℕ
  d = S.degree

  -- bit (i,k) of the written masked witness
  pub bits-written : (w : ℕ → ℕ → Bool) (u : List ℕ) (i k : ℕ) → i < S.rows → k < S.places → bits S.places (masked_bytes S w u) i k ≡ masked w (bits S.places u) i k
  unfolding bits masked_bytes
  bits-written w u i k a b = ap (λ x. odd (x % 2)) (sym (at_part (i * S.places + k)) ∙ ap (λ s. get_or s 0 0) (rows-part 1 S.places byte (λ i k. refl) S.rows i k a b)) ∙ back (masked w (bits S.places u) i k)
    where
      byte : ℕ → ℕ → List ℕ
      byte i k = cond (masked w (bits S.places u) i k) 1 0 ∷ []

      at_part : (a : ℕ) → get_or (part (1 * a) 1 (masked_bytes S w u)) 0 0 ≡ get_or (masked_bytes S w u) a 0
      at_part a = part_at (1 * a) 1 (masked_bytes S w u) 0 (omega arith) ∙ ap (λ b. get_or (masked_bytes S w u) b 0) {x = 1 * a + 0} {y = a} (omega arith)

      back : (b : Bool) → odd (cond b 1 0 % 2) ≡ b
      back false = refl
      back true = refl

  -- polynomial j of the written polynomials
  pub polynomial-written : (w : ℕ → ℕ → Bool) (v : List ℕ) (j : ℕ) → j < S.size → polynomial_at l d (polynomial_words l S w v) j ≡ polynomial S w (elements l S.places v) j
  unfolding polynomial_at polynomial_words elements element_at
  polynomial-written w v j a = coefficient_ext (K l) (suc d) _ (p j) (λ k b. coefficient-vector (K l) (suc d) (elements l (suc d) (polynomial_words l S w v) j) k b
      ∙ ap (element l) (rows-part l.coordinates (suc d) f (λ j k. words-length l (coefficient (K l) (suc d) (p j) k)) S.size j k a b) ∙ element-words l (coefficient (K l) (suc d) (p j) k))
    where
      p : ℕ → Polynomial (K l) d
      p = polynomial S w (elements l S.places v)

      f : ℕ → ℕ → List ℕ
      f j k = words l (coefficient (K l) (suc d) (p j) k)

  -- value j of the written values
  pub value_written : (t q Δ : List ℕ) (j : ℕ) → j < S.size → element_at l (value_words l S t q Δ) j ≡ value S (bits S.places t) (elements l S.places q) (element l Δ) j
  unfolding value_words element_at
  value_written t q Δ j a = ap (element l) (concat-part l.coordinates (λ j. words l (y j)) (λ j. words-length l (y j)) S.size j a) ∙ element-words l (y j)
    where
      y : ℕ → (K l).Carrier
      y = value S (bits S.places t) (elements l S.places q) (element l Δ)

  -- the values of what is written are its polynomials at the challenge, in every modelling and for every witness
  pub agrees : (w : ℕ → ℕ → Bool) (u v : List ℕ) → Agrees l S u v (masked_bytes S w u) (polynomial_words l S w v)
  agrees w u v = record {
    each = λ q Δ h j a. value_written (masked_bytes S w u) q Δ j a ∙ same q Δ h j a;
    whole = λ q Δ h. unfold value_words in concat_cong S.size _ _ (λ j a. ap (words l) (same q Δ h j a));
  }
    where
      same : (q Δ : List ℕ) → HonestNumbers l S u v q Δ → (j : ℕ) → j < S.size
          → value S (bits S.places (masked_bytes S w u)) (elements l S.places q) (element l Δ) j ≡ evaluated l S (polynomial_words l S w v) Δ j
      same q Δ h j a = value_cong S (bits S.places (masked_bytes S w u)) (masked w (bits S.places u)) (elements l S.places q) (element l Δ) (bits-written w u) j
          ∙ agreement S w (bits S.places u) (elements l S.places v) (elements l S.places q) (element l Δ) h j
          ∙ ap (λ p. eval (K l) (suc d) p (element l Δ)) (sym (polynomial-written w v j a))

-- at every level, for every key of fewer than 2^64 columns, spare codes included
module _ (l : Level) (width : 0 < l.width) (coordinates : 0 < l.coordinates) (n m : ℕ) (lent : KeySlices) (fits : n < 2 ^ 64) (positions : List ℕ) (small : (i : ℕ) → i < n → position_at positions i < 2 ^ degree n) where
  abbrev S : System (K l)
  S = system_of l n m lent

  -- the tops of the polynomials are zero exactly when the positions solve the key
  pub tops_solve : (v : List ℕ)
      → ((j : ℕ) → j < n + m → top (K l) (degree n) (polynomial (system_of l n m lent) (witness_of n positions) (elements l (degree n) v) j) ≡ (K l).zero) ↔ (Order n (position_at positions) × Solves (key_of l n m lent) (position_at positions))
  tops_solve v = tops (embed l) (key_of l n m lent) (degree n) (position_at positions) (elements l (degree n) v) (degree-fits n fits) small (K-distinct l width coordinates) (embed-injective l coordinates)

  -- demand 3
  pub truth : (u v : List ℕ) → Truth l n m lent positions u v (masked_bytes (system_of l n m lent) (witness_of n positions) u) (polynomial_words l (system_of l n m lent) (witness_of n positions) v)
  truth u v = record {
    agrees = agrees l S (witness_of n positions) u v;
    tops = (λ e. (tops_solve v).0 (λ j a. ap (top (K l) (degree n)) (sym (written j a)) ∙ e j a), λ s j a. ap (top (K l) (degree n)) (written j a) ∙ (tops_solve v).1 s j a);
  }
    where
      written : (j : ℕ) → j < n + m → polynomial_at l (degree n) (polynomial_words l S (witness_of n positions) v) j ≡ polynomial S (witness_of n positions) (elements l (degree n) v) j
      written = polynomial-written l S (witness_of n positions) v
