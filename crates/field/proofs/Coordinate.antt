-- Vectors by their places; elements of K by the words of their coordinates, for any width, tap and number of coordinates.
use mathlib.Core.Path.{◌≡◌, refl, sym, ◌∙◌, ap, ap₂}
use mathlib.Core.Bool.{Bool}
use mathlib.Core.List.{List}
use Prim.Native.Nat.{ℕ, zero, suc, ◌+◌, ◌-◌, ◌^◌, ◌<◌}
use native.Mathlib.Nat.{add-suc, add-zero, suc-add}
use native.Mathlib.Omega.{arith}
use lib.Bits.{bit_xor}
use lib.ListN.{length, get_or}
use lib.Seq.{ext_get_or}
use Rattle.field.specs.Ring.{Ring}
use Rattle.field.specs.RingLaws.{ring, mul-zero}
use Rattle.field.specs.Binary.{binary}
use Rattle.field.specs.Vector.{Vector, zeros, unit, sum, scale, push, top}
use Rattle.field.specs.Quotient.{rule, times_x, horner, times}
use Rattle.field.specs.Extension.{extend}
use Rattle.field.specs.Word.{digits, number, vector, list}
use Rattle.field.proofs.Number.{digits_number, number_digits, number_lt, number-sum}

module _ (R : Ring) where
  open R use {Carrier, zero as 𝟘, one as 𝟙, add as ◌⊕◌, mul as ◌⊗◌}

  infixl 60 ◌⊕◌
  infixl 70 ◌⊗◌
  unfoldable pub at : (n : ℕ) → Vector Carrier n → ℕ → Carrier
  at zero v i = 𝟘
  at (suc n) v zero = v.0
  at (suc n) v (suc i) = at n v.1 i

  pub ext : (n : ℕ) (u v : Vector Carrier n) → ((i : ℕ) → i < n → at n u i ≡ at n v i) → u ≡ v
  unfolding at
  ext zero u v h = refl
  ext (suc n) u v h = λ j. (h 0 (omega arith) j, ext n u.1 v.1 (λ i l. h (suc i) (omega arith)) j)

  pub at_sum : (n : ℕ) (u v : Vector Carrier n) (i : ℕ) → at n (sum R n u v) i ≡ at n u i ⊕ at n v i
  unfolding at sum
  at_sum zero u v i = sym (R.add-zero 𝟘)
  at_sum (suc n) u v zero = refl
  at_sum (suc n) u v (suc i) = at_sum n u.1 v.1 i

  pub at-scale : (n : ℕ) (c : Carrier) (v : Vector Carrier n) (i : ℕ) → at n (scale R n c v) i ≡ c ⊗ at n v i
  unfolding at scale
  at-scale zero c v i = sym (mul-zero R c)
  at-scale (suc n) c v zero = refl
  at-scale (suc n) c v (suc i) = at-scale n c v.1 i

  pub at_push : (n : ℕ) (c : Carrier) (v : Vector Carrier n) (i : ℕ) → suc i < n → at n (push R n c v) (suc i) ≡ at n v i
  unfolding at push
  at_push zero c v i h = absurd (omega arith)
  at_push (suc zero) c v i h = absurd (omega arith)
  at_push (suc (suc n)) c v zero h = refl
  at_push (suc (suc n)) c v (suc i) h = at_push (suc n) v.0 v.1 i (omega arith)

  pub top-at : (n : ℕ) (c : Carrier) (v : Vector Carrier (suc n)) → top R (suc n) c v ≡ at (suc n) v n
  unfolding at top
  top-at zero c v = refl
  top-at (suc n) c v = top-at n v.0 v.1

  pub at-zeros : (n i : ℕ) → at n (zeros R n) i ≡ 𝟘
  unfolding at zeros
  at-zeros zero i = refl
  at-zeros (suc n) zero = refl
  at-zeros (suc n) (suc i) = at-zeros n i

  pub at-unit-same : (n i : ℕ) → i < n → at n (unit R n i) i ≡ 𝟙
  unfolding at unit
  at-unit-same zero i h = absurd (omega arith)
  at-unit-same (suc n) zero h = refl
  at-unit-same (suc n) (suc i) h = at-unit-same n i (omega arith)

  pub at-unit-other : (n i j : ℕ) → (i ≡ j → ⊥) → at n (unit R n i) j ≡ 𝟘
  unfolding at unit
  at-unit-other zero i j h = refl
  at-unit-other (suc n) zero zero h = absurd (h refl)
  at-unit-other (suc n) zero (suc j) h = at-zeros n j
  at-unit-other (suc n) (suc i) zero h = refl
  at-unit-other (suc n) (suc i) (suc j) h = at-unit-other n i j (λ e. h (ap suc e))

  -- the coordinates of Y v, with Y^(m+1) = Y^(s+1) + 1
  module _ (m s : ℕ) (below : suc s < suc m) (v : Vector Carrier (suc m)) where
    abbrev Yv : Vector Carrier (suc m)
    Yv = times_x R (suc m) (suc s) v

    at-rule : (i : ℕ) → at (suc m) Yv i ≡ at (suc m) (push R (suc m) 𝟘 v) i ⊕ at (suc m) v m ⊗ (at (suc m) (unit R (suc m) 0) i ⊕ at (suc m) (unit R (suc m) (suc s)) i)
    unfolding times_x rule
    at-rule i = at_sum (suc m) (push R (suc m) 𝟘 v) (scale R (suc m) (top R (suc m) 𝟘 v) (rule R (suc m) (suc s))) i
        ∙ ap (λ x. at (suc m) (push R (suc m) 𝟘 v) i ⊕ x) (at-scale (suc m) (top R (suc m) 𝟘 v) (rule R (suc m) (suc s)) i ∙ ap₂ ◌⊗◌ (top-at m 𝟘 v) (at_sum (suc m) (unit R (suc m) 0) (unit R (suc m) (suc s)) i))

    push-zero : at (suc m) (push R (suc m) 𝟘 v) 0 ≡ 𝟘
    unfolding at push
    push-zero = refl

    pub at-Y-zero : at (suc m) Yv 0 ≡ at (suc m) v m
    at-Y-zero = at-rule 0 ∙ simp (push-zero, at-unit-same (suc m) 0 (omega arith), at-unit-other (suc m) (suc s) 0 (omega arith), ring)

    pub at-Y-tap : at (suc m) Yv (suc s) ≡ at (suc m) v s ⊕ at (suc m) v m
    at-Y-tap = at-rule (suc s) ∙ simp (at_push (suc m) 𝟘 v s below, at-unit-same (suc m) (suc s) below, at-unit-other (suc m) 0 (suc s) (omega arith), ring)

    pub at-Y-other : (j : ℕ) → suc j < suc m → (j ≡ s → ⊥) → at (suc m) Yv (suc j) ≡ at (suc m) v j
    at-Y-other j h d = at-rule (suc j) ∙ simp (at_push (suc m) 𝟘 v j h, at-unit-other (suc m) (suc s) (suc j) (omega arith), at-unit-other (suc m) 0 (suc j) (omega arith), ring)

  vector-at : (n : ℕ) (f : ℕ → Carrier) (i : ℕ) → i < n → at n (vector n f) i ≡ f i
  unfolding at vector
  vector-at zero f i h = absurd (omega arith)
  vector-at (suc n) f zero h = refl
  vector-at (suc n) f (suc i) h = vector-at n (λ k. f (suc k)) i (omega arith)

  -- the product with v of the places of u from i up
  module _ (n t : ℕ) (u v : Vector Carrier n) where
    pub upper : ℕ → Vector Carrier n
    upper i = horner R n t (n - i) (vector (n - i) (λ k. at n u (i + k))) v

    pub upper_start : upper n ≡ zeros R n
    unfolding upper horner
    upper_start = ap (λ m. horner R n t m (vector m (λ k. at n u (n + k))) v) none
      where
        none : n - n ≡ 0
        none = omega arith

    pub upper_step : (i : ℕ) → i < n → upper i ≡ sum R n (scale R n (at n u i) v) (times_x R n t (upper (suc i)))
    unfolding upper horner vector
    upper_step i h = ap (λ m. horner R n t m (vector m (λ k. at n u (i + k))) v) more
        ∙ ap₂ (λ (c : Carrier) (f : ℕ → Carrier). sum R n (scale R n c v) (times_x R n t (horner R n t (n - suc i) (vector (n - suc i) f) v))) (ap (at n u) (add-zero i)) (λ j k. at n u ((add-suc i k ∙ sym (suc-add i k)) j))
      where
        more : n - i ≡ suc (n - suc i)
        more = omega arith

    pub upper_end : upper 0 ≡ times R n t u v
    unfolding upper times
    upper_end = ap₂ (λ (m : ℕ) (f : ℕ → Carrier). horner R n t m (vector m f) v) all (λ j k. at n u (first k j)) ∙ ap (λ x. horner R n t n x v) (ext n (vector n (at n u)) u (vector-at n (at n u)))
      where
        all : n - 0 ≡ n
        all = omega arith

        first : (k : ℕ) → 0 + k ≡ k
        first k = omega arith

-- elements of K, with F of width w and tap t, by the words of their n coordinates
module _ (w t n : ℕ) where
  abbrev F : Ring
  F = extend binary w t

  abbrev Element : Type 0
  Element = Vector (Vector Bool w) n

  abbrev pub word_at : Element → ℕ → ℕ
  word_at x i = get_or (list n (number w) x) i 0

  pub list_length : (m : ℕ) (x : Vector (Vector Bool w) m) → length (list m (number w) x) ≡ m
  unfolding list
  list_length zero x = refl
  list_length (suc m) x = ap suc (list_length m x.1)

  list_at : (m : ℕ) (x : Vector (Vector Bool w) m) (i : ℕ) → i < m → get_or (list m (number w) x) i 0 ≡ number w (at F m x i)
  unfolding list at
  list_at zero x i h = absurd (omega arith)
  list_at (suc m) x zero h = refl
  list_at (suc m) x (suc i) h = list_at m x.1 i (omega arith)

  pub word-at : (x : Element) (i : ℕ) → i < n → word_at x i ≡ number w (at F n x i)
  word-at = list_at n

  pub word_lt : (x : Element) (i : ℕ) → i < n → word_at x i < 2 ^ w
  word_lt x i h = rw (word-at x i h) (number_lt w (at F n x i))

  -- coordinate i, from its word
  pub digits-word : (x : Element) (i : ℕ) → i < n → digits w (word_at x i) ≡ at F n x i
  digits-word x i h = ap (digits w) (word-at x i h) ∙ digits_number w (at F n x i)

  pub word-zeros : (i : ℕ) → i < n → word_at (zeros F n) i ≡ number w (zeros binary w)
  word-zeros i h = word-at (zeros F n) i h ∙ ap (number w) (at-zeros F n i)

  pub word_sum : (x y : Element) (i : ℕ) → i < n → word_at (sum F n x y) i ≡ bit_xor (word_at x i) (word_at y i)
  word_sum x y i h = word-at (sum F n x y) i h ∙ ap (number w) (at_sum F n x y i) ∙ number-sum w (at F n x i) (at F n y i) ∙ sym (ap₂ bit_xor (word-at x i h) (word-at y i h))

  pub word-scale : (c : Vector Bool w) (x : Element) (i : ℕ) → i < n → word_at (scale F n c x) i ≡ number w (F.mul c (at F n x i))
  word-scale c x i h = word-at (scale F n c x) i h ∙ ap (number w) (at-scale F n c x i)

  -- writing and reading are inverse, on words below 2^w
  pub read-written : (x : Element) → vector n (λ i. digits w (word_at x i)) ≡ x
  read-written x = ext F n (vector n (λ i. digits w (word_at x i))) x (λ i h. vector-at F n (λ i. digits w (word_at x i)) i h ∙ digits-word x i h)

  pub written_read : (s : List ℕ) → length s ≡ n → ((i : ℕ) → i < n → get_or s i 0 < 2 ^ w) → list n (number w) (vector n (λ i. digits w (get_or s i 0))) ≡ s
  written_read s e h = ext_get_or 0 (list n (number w) v) s (list_length n v ∙ sym e) (λ i l. go i (omega (arith, list_length n v)))
    where
      v : Element
      v = vector n (λ i. digits w (get_or s i 0))

      go : (i : ℕ) → i < n → word_at v i ≡ get_or s i 0
      go i l = word-at v i l ∙ ap (number w) (vector-at F n (λ i. digits w (get_or s i 0)) i l) ∙ number_digits w (get_or s i 0) (h i l)

-- the words of Y x, with Y^(m+1) = Y^(s+1) + 1
module _ (w t m s : ℕ) (below : suc s < suc m) (x : Vector (Vector Bool w) (suc m)) where
  abbrev Yx : Vector (Vector Bool w) (suc m)
  Yx = times_x (F w t (suc m)) (suc m) (suc s) x

  pub word-Y-zero : word_at w t (suc m) Yx 0 ≡ word_at w t (suc m) x m
  word-Y-zero = word-at w t (suc m) Yx 0 (omega arith) ∙ ap (number w) (at-Y-zero (F w t (suc m)) m s below x) ∙ sym (word-at w t (suc m) x m (omega arith))

  pub word-Y-tap : word_at w t (suc m) Yx (suc s) ≡ bit_xor (word_at w t (suc m) x s) (word_at w t (suc m) x m)
  word-Y-tap = word-at w t (suc m) Yx (suc s) below ∙ ap (number w) (at-Y-tap (F w t (suc m)) m s below x) ∙ number-sum w (at (F w t (suc m)) (suc m) x s) (at (F w t (suc m)) (suc m) x m)
      ∙ sym (ap₂ bit_xor (word-at w t (suc m) x s (omega arith)) (word-at w t (suc m) x m (omega arith)))

  pub word-Y-other : (j : ℕ) → suc j < suc m → (j ≡ s → ⊥) → word_at w t (suc m) Yx (suc j) ≡ word_at w t (suc m) x j
  word-Y-other j h d = word-at w t (suc m) Yx (suc j) h ∙ ap (number w) (at-Y-other (F w t (suc m)) m s below x j h d) ∙ sym (word-at w t (suc m) x j (omega arith))
