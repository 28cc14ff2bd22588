-- Sums of parts by the powers of z, at every level.
use mathlib.Core.Path.{◌≡◌, refl, sym, ◌∙◌, ap, ap₂}
use Prim.Native.Nat.{ℕ, zero, suc, ◌+◌, ◌-◌, ◌*◌, ◌/◌, ◌%◌, ◌^◌, ◌<◌, ◌≤◌}
use native.Mathlib.Nat.{pow-suc, lt_of_lt_of_le, add-zero, suc-add, add-suc}
use native.Mathlib.Omega.{arith}
use lib.ListN.{drop, replicate, get_or-replicate}
use lib.Pow.{shr-shr, pow_mono}
use lib.Seq.{get_or-drop}
use Rattle.field.specs.Ring.{Ring}
use Rattle.field.specs.RingLaws.{ring, zero-mul, hom_zero}
use Rattle.field.specs.Binary.{bit}
use Rattle.field.specs.declared.Level.{Level}
use Rattle.field.specs.Level.{first, second, level_at, F, K, embed}
use Rattle.field.specs.Word.{odd, small}
use Rattle.field.specs.Packed.{lane, coordinate, Holds, room, combined, Combines}
use Rattle.field.proofs.Lanes.{lane-zero}
use Rattle.field.proofs.Packing.{coordinate-is}
use Rattle.field.proofs.Elements.{zero_word}
use Rattle.field.proofs.Named.{every}
use Rattle.field.proofs.Number.{digits-zero, digits-one, digits_half}

module _ (R : Ring) (z : R.Carrier) where
  open R use {Carrier, zero as 𝟘, one as 𝟙, add as ◌⊕◌, mul as ◌⊗◌}

  infixl 60 ◌⊕◌
  infixl 70 ◌⊗◌
  pub combined-none : (n : ℕ) → combined R z n (λ k. 𝟘) ≡ 𝟘
  unfolding combined
  combined-none zero = refl
  combined-none (suc n) = ap (λ x. 𝟘 ⊕ z ⊗ x) (combined-none n) ∙ simp ring

  pub combined-add : (n : ℕ) (a b : ℕ → Carrier) → combined R z n (λ k. a k ⊕ b k) ≡ combined R z n a ⊕ combined R z n b
  unfolding combined
  combined-add zero a b = sym (R.add-zero 𝟘)
  combined-add (suc n) a b = ap (λ x. a 0 ⊕ b 0 ⊕ z ⊗ x) (combined-add n (λ k. a (suc k)) (λ k. b (suc k))) ∙ apart (a 0) (b 0) (combined R z n (λ k. a (suc k))) (combined R z n (λ k. b (suc k)))
    where
      apart : (p q x y : Carrier) → p ⊕ q ⊕ z ⊗ (x ⊕ y) ≡ p ⊕ z ⊗ x ⊕ (q ⊕ z ⊗ y)
      apart p q x y = simp ring

  -- the parts from k on, with one more below
  pub combined_more : (n k : ℕ) (a : ℕ → Carrier) → k < n → a k ⊕ z ⊗ combined R z (n - suc k) (λ i. a (suc k + i)) ≡ combined R z (n - k) (λ i. a (k + i))
  unfolding combined
  combined_more n k a h = ap₂ (λ x (f : ℕ → Carrier). x ⊕ z ⊗ combined R z (n - suc k) f) (ap a (sym (add-zero k))) (λ j i. a ((suc-add k i ∙ sym (add-suc k i)) j)) ∙ ap (λ m. combined R z m (λ i. a (k + i))) more
    where
      more : suc (n - suc k) ≡ n - k
      more = omega arith

-- the sum of the parts from k on
abbrev pub later : (l : Level) → (ℕ → (K l).Carrier) → ℕ → (K l).Carrier
later l a k = combined (K l) ((embed l).map (small l 2)) (l.width - k) (λ i. a (k + i))

-- a product with an element of F by its digits, at every level
module _ (l : Level) (wide : 1 < l.width) where
  abbrev Z : (K l).Carrier
  Z = (embed l).map (small l 2)

  -- f times e
  abbrev scaled : ℕ → (K l).Carrier → (K l).Carrier
  scaled f e = (K l).mul ((embed l).map (small l f)) e

  small-none : small l 0 ≡ (F l).zero
  unfolding small F
  small-none = digits-zero l.width

  small_one : small l 1 ≡ (F l).one
  unfolding small F
  small_one = digits-one l.width

  small_half : (f : ℕ) → f < 2 ^ l.width → small l f ≡ (F l).add (small l (f % 2)) ((F l).mul (small l 2) (small l (f / 2)))
  unfolding small F
  small_half f h = digits_half l.width l.tap f wide h

  scaled-digit : (b : ℕ) → b < 2 → (e : (K l).Carrier) → scaled b e ≡ (K l).mul (bit (K l) (odd b)) e
  scaled-digit zero h e = ap (λ c. (K l).mul c e) (ap (embed l).map small-none ∙ hom_zero (F l) (K l) (embed l))
  scaled-digit (suc zero) h e = ap (λ c. (K l).mul c e) (ap (embed l).map small_one ∙ (embed l).map-one)
  scaled-digit (suc (suc b)) h e = absurd (omega arith)

  scaled_half : (f : ℕ) (e : (K l).Carrier) → f < 2 ^ l.width → (K l).add (scaled (f % 2) e) ((K l).mul Z (scaled (f / 2) e)) ≡ scaled f e
  scaled_half f e h = inner (K l) ((embed l).map (small l (f % 2))) Z ((embed l).map (small l (f / 2))) e
      ∙ ap (λ c. (K l).mul c e) (sym (ap (embed l).map (small_half f h) ∙ (embed l).map-add (small l (f % 2)) ((F l).mul (small l 2) (small l (f / 2))) ∙ ap ((K l).add ((embed l).map (small l (f % 2)))) ((embed l).map-mul (small l 2) (small l (f / 2)))))
    where
      inner : (R : Ring) (p z q x : R.Carrier) → R.add (R.mul p x) (R.mul z (R.mul q x)) ≡ R.mul (R.add p (R.mul z q)) x
      inner R p z q x = simp ring

  pub combined-digits : (n f : ℕ) (e : (K l).Carrier) → n ≤ l.width → f < 2 ^ n → combined (K l) Z n (λ k. (K l).mul (bit (K l) (odd (f / 2 ^ k % 2))) e) ≡ scaled f e
  unfolding combined
  combined-digits zero f e h m = sym (ap (λ g. scaled g e) none ∙ scaled-digit 0 (omega arith) e ∙ zero-mul (K l) e)
    where
      none : f ≡ 0
      none = omega arith
  combined-digits (suc n) f e h m = ap₂ (K l).add (ap (λ g. (K l).mul (bit (K l) (odd (g % 2))) e) one ∙ sym (scaled-digit (f % 2) (omega arith) e)) (ap ((K l).mul Z) (ap (λ (g : ℕ → ℕ). combined (K l) Z n (λ k. (K l).mul (bit (K l) (odd (g k % 2))) e)) (λ j k. halved k j) ∙ combined-digits n (f / 2) e (omega arith) (omega (arith, pow-suc 2 n)))) ∙ scaled_half f e below
    where
      one : f / 2 ^ 0 ≡ f
      one = omega arith

      halved : (k : ℕ) → f / 2 ^ suc k ≡ f / 2 / 2 ^ k
      halved k = ap (λ i. f / 2 ^ i) next ∙ sym (shr-shr f 1 k)
        where
          next : suc k ≡ 1 + k
          next = omega arith

      below : f < 2 ^ l.width
      below = lt_of_lt_of_le m (pow_mono {i = suc n} {j = l.width} h)

-- parts of zeros
none : (l : Level) → room l * l.width ≤ 72 → ((k i : ℕ) → k < l.width → i < l.coordinates → room l * k + i / 4 < 72) → Combines l (replicate 72 0) (K l).zero
unfolding Holds
none l long inside = record { size = long; part = λ k. (K l).zero; held = λ k h i m. blank k i h m ∙ sym (zero_word l i m); total = combined-none (K l) ((embed l).map (small l 2)) l.width }
  where
    blank : (k i : ℕ) → k < l.width → i < l.coordinates → coordinate (drop (room l * k) (replicate 72 0)) i ≡ 0
    blank k i h m = coordinate-is (drop (room l * k) (replicate 72 0)) i ∙ ap (λ y. lane y (i % 4)) (get_or-drop (room l * k) (replicate 72 0) (i / 4) 0 ∙ get_or-replicate 72 (room l * k + i / 4) 0 0 (inside k i h m)) ∙ lane-zero (i % 4)

pub combines_none : (number : ℕ) → Combines (level_at number) (replicate 72 0) (K (level_at number)).zero
combines_none number = every (λ l. Combines l (replicate 72 0) (K l).zero) number (none first (omega arith) (λ k i h m. omega arith)) (none second (omega arith) (λ k i h m. omega arith))
