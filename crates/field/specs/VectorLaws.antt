-- Laws of vectors over any such ring, proved: a reader need not believe this file.
use Rattle.std.specs.Prelude.{◌≡◌}
use Rattle.std.proofs.Math.Path.{refl, sym, ap}
use Rattle.std.proofs.Common.{◌∙◌, arith}
use Prim.Native.Nat.{ℕ, zero, suc, ◌<◌}
use Rattle.field.specs.Ring.{Ring}
use Rattle.field.specs.RingLaws.{add-mul, mul-zero, zero-mul, one-mul}
use Rattle.field.specs.Vector.{Vector, zeros, unit, sum, scale, push, top}

module _ (R : Ring) where
  open R use {Carrier, zero as 𝟘, one as 𝟙, add as ◌⊕◌, mul as ◌⊗◌}

  infixl 60 ◌⊕◌
  infixl 70 ◌⊗◌
  pub sum_assoc : (n : ℕ) (u v w : Vector Carrier n) → sum R n (sum R n u v) w ≡ sum R n u (sum R n v w)
  unfolding sum
  sum_assoc zero u v w = refl
  sum_assoc (suc n) u v w = λ i. (R.add_assoc u.0 v.0 w.0 i, sum_assoc n u.1 v.1 w.1 i)

  pub sum_comm : (n : ℕ) (u v : Vector Carrier n) → sum R n u v ≡ sum R n v u
  unfolding sum
  sum_comm zero u v = refl
  sum_comm (suc n) u v = λ i. (R.add_comm u.0 v.0 i, sum_comm n u.1 v.1 i)

  pub sum_zeros : (n : ℕ) (u : Vector Carrier n) → sum R n u (zeros R n) ≡ u
  unfolding sum zeros
  sum_zeros zero u = refl
  sum_zeros (suc n) u = λ i. (R.add-zero u.0 i, sum_zeros n u.1 i)

  pub sum_self : (n : ℕ) (u : Vector Carrier n) → sum R n u u ≡ zeros R n
  unfolding sum zeros
  sum_self zero u = refl
  sum_self (suc n) u = λ i. (R.add_self u.0 i, sum_self n u.1 i)

  pub zeros-sum : (n : ℕ) (u : Vector Carrier n) → sum R n (zeros R n) u ≡ u
  zeros-sum n u = sum_comm n (zeros R n) u ∙ sum_zeros n u

  pub sum-left_comm : (n : ℕ) (u v w : Vector Carrier n) → sum R n u (sum R n v w) ≡ sum R n v (sum R n u w)
  sum-left_comm n u v w = sym (sum_assoc n u v w) ∙ rw (sum_comm n u v) (sum_assoc n v u w)

  pub sum_self_left : (n : ℕ) (u v : Vector Carrier n) → sum R n u (sum R n u v) ≡ v
  sum_self_left n u v = sym (sum_assoc n u u v) ∙ rw (sum_self n u) (zeros-sum n v)

  pub scale-sum : (n : ℕ) (c : Carrier) (u v : Vector Carrier n) → scale R n c (sum R n u v) ≡ sum R n (scale R n c u) (scale R n c v)
  unfolding sum scale
  scale-sum zero c u v = refl
  scale-sum (suc n) c u v = λ i. (R.mul-add c u.0 v.0 i, scale-sum n c u.1 v.1 i)

  pub add-scale : (n : ℕ) (c d : Carrier) (u : Vector Carrier n) → scale R n (c ⊕ d) u ≡ sum R n (scale R n c u) (scale R n d u)
  unfolding sum scale
  add-scale zero c d u = refl
  add-scale (suc n) c d u = λ i. (add-mul R c d u.0 i, add-scale n c d u.1 i)

  pub mul-scale : (n : ℕ) (c d : Carrier) (u : Vector Carrier n) → scale R n (c ⊗ d) u ≡ scale R n c (scale R n d u)
  unfolding scale
  mul-scale zero c d u = refl
  mul-scale (suc n) c d u = λ i. (R.mul_assoc c d u.0 i, mul-scale n c d u.1 i)

  pub scale_comm : (n : ℕ) (c d : Carrier) (u : Vector Carrier n) → scale R n c (scale R n d u) ≡ scale R n d (scale R n c u)
  scale_comm n c d u = sym (mul-scale n c d u) ∙ rw (R.mul_comm c d) (mul-scale n d c u)

  pub zero-scale : (n : ℕ) (u : Vector Carrier n) → scale R n 𝟘 u ≡ zeros R n
  unfolding scale zeros
  zero-scale zero u = refl
  zero-scale (suc n) u = λ i. (zero-mul R u.0 i, zero-scale n u.1 i)

  pub one-scale : (n : ℕ) (u : Vector Carrier n) → scale R n 𝟙 u ≡ u
  unfolding scale
  one-scale zero u = refl
  one-scale (suc n) u = λ i. (one-mul R u.0 i, one-scale n u.1 i)

  pub scale-zeros : (n : ℕ) (c : Carrier) → scale R n c (zeros R n) ≡ zeros R n
  unfolding scale zeros
  scale-zeros zero c = refl
  scale-zeros (suc n) c = λ i. (mul-zero R c i, scale-zeros n c i)

  pub scale-injective : (n : ℕ) → 0 < n → (r s : Carrier) → scale R n r (unit R n 0) ≡ scale R n s (unit R n 0) → r ≡ s
  unfolding scale unit
  scale-injective zero h r s e = absurd (omega arith)
  scale-injective (suc n) h r s e = sym (R.mul-one r) ∙ ap (λ (v : Vector Carrier (suc n)). v.0) e ∙ R.mul-one s

  pub push-sum : (n : ℕ) (c d : Carrier) (u v : Vector Carrier n) → push R n (c ⊕ d) (sum R n u v) ≡ sum R n (push R n c u) (push R n d v)
  unfolding sum push
  push-sum zero c d u v = refl
  push-sum (suc n) c d u v = λ i. (c ⊕ d, push-sum n u.0 v.0 u.1 v.1 i)

  pub top-sum : (n : ℕ) (c d : Carrier) (u v : Vector Carrier n) → top R n (c ⊕ d) (sum R n u v) ≡ top R n c u ⊕ top R n d v
  unfolding sum top
  top-sum zero c d u v = refl
  top-sum (suc n) c d u v = top-sum n u.0 v.0 u.1 v.1

  pub push-scale : (n : ℕ) (s c : Carrier) (u : Vector Carrier n) → push R n (s ⊗ c) (scale R n s u) ≡ scale R n s (push R n c u)
  unfolding scale push
  push-scale zero s c u = refl
  push-scale (suc n) s c u = λ i. (s ⊗ c, push-scale n s u.0 u.1 i)

  pub top-scale : (n : ℕ) (s c : Carrier) (u : Vector Carrier n) → top R n (s ⊗ c) (scale R n s u) ≡ s ⊗ top R n c u
  unfolding scale top
  top-scale zero s c u = refl
  top-scale (suc n) s c u = top-scale n s u.0 u.1

  -- the n places of v and zeros after them, or the first w of them
  unfoldable pub pad : (n w : ℕ) → Vector Carrier n → Vector Carrier w
  pad zero w v = zeros R w
  pad (suc n) zero v = tt
  pad (suc n) (suc w) v = (v.0, pad n w v.1)

  pub pad-same : (n : ℕ) (v : Vector Carrier n) → pad n n v ≡ v
  unfolding pad zeros
  pad-same zero v = refl
  pad-same (suc n) v = λ i. (v.0, pad-same n v.1 i)

  push-zeros : (w : ℕ) → push R w 𝟘 (zeros R w) ≡ zeros R w
  unfolding push zeros
  push-zeros zero = refl
  push-zeros (suc w) = λ i. (𝟘, push-zeros w i)

  pub push-pad : (n w : ℕ) (c : Carrier) (v : Vector Carrier n) → push R w c (pad n w v) ≡ pad (suc n) w (c, v)
  unfolding pad push zeros
  push-pad n zero c v = refl
  push-pad zero (suc w) c v = λ i. (c, push-zeros w i)
  push-pad (suc n) (suc w) c v = λ i. (c, push-pad n w v.0 v.1 i)

  pub top-pad : (n w : ℕ) (c : Carrier) (v : Vector Carrier n) → n < w → top R w c (pad n w v) ≡ 𝟘
  unfolding pad top zeros
  top-pad n zero c v h = absurd (omega arith)
  top-pad zero (suc zero) c v h = refl
  top-pad zero (suc (suc w)) c v h = top-pad zero (suc w) 𝟘 v (omega arith)
  top-pad (suc n) (suc w) c v h = top-pad n w v.0 v.1 (omega arith)

pub ruleset vector = (sum_assoc, sum_comm, sum-left_comm, sum_zeros, zeros-sum, sum_self, sum_self_left, scale-sum, add-scale, mul-scale, scale_comm, zero-scale, scale-zeros)
