-- Division of a polynomial by a monic one, with remainder.
use mathlib.Core.Path.{◌≡◌, refl, sym, ◌∙◌, ap, ap₂}
use Prim.Native.Nat.{ℕ, zero, suc, ◌+◌, ◌<◌, ◌≤◌}
use native.Mathlib.Nat.{le_refl}
use native.Mathlib.Omega.{arith}
use Rattle.field.specs.Ring.{Ring, Hom}
use Rattle.field.specs.RingLaws.{ring}
use Rattle.field.specs.Vector.{Vector, zeros, sum, scale, push, top}
use Rattle.field.specs.VectorLaws.{pad, vector, sum_comm, sum_zeros, zeros-sum, scale-zeros, zero-scale}
use Rattle.galois.specs.Polynomial.{product, monic}
use Rattle.galois.proofs.Evaluation.{evaluate, evaluate-sum, evaluate-pad, evaluate-product}

module _ (R : Ring) where
  open R use {Carrier, zero as 𝟘, one as 𝟙, add as ◌⊕◌, mul as ◌⊗◌}

  infixl 60 ◌⊕◌
  infixl 70 ◌⊗◌
  pub pad-zeros : (n m : ℕ) → pad R n m (zeros R n) ≡ zeros R m
  unfolding pad zeros
  pad-zeros zero m = refl
  pad-zeros (suc n) zero = refl
  pad-zeros (suc n) (suc m) = λ i. (𝟘, pad-zeros n m i)

  pad-pad : (n m l : ℕ) (c : Vector Carrier n) → n ≤ m → pad R m l (pad R n m c) ≡ pad R n l c
  unfolding pad
  pad-pad zero m l c h = pad-zeros m l
  pad-pad (suc n) zero l c h = absurd (omega arith)
  pad-pad (suc n) (suc m) zero c h = refl
  pad-pad (suc n) (suc m) (suc l) c h = λ i. (c.0, pad-pad n m l c.1 (omega arith) i)

  pub pad-injective : (n m : ℕ) (c : Vector Carrier n) → n ≤ m → pad R n m c ≡ zeros R m → c ≡ zeros R n
  unfolding pad zeros
  pad-injective zero m c h e = refl
  pad-injective (suc n) zero c h e = absurd (omega arith)
  pad-injective (suc n) (suc m) c h e = λ i. ((e i).0, pad-injective n m c.1 (omega arith) (λ j. (e j).1) i)

  pad-scale : (n m : ℕ) (r : Carrier) (c : Vector Carrier n) → pad R n m (scale R n r c) ≡ scale R m r (pad R n m c)
  unfolding pad scale
  pad-scale zero m r c = sym (scale-zeros R m r)
  pad-scale (suc n) zero r c = refl
  pad-scale (suc n) (suc m) r c = λ i. (r ⊗ c.0, pad-scale n m r c.1 i)

  pub product_zeros : (l m n : ℕ) (a : Vector Carrier m) → product R l m n a (zeros R n) ≡ zeros R l
  unfolding product zeros
  product_zeros zero m n a = refl
  product_zeros (suc l) m zero a = refl
  product_zeros (suc l) m (suc n) a = ap₂ (sum R (suc l)) (ap (pad R m (suc l)) (zero-scale R m a) ∙ pad-zeros m (suc l)) (λ i. (𝟘, product_zeros l m n a i))
      ∙ sum_zeros R (suc l) (zeros R (suc l))

  pub zeros-product : (l m n : ℕ) (b : Vector Carrier n) → product R l m n (zeros R m) b ≡ zeros R l
  unfolding product zeros
  zeros-product zero m n b = refl
  zeros-product (suc l) m zero b = refl
  zeros-product (suc l) m (suc n) b = ap₂ (sum R (suc l)) (ap (pad R m (suc l)) (scale-zeros R m b.0) ∙ pad-zeros m (suc l)) (λ i. (𝟘, zeros-product l m n b.1 i))
      ∙ sum_zeros R (suc l) (zeros R (suc l))

  regroup : (n : ℕ) (x y z : Vector Carrier n) → sum R n (sum R n x y) z ≡ sum R n (sum R n x z) y
  regroup n x y z = simp vector

  -- c + X r, of k + 1 coefficients, is its top coefficient times X^k + g, and k coefficients more
  carry : (k l : ℕ) → k ≤ l → (g : Vector Carrier k) (c : Carrier) (r : Vector Carrier k)
      → sum R (suc l) (scale R (suc l) (top R k c r) (pad R (suc k) (suc l) (monic R k g))) (pad R k (suc l) (sum R k (push R k c r) (scale R k (top R k c r) g))) ≡ (c, pad R k l r)
  unfolding sum scale top pad monic push zeros
  carry zero l h g c r = λ i. (inner i, (sum_zeros R l (scale R l c (zeros R l)) ∙ scale-zeros R l c) i)
    where
      inner : c ⊗ 𝟙 ⊕ 𝟘 ≡ c
      inner = simp ring
  carry (suc k) zero h g c r = absurd (omega arith)
  carry (suc k) (suc l) h g c r = λ i. (inner (top R k r.0 r.1 ⊗ g.0) i, carry k l (omega arith) g.1 r.0 r.1 i)
    where
      inner : (y : Carrier) → y ⊕ (c ⊕ y) ≡ c
      inner y = simp ring

  module _ (k : ℕ) (g : Vector Carrier k) where
    -- of n + 1 coefficients c, divided by X^k + g
    unfoldable pub remainder : (n : ℕ) → Vector Carrier (suc n) → Vector Carrier k
    remainder zero c = pad R 1 k c
    remainder (suc n) c = sum R k (push R k c.0 (remainder n c.1)) (scale R k (top R k c.0 (remainder n c.1)) g)

    unfoldable pub quotient : (n : ℕ) → Vector Carrier (suc n) → Vector Carrier n
    quotient zero c = tt
    quotient (suc n) c = (top R k c.0 (remainder n c.1), quotient n c.1)

    module _ (w : ℕ) (positive : 0 < k) (below : k < w) where
      -- the divisor, of w coefficients
      abbrev D : Vector Carrier w
      D = pad R (suc k) w (monic R k g)

      pub division : (n l : ℕ) (c : Vector Carrier (suc n)) → w + n ≤ l → sum R l (product R l w n D (quotient n c)) (pad R k l (remainder n c)) ≡ pad R (suc n) l c
      unfolding product quotient remainder sum pad
      division n zero c h = absurd (omega arith)
      division zero (suc l) c h = zeros-sum R (suc l) (pad R k (suc l) (pad R 1 k c)) ∙ pad-pad 1 k (suc l) c positive
      division (suc n) (suc l) c h =
          ap (λ u. sum R (suc l) (sum R (suc l) u (𝟘, P)) rest) (pad-scale w (suc l) s D ∙ ap (scale R (suc l) s) (pad-pad (suc k) w (suc l) (monic R k g) below))
          ∙ regroup (suc l) (scale R (suc l) s (pad R (suc k) (suc l) (monic R k g))) (𝟘, P) rest ∙ ap (λ u. sum R (suc l) u (𝟘, P)) (carry k l (omega arith) g c.0 r)
          ∙ last (division n l c.1 (omega arith))
        where
          r : Vector Carrier k
          r = remainder n c.1

          s : Carrier
          s = top R k c.0 r

          P : Vector Carrier l
          P = product R l w n D (quotient n c.1)

          rest : Vector Carrier (suc l)
          rest = pad R k (suc l) (sum R k (push R k c.0 r) (scale R k s g))

          last : sum R l P (pad R k l r) ≡ pad R (suc n) l c.1 → sum R (suc l) (c.0, pad R k l r) (𝟘, P) ≡ pad R (suc (suc n)) (suc l) c
          last e = λ i. (R.add-zero c.0 i, (sum_comm R l (pad R k l r) P ∙ e) i)

    -- c = (X^k + g) q + r, at an element of a ring that R maps to
    pub evaluate_division : 0 < k → (S : Ring) (f : Hom R S) (x : S.Carrier) (n : ℕ) (c : Vector Carrier (suc n))
        → evaluate R S f x (suc n) c ≡ S.add (S.mul (evaluate R S f x (suc k) (monic R k g)) (evaluate R S f x n (quotient n c))) (evaluate R S f x k (remainder n c))
    evaluate_division h S f x n c =
        sym (evaluate-pad R S f x (suc n) l c (omega arith)) ∙ ap (evaluate R S f x l) (sym (division (suc k) h (le_refl (suc k)) n l c (le_refl l)))
        ∙ evaluate-sum R S f x l (product R l (suc k) n d (quotient n c)) (pad R k l (remainder n c))
        ∙ ap₂ S.add (evaluate-product R S f x l (suc k) n d (quotient n c) (le_refl l)
        ∙ ap (λ y. S.mul y (evaluate R S f x n (quotient n c))) (evaluate-pad R S f x (suc k) (suc k) (monic R k g) (le_refl (suc k))))
        (evaluate-pad R S f x k l (remainder n c) (omega arith))
      where
        l : ℕ
        l = suc k + n

        d : Vector Carrier (suc k)
        d = D (suc k) h (le_refl (suc k))
