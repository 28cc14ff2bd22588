-- Laws of these operations, and the maps that keep them, proved: a reader need not believe this file.
use Rattle.std.specs.Prelude.{◌≡◌, refl}
use Rattle.std.proofs.Common.{◌∙◌, ap₂, arith}
use Rattle.std.proofs.Math.Path.{ap}
use Prim.Native.Nat.{ℕ, zero, suc, ◌<◌}
use Rattle.field.specs.Ring.{Ring, Hom}
use Rattle.field.specs.SumLaws.{map-summed}
use Rattle.constraints.specs.Graded.{Graded, total, product, power}

pub product_cong : {K : Ring} (G : Graded K) (d : ℕ) (f g : ℕ → G.Value 1) → ((k : ℕ) → k < d → f k ≡ g k) → product G d f ≡ product G d g
unfolding product
product_cong G zero f g h = refl
product_cong G (suc d) f g h = ap₂ (G.times d) (h d (omega arith)) (product_cong G d f g (λ k l. h k (omega arith)))

-- A map that keeps all operations, where multiples by c become multiples by h c
pub record Morphism {K L : Ring} (h : Hom K L) (A : Graded K) (B : Graded L) : Type 0 where
  pub map : (d : ℕ) → A.Value d → B.Value d
  pub map-nil : (d : ℕ) → map d (A.nil d) ≡ B.nil d
  pub map-plus : (d : ℕ) (p q : A.Value d) → map d (A.plus d p q) ≡ B.plus d (map d p) (map d q)
  pub map-scaled : (d : ℕ) (c : K.Carrier) (p : A.Value d) → map d (A.scaled d c p) ≡ B.scaled d (h.map c) (map d p)
  pub map-unit : map 0 A.unit ≡ B.unit
  pub map-X : map 1 A.X ≡ B.X
  pub map-times : (d : ℕ) (l : A.Value 1) (p : A.Value d) → map (suc d) (A.times d l p) ≡ B.times d (map 1 l) (map d p)

module _ {K L : Ring} {h : Hom K L} {A : Graded K} {B : Graded L} (g : Morphism h A B) where
  pub map-total : (d n : ℕ) (f : ℕ → A.Value d) → g.map d (total A d n f) ≡ total B d n (λ i. g.map d (f i))
  map-total d = map-summed (A.nil d) (A.plus d) (B.nil d) (B.plus d) (g.map d) (g.map-nil d) (g.map-plus d)

  pub map-product : (d : ℕ) (f : ℕ → A.Value 1) → g.map d (product A d f) ≡ product B d (λ k. g.map 1 (f k))
  unfolding product
  map-product zero f = g.map-unit
  map-product (suc d) f = g.map-times d (f d) (product A d f) ∙ ap (B.times d (g.map 1 (f d))) (map-product d f)

  pub map-power : (d : ℕ) → g.map d (power A d) ≡ power B d
  unfolding power
  map-power d = map-product d (λ k. A.X) ∙ ap (product B d) (λ i k. g.map-X i)
