-- The constraints of the digits modelling go along with maps, and only the factors in range count, proved: a reader need not believe this file.
use Rattle.std.specs.Prelude.{◌≡◌, refl, Bool, true, false, not, cond, ltb}
use Rattle.std.proofs.Common.{◌∙◌, ltb-true}
use Rattle.std.proofs.Math.Path.{ap, ap₂}
use Prim.Native.Nat.{ℕ, ◌-◌, ◌<◌}
use Rattle.field.specs.Ring.{Ring, Hom}
use Rattle.constraints.specs.Graded.{Graded, total, power}
use Rattle.constraints.specs.GradedLaws.{Morphism, product_cong, map-total, map-product, map-power}
use Rattle.field.specs.SumLaws.{summed_cong}
use Rattle.constraints.specs.Digits.{Instance, digit, factor, z, column, x', row, join, constraint}

pub join_cong : {A : Type 0} (n : ℕ) (f f' g g' : ℕ → A) → ((j : ℕ) → j < n → f j ≡ f' j) → ((e : ℕ) → g e ≡ g' e) → (j : ℕ) → join n f g j ≡ join n f' g' j
unfolding join
join_cong n f f' g g' h k j = pick (ltb j n) refl
  where
    pick : (b : Bool) → ltb j n ≡ b → cond b (f j) (g (j - n)) ≡ cond b (f' j) (g' (j - n))
    pick true e = h j (ltb-true j n e)
    pick false e = k (j - n)

pub map-join : {A B : Type 0} (map : A → B) (n : ℕ) (f g : ℕ → A) (j : ℕ) → map (join n f g j) ≡ join n (λ i. map (f i)) (λ i. map (g i)) j
unfolding join
map-join map n f g j = pick (ltb j n)
  where
    pick : (b : Bool) → map (cond b (f j) (g (j - n))) ≡ cond b (map (f j)) (map (g (j - n)))
    pick true = refl
    pick false = refl

z_cong : {K : Ring} (G : Graded K) (d : ℕ) (e f : ℕ → ℕ → Bool → G.Value 1) (i j : ℕ) → ((k : ℕ) → k < d → (c : Bool) → e i k c ≡ f i k c) → z G d e i j ≡ z G d f i j
unfolding z factor
z_cong G d e f i j h = product_cong G d _ _ (λ k l. h k l (not (digit d k j)))

pub map-z : {K L : Ring} {h : Hom K L} {A : Graded K} {B : Graded L} (g : Morphism h A B) (d : ℕ) (f : ℕ → ℕ → Bool → A.Value 1) (i j : ℕ)
    → g.map d (z A d f i j) ≡ z B d (λ i k c. g.map 1 (f i k c)) i j
unfolding z factor
map-z {A} g d f i j = map-product g d (factor A d f i j)

-- only rows and columns below n of a matrix z count
module _ {F K : Ring} (φ : Hom F K) (key : Instance F) (G : Graded K) (d : ℕ) (w z : ℕ → ℕ → G.Value d) (h : (i j : ℕ) → i < key.n → j < key.n → w i j ≡ z i j) where
  open key use {n, H, x, y}

  column_cong : (j : ℕ) → j < n → column φ key G d w j ≡ column φ key G d z j
  unfolding column
  column_cong j l = ap (λ s. G.plus d s (power G d)) (summed_cong (G.nil d) (G.plus d) n _ _ (λ i k. h i j k l))

  row_cong : (e : ℕ) → row φ key G d w e ≡ row φ key G d z e
  unfolding row x'
  row_cong e = ap (λ s. G.plus d s (G.scaled d (φ.map (y e)) (power G d))) (summed_cong (G.nil d) (G.plus d) n _ _ (λ i l. ap (G.scaled d (φ.map (H e i))) (summed_cong (G.nil d) (G.plus d) n _ _ (λ j r. ap (G.scaled d (φ.map (x j))) (h i j l r)))))

  pub constraint_cong : (j : ℕ) → constraint φ key G d w j ≡ constraint φ key G d z j
  unfolding constraint
  constraint_cong j = join_cong n _ _ _ _ column_cong row_cong j

-- along a map g over h; ψ is φ and then h
module _ {F K L : Ring} (φ : Hom F K) (ψ : Hom F L) {h : Hom K L} (same : (a : F.Carrier) → h.map (φ.map a) ≡ ψ.map a) (key : Instance F)
    {A : Graded K} {B : Graded L} (g : Morphism h A B) (d : ℕ) (z : ℕ → ℕ → A.Value d) where
  open key use {n, H, x, y}

  map-column : (j : ℕ) → g.map d (column φ key A d z j) ≡ column ψ key B d (λ i j. g.map d (z i j)) j
  unfolding column
  map-column j = g.map-plus d (total A d n (λ i. z i j)) (power A d) ∙ ap₂ (B.plus d) (map-total g d n (λ i. z i j)) (map-power g d)

  multiple : (c : F.Carrier) (f : A.Value d) → g.map d (A.scaled d (φ.map c) f) ≡ B.scaled d (ψ.map c) (g.map d f)
  multiple c f = g.map-scaled d (φ.map c) f ∙ ap (λ a. B.scaled d a (g.map d f)) (same c)

  map_row : (e : ℕ) → g.map d (row φ key A d z e) ≡ row ψ key B d (λ i j. g.map d (z i j)) e
  unfolding row x'
  map_row e = g.map-plus d (total A d n (λ i. A.scaled d (φ.map (H e i)) (x' φ key A d z i))) (A.scaled d (φ.map (y e)) (power A d))
      ∙ ap₂ (B.plus d) (multiples (H e) (x' φ key A d z) ∙ ap (total B d n) (λ t i. B.scaled d (ψ.map (H e i)) (multiples x (z i) t))) (multiple (y e) (power A d) ∙ ap (B.scaled d (ψ.map (y e))) (map-power g d))
    where
      multiples : (c : ℕ → F.Carrier) (f : ℕ → A.Value d) → g.map d (total A d n (λ i. A.scaled d (φ.map (c i)) (f i))) ≡ total B d n (λ i. B.scaled d (ψ.map (c i)) (g.map d (f i)))
      multiples c f = map-total g d n (λ i. A.scaled d (φ.map (c i)) (f i)) ∙ ap (total B d n) (λ t i. multiple (c i) (f i) t)

  map-constraint : (j : ℕ) → g.map d (constraint φ key A d z j) ≡ constraint ψ key B d (λ i j. g.map d (z i j)) j
  unfolding constraint
  map-constraint j = map-join (g.map d) n (column φ key A d z) (row φ key A d z) j ∙ join_cong n _ _ _ _ (λ j l. map-column j) map_row j

-- the two laws of the system of the digits modelling
pub map-digits : {F K L : Ring} (φ : Hom F K) (ψ : Hom F L) {h : Hom K L} → ((a : F.Carrier) → h.map (φ.map a) ≡ ψ.map a) → (key : Instance F) {A : Graded K} {B : Graded L} (g : Morphism h A B) (d : ℕ) (f : ℕ → ℕ → Bool → A.Value 1) (j : ℕ)
    → g.map d (constraint φ key A d (z A d f) j) ≡ constraint ψ key B d (z B d (λ i k c. g.map 1 (f i k c))) j
map-digits φ ψ same key {A} {B} g d f j = map-constraint φ ψ same key g d (z A d f) j ∙ ap (λ y. constraint ψ key B d y j) (λ t i j. map-z g d f i j t)

pub digits_cong : {F K : Ring} (φ : Hom F K) (key : Instance F) (d : ℕ) (G : Graded K) (e f : ℕ → ℕ → Bool → G.Value 1) → ((i k : ℕ) → i < key.n → k < d → (c : Bool) → e i k c ≡ f i k c)
    → (j : ℕ) → constraint φ key G d (z G d e) j ≡ constraint φ key G d (z G d f) j
digits_cong φ key d G e f h = constraint_cong φ key G d (z G d e) (z G d f) (λ i j l r. z_cong G d e f i j (λ k q c. h i k l q c))
