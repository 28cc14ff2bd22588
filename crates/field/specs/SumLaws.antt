-- Laws of sums that definitions need, proved: a reader need not believe this file.
use Rattle.std.specs.Prelude.{◌≡◌, refl, ℕ, zero, suc, ◌<◌}
use Rattle.std.proofs.Common.{◌∙◌, ap, ap₂, arith}
use Rattle.field.specs.Sums.{summed}

pub summed_cong : {A : Type 0} (nil : A) (plus : A → A → A) (n : ℕ) (f g : ℕ → A) → ((i : ℕ) → i < n → f i ≡ g i) → summed nil plus n f ≡ summed nil plus n g
unfolding summed
summed_cong nil plus zero f g h = refl
summed_cong nil plus (suc n) f g h = ap₂ plus (summed_cong nil plus n f g (λ i l. h i (omega arith))) (h n (omega arith))

-- a map that keeps sums of two keeps sums of any number
pub map-summed : {A B : Type 0} (nil : A) (plus : A → A → A) (nil' : B) (plus' : B → B → B) (map : A → B) → map nil ≡ nil' → ((a b : A) → map (plus a b) ≡ plus' (map a) (map b))
    → (n : ℕ) (f : ℕ → A) → map (summed nil plus n f) ≡ summed nil' plus' n (λ i. map (f i))
unfolding summed
map-summed nil plus nil' plus' map e h zero f = e
map-summed nil plus nil' plus' map e h (suc n) f = h (summed nil plus n f) (f n) ∙ ap (λ s. plus' s (map (f n))) (map-summed nil plus nil' plus' map e h n f)
