-- Words are determined by their elements: the whole content of a slice.
use mathlib.Core.Path.{◌≡◌, refl, sym, ◌∙◌, ap, ap₂}
use mathlib.Core.List.{List, ◌++◌}
use Prim.Native.Nat.{ℕ, ◌+◌, ◌*◌, ◌<◌}
use native.Mathlib.Nat.{mul-add, add_assoc}
use native.Mathlib.Omega.{arith}
use lib.ListN.{length}
use lib.Seq.{take_all}
use Rattle.lists.specs.Words.{part, concat}
use Rattle.lists.proofs.Concat.{concat_cong, concat-append}
use Rattle.field.specs.declared.Level.{Level}
use Rattle.field.specs.Level.{K}
use Rattle.field.specs.Word.{words, Words}
use Rattle.row.specs.Elements.{el}
use Rattle.row.specs.Polynomial.{sum, monomial}
use Rattle.row.specs.Step.{Step, Topped}
use Rattle.row.proofs.NumberLaws.{row-le}
use Rattle.row.proofs.ElementLaws.{part-words, fits_le, fits_all}
use Rattle.rows.proofs.BlockLaws.{concat_flat, concat_parts}
use Rattle.rows.proofs.Shares.{Rows}

module _ (l : Level) where
  -- n rows and m rows of s elements
  pub content : (n m s : ℕ) (ys : List ℕ) (c e : ℕ → ℕ → (K l).Carrier) → Words l ys → 0 < l.coordinates → length ys ≡ l.coordinates * (s * (n + m))
      → ((j : ℕ) → j < n → (k : ℕ) → k < s → el l ys (s * j + k) ≡ c j k) → ((j : ℕ) → j < m → (k : ℕ) → k < s → el l ys (s * n + s * j + k) ≡ e j k)
      → ys ≡ concat n (λ j. concat s (λ k. words l (c j k))) ++ concat m (λ j. concat s (λ k. words l (e j k)))
  content n m s ys c e h pos size hc he =
      sym (take_all (w * (s * (n + m))) ys (omega arith)) ∙ concat_parts w (s * (n + m)) ys ∙ ap (λ t. concat t P) (mul-add s n m) ∙ concat-append (s * n) (s * m) P
      ∙ ap₂ ◌++◌
      (concat_flat s n P ∙ concat_cong n (λ j. concat s (λ k. P (s * j + k))) (λ j. concat s (λ k. words l (c j k)))
      (λ j a. concat_cong s (λ k. P (s * j + k)) (λ k. words l (c j k)) (λ k b. at (s * j + k) (omega (arith, row-le s j n a, mul-add s n m)) ∙ ap (words l) (hc j a k b))))
      (concat_flat s m (λ i. P (s * n + i)) ∙ concat_cong m (λ j. concat s (λ k. P (s * n + (s * j + k)))) (λ j. concat s (λ k. words l (e j k)))
      (λ j a. concat_cong s (λ k. P (s * n + (s * j + k))) (λ k. words l (e j k))
      (λ k b. ap P (sym (add_assoc (s * n) (s * j) k)) ∙ at (s * n + s * j + k) (omega (arith, row-le s j m a, mul-add s n m)) ∙ ap (words l) (he j a k b))))
    where
      w : ℕ
      w = l.coordinates

      P : ℕ → List ℕ
      P i = part (w * i) w ys

      at : (i : ℕ) → i < s * (n + m) → P i ≡ words l (el l ys i)
      at i p = part-words l ys i h (fits_le l (i + 1) (s * (n + m)) (omega arith) refl (fits_all l (s * (n + m)) pos size))

  -- the sums of all rows, with p added at place d of each column and b at that of each check
  pub rows-content : (n m s : ℕ) (c : ℕ → ℕ → ℕ → (K l).Carrier) (x : ℕ → (K l).Carrier) (h : ℕ → ℕ → (K l).Carrier) (xs ys : List ℕ) (d : ℕ) (o p : (K l).Carrier) (y b : ℕ → (K l).Carrier) → 0 < l.coordinates
      → length ys ≡ l.coordinates * (s * (n + m)) → Rows (K l) n m s c x h (el l xs) n → Step l xs ys (λ f g. Topped (K l) f g n m s d o y) → o ≡ p → ((e : ℕ) → (K l).mul (y e) p ≡ b e)
      → ys ≡ concat n (λ j. concat s (λ k. words l ((K l).add (sum (K l) n (λ r. c r j k)) (monomial (K l) p d k)))) ++ concat m (λ e. concat s (λ k. words l ((K l).add (sum (K l) n (λ r. (K l).mul (h e r) (sum (K l) n (λ j. (K l).mul (x j) (c r j k))))) (monomial (K l) (b e) d k))))
  rows-content n m s c x h xs ys d o p y b pos size t u v w = content n m s ys _ _ u.words pos size
      (λ j a k i. u.holds.column j a k i ∙ ap₂ (λ q r. (K l).add q (monomial (K l) r d k)) (t.column j a k i) v)
      (λ e a k i. u.holds.check e a k i ∙ ap₂ (λ q r. (K l).add q (monomial (K l) r d k)) (t.check e a k i) (ap ((K l).mul (y e)) v ∙ w e))
