-- What this crate writes.
use Rattle.std.specs.Prelude.{◌≡◌, cond, List, ◌++◌, ℕ, ◌+◌, ◌<◌}
use Rattle.lists.specs.Words.{concat}
use Rattle.field.specs.declared.Level.{Level}
use Rattle.field.specs.Binary.{xor}
use Rattle.field.specs.Level.{K}
use Rattle.field.specs.Word.{words}
use Rattle.row.specs.Lists.{tab}
use Rattle.row.specs.Elements.{el}
use Rattle.row.specs.Polynomial.{column, check, column_value, check_value}
use Rattle.row.specs.Lent.{small_of, entry_of, digit_of, bit_of, element_of}

-- the words of the n + m polynomials of d + 1 coefficients
unfoldable pub polynomials : (l : Level) (n m d : ℕ) (h x y positions v : List ℕ) → List ℕ
polynomials l n m d h x y positions v =
    concat n (λ j. concat (d + 1) (λ k. words l (column (K l) n d (entry_of l n h) (small_of l x) (small_of l y) (digit_of d positions) (element_of l d v) j k)))
    ++ concat m (λ e. concat (d + 1) (λ k. words l (check (K l) n d (entry_of l n h) (small_of l x) (small_of l y) (digit_of d positions) (element_of l d v) e k)))

-- g 0 to g (n + m - 1) are their coefficients of X^d
pub record Tops (l : Level) (n m d : ℕ) (h x y positions v : List ℕ) (g : ℕ → (K l).Carrier) : Type 0 where
  pub columns : (j : ℕ) → j < n → g j ≡ column (K l) n d (entry_of l n h) (small_of l x) (small_of l y) (digit_of d positions) (element_of l d v) j d
  pub checks : (e : ℕ) → e < m → g (n + e) ≡ check (K l) n d (entry_of l n h) (small_of l x) (small_of l y) (digit_of d positions) (element_of l d v) e d

-- the words of the n + m values
unfoldable pub values : (l : Level) (n m d : ℕ) (h x y t q delta : List ℕ) → List ℕ
values l n m d h x y t q delta =
    concat n (λ j. words l (column_value (K l) n d (entry_of l n h) (small_of l x) (small_of l y) (bit_of d t) (element_of l d q) (el l delta 0) j))
    ++ concat m (λ e. words l (check_value (K l) n d (entry_of l n h) (small_of l x) (small_of l y) (bit_of d t) (element_of l d q) (el l delta 0) e))

-- row i of the masked witness: "t(i,k) is w(i,k) exclusive-or u(i,k)"
unfoldable pub masked_row : (d : ℕ) (positions u : List ℕ) → ℕ → List ℕ
masked_row d positions u i = tab d (λ k. cond (xor (digit_of d positions i k) (bit_of d u i k)) 1 0)

-- all n rows
unfoldable pub masked_witness : (n d : ℕ) (positions u : List ℕ) → List ℕ
masked_witness n d positions u = concat n (masked_row d positions u)
