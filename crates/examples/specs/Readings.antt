-- What the specification says of d, of digits and of spare codes, besides their definitions.
use Rattle.std.specs.Prelude.{◌≡◌, [], ◌∷◌, map, ℕ, ◌-◌, ◌^◌, ◌≤◌, ◌<◌}
use Rattle.key.specs.declared.Code.TheVariants.{Column, Spare, TooLarge}
use Rattle.key.specs.Key.{degree, code_of, codes_of}
use Rattle.constraints.specs.Digits.{digit_in}

pub record Readings : Type 0 where
  -- "1 for n = 2, 2 for n = 3, 6 for n = 64"
  pub two : degree 2 ≡ 1
  pub three : degree 3 ≡ 2
  pub most : degree 64 ≡ 6
  -- "the number of binary digits of n - 1"
  pub fewest : (n : ℕ) → 2 ≤ n → n < 2 ^ 64 → 2 ^ (degree n - 1) < n
  pub enough : (n : ℕ) → n < 2 ^ 64 → n ≤ 2 ^ degree n
  -- "3 is written (0 1 1) when d = 3"
  pub written : digit_in 2 3 0 3 ∷ digit_in 2 3 1 3 ∷ digit_in 2 3 2 3 ∷ [] ≡ 0 ∷ 1 ∷ 1 ∷ []
  -- "Card makers with n = 50 want to hear that position 53 is no column": the first and the last of each case
  pub columns : codes_of 50 (0 ∷ 49 ∷ []) ≡ Column
  pub spare : map (code_of 50) (50 ∷ 53 ∷ 63 ∷ []) ≡ Spare ∷ Spare ∷ Spare ∷ []
  pub too_large : map (code_of 50) (64 ∷ 255 ∷ []) ≡ TooLarge ∷ TooLarge ∷ []
  -- one spare code among columns, and one too large after it
  pub highest : codes_of 50 (1 ∷ 53 ∷ 2 ∷ []) ∷ codes_of 50 (1 ∷ 53 ∷ 64 ∷ []) ∷ [] ≡ Spare ∷ TooLarge ∷ []
  -- a power of two leaves no spare code
  pub none-spare : map (code_of 64) (63 ∷ 64 ∷ []) ≡ Column ∷ TooLarge ∷ []
