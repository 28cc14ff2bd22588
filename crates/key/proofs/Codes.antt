-- The cases of positions, by two tests of every position.
use mathlib.Core.Path.{◌≡◌, refl, sym, ap, ap₂, ◌∙◌}
use mathlib.Core.Bool.{Bool, true, false, cond, ◌&&◌, and-eq-true_iff, false≢true}
use mathlib.Core.List.{List, [], ◌∷◌, ◌++◌}
use Prim.Native.Nat.{ℕ, zero, suc, ◌+◌, ◌-◌, ◌/◌, ◌^◌, ◌≤◌, ◌<◌}
use native.Mathlib.Decide.{dec_lt}
use native.Mathlib.Omega.{arith}
use borrow.Author.Tests.{lt-ltb, le-ltb, ltb-true, ltb-false}
use lib.Dec.{ltb}
use lib.Bits.{bit_and, bit_or}
use lib.ListN.{length, get_or, take}
use lib.Pow.{pow_mono}
use Rattle.refusal.specs.Answer.{first_of}
use Rattle.lists.specs.Words.{all}
use Rattle.lists.proofs.Words.{all_more, all_from}
use Rattle.field.proofs.Limit.{or-below}
use Rattle.key.specs.declared.Code.{Code}
use Rattle.key.specs.declared.Code.TheVariants.{Column, Spare, TooLarge}
use Rattle.key.specs.Key.{degree, below, code_of, code_number, code_at, codes_of, higher, is_too_large, is_spare, material, spare_row}
use Rattle.key.proofs.Sized.{degree-lt}
use Rattle.key.proofs.Fine.{below-lt}

-- a position and what the limit k lacks to 256 stay below 256 exactly when the position is below k
pub carry : (k p : ℕ) → k ≤ 256 → ltb (p + (256 - k)) (2 ^ 8) ≡ ltb p k
carry k p h = go (dec_lt p k)
  where
    go : Dec (p < k) → ltb (p + (256 - k)) (2 ^ 8) ≡ ltb p k
    go (yes l) = lt-ltb (p + (256 - k)) (2 ^ 8) (omega arith) ∙ sym (lt-ltb p k l)
    go (no g) = le-ltb (p + (256 - k)) (2 ^ 8) (omega arith) ∙ sym (le-ltb p k (omega arith))

-- one position more, of those joined so far and all below k
pub joined : (k : ℕ) (s : List ℕ) (i a r : ℕ) → i < length s → ltb a 256 ≡ all (λ p. ltb p k) (take i s) → ltb r 256 ≡ ltb (get_or s i 0) k → ltb (bit_or a r) 256 ≡ all (λ p. ltb p k) (take (i + 1) s)
joined k s i a r h e f = or-below 8 a r ∙ ap₂ ◌&&◌ e f ∙ sym (all_more (λ p. ltb p k) s i h)

-- a byte names every one of the 2^d codes
pub power_le : (n : ℕ) → 1 ≤ n → n ≤ 256 → (degree n < 64) × (2 ^ degree n ≤ 256)
power_le n h k = let d = degree-lt n 9 h (omega arith) (omega arith) in (omega (arith, d), pow_mono {i = degree n} {j = 8} (omega (arith, d)))

-- by whether all are below n and whether all are below 2^d
abbrev by_tests : (columns codes : Bool) → Code
by_tests columns codes = cond columns Column (cond codes Spare TooLarge)

-- the two tests of a position, or of positions: what passes the first passes the second
abbrev Implies : Bool → Bool → Type 0
Implies a b = a ≡ true → b ≡ true

higher-tests : (a b c d : Bool) → Implies a b → Implies c d → higher (by_tests a b) (by_tests c d) ≡ by_tests (a && c) (b && d)
higher-tests true true c d f g = refl
higher-tests true false c d f g = absurd (false≢true (f refl))
higher-tests false true true true f g = refl
higher-tests false true true false f g = absurd (false≢true (g refl))
higher-tests false true false true f g = refl
higher-tests false true false false f g = refl
higher-tests false false c d f g = refl

module _ (n : ℕ) (fits : n ≤ 2 ^ degree n) where
  one : (p : ℕ) → Implies (ltb p n) (ltb p (2 ^ degree n))
  one p e = lt-ltb p (2 ^ degree n) (omega (arith, ltb-true p n e))

  all_codes : (s : List ℕ) → all (λ p. ltb p n) s ≡ true → below (degree n) s ≡ true
  unfolding all below
  all_codes [] e = refl
  all_codes (p ∷ s) e = let b = (and-eq-true_iff (ltb p n) (all (λ p. ltb p n) s)).0 e in ap₂ ◌&&◌ (one p b.0) (all_codes s b.1)

  by_tests_lem : (s : List ℕ) → codes_of n s ≡ by_tests (all (λ p. ltb p n) s) (below (degree n) s)
  unfolding codes_of code_of all below
  by_tests_lem [] = refl
  by_tests_lem (p ∷ s) = ap (higher (code_of n p)) (by_tests_lem s) ∙ higher-tests (ltb p n) (ltb p (2 ^ degree n)) (all (λ p. ltb p n) s) (below (degree n) s) (one p) (all_codes s)

  -- the ninth digits of what was joined in each test
  pub number : (s : List ℕ) (a b : ℕ) → a < 512 → b < 512 → ltb a (2 ^ 8) ≡ all (λ p. ltb p n) s → ltb b (2 ^ 8) ≡ below (degree n) s → a / 256 + b / 256 ≡ code_number (codes_of n s)
  number s a b k l e f = cases (ltb a (2 ^ 8)) (ltb b (2 ^ 8)) refl refl ∙ ap code_number (ap₂ by_tests e f ∙ sym (by_tests_lem s))
    where
      cases : (c d : Bool) → ltb a (2 ^ 8) ≡ c → ltb b (2 ^ 8) ≡ d → a / 256 + b / 256 ≡ code_number (by_tests c d)
      cases true true p q = omega (arith, ltb-true a (2 ^ 8) p, ltb-true b (2 ^ 8) q)
      cases true false p q = absurd (false≢true (sym q ∙ f ∙ all_codes s (sym e ∙ p)))
      cases false true p q = omega (arith, ltb-false a (2 ^ 8) p, ltb-true b (2 ^ 8) q)
      cases false false p q = omega (arith, ltb-false a (2 ^ 8) p, ltb-false b (2 ^ 8) q)

  -- where none is too large, and where all are columns
  pub codes_lt : (s : List ℕ) → is_too_large (codes_of n s) ≡ false → (k : ℕ) → get_or s k 0 < 2 ^ degree n
  codes_lt s e k = below-lt (degree n) s (go (all (λ p. ltb p n) s) (below (degree n) s) (all_codes s) (ap is_too_large (sym (by_tests_lem s)) ∙ e)) k
    where
      go : (c d : Bool) → Implies c d → is_too_large (by_tests c d) ≡ false → d ≡ true
      go c true g f = refl
      go true false g f = g refl
      go false false g f = sym f

  pub columns : (s : List ℕ) → ((k : ℕ) → k < length s → get_or s k 0 < n) → codes_of n s ≡ Column
  columns s h = by_tests_lem s ∙ ap (λ c. by_tests c (below (degree n) s)) (all_from (λ p. ltb p n) s (λ k l. lt-ltb (get_or s k 0) n (h k l)))

-- positions whose case is Spare have a spare code among them, and the other way round where none is too large
module _ (n : ℕ) where
  pub some-spare : (s : List ℕ) → is_spare (codes_of n s) ≡ true → (i : ℕ) × (i < length s) × (code_of n (get_or s i 0) ≡ Spare)
  unfolding codes_of
  some-spare [] e = absurd (false≢true e)
  some-spare (p ∷ s) e = go (code_of n p) refl e (λ f. some-spare s f)
    where
      go : (c : Code) → code_of n p ≡ c → is_spare (higher c (codes_of n s)) ≡ true → (is_spare (codes_of n s) ≡ true → (i : ℕ) × (i < length s) × (code_of n (get_or s i 0) ≡ Spare))
          → (i : ℕ) × (i < length (p ∷ s)) × (code_of n (get_or (p ∷ s) i 0) ≡ Spare)
      go Column f e more = let r = more e in (suc r.0, omega (arith, r.1), r.2)
      go Spare f e more = (0, omega arith, f)
      go TooLarge f e more = absurd (false≢true e)

  pub spare-told : (s : List ℕ) → is_too_large (codes_of n s) ≡ false → (i : ℕ) → i < length s → code_of n (get_or s i 0) ≡ Spare → is_spare (codes_of n s) ≡ true
  unfolding codes_of
  spare-told [] e i h f = absurd (omega arith)
  spare-told (p ∷ s) e zero h f = ap (λ c. is_spare (higher c (codes_of n s))) f ∙ first (codes_of n s) (ap (λ c. is_too_large (higher c (codes_of n s))) (sym f) ∙ e)
    where
      first : (c : Code) → is_too_large (higher Spare c) ≡ false → is_spare (higher Spare c) ≡ true
      first Column e = refl
      first Spare e = refl
      first TooLarge e = sym e
  spare-told (p ∷ s) e (suc i) h f = later (code_of n p) (codes_of n s) e (λ g. spare-told s g i (omega arith) f)
    where
      later : (b c : Code) → is_too_large (higher b c) ≡ false → (is_too_large c ≡ false → is_spare c ≡ true) → is_spare (higher b c) ≡ true
      later Column c e g = g e
      later Spare Column e g = refl
      later Spare Spare e g = refl
      later Spare TooLarge e g = sym e
      later TooLarge c e g = sym e

pub code-column : (n p : ℕ) → p < n → code_of n p ≡ Column
unfolding code_of
code-column n p h = ap (λ c. cond c Column (cond (ltb p (2 ^ degree n)) Spare TooLarge)) (lt-ltb p n h)

-- the case of a number
pub at-number : (c : Code) → code_at (code_number c) ≡ c
at-number Column = refl
at-number Spare = refl
at-number TooLarge = refl

-- where spare codes are taken, and pass as columns do
abbrev pub spare_taken : Code → Code
spare_taken Column = Column
spare_taken Spare = Column
spare_taken TooLarge = TooLarge

pub at-taken : (c : Code) → code_at (bit_and (code_number c) 2) ≡ spare_taken c
at-taken Column = refl
at-taken Spare = refl
at-taken TooLarge = refl

pub taken : (bits coordinates : Bool) (c : Code) → first_of (material bits coordinates (spare_taken c) ++ spare_row (spare_taken c)) ≡ first_of (material bits coordinates c)
taken false coordinates c = refl
taken true false c = refl
taken true true Column = refl
taken true true Spare = refl
taken true true TooLarge = refl
