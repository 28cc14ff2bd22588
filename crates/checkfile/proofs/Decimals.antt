-- Laws of numbers in decimal.
use mathlib.Core.Path.{◌≡◌, refl, sym, ap, ap₂, ◌∙◌, subst}
use mathlib.Core.Bool.{Bool, true, false, cond}
use mathlib.Core.List.{List, [], ◌∷◌, ◌++◌, append_assoc}
use Prim.Native.Nat.{ℕ, zero, suc, ◌+◌, ◌-◌, ◌*◌, ◌/◌, ◌%◌, ◌^◌, ◌≤◌, ◌<◌}
use native.Mathlib.Decide.{dec_lt, ℕ_discrete}
use native.Mathlib.Omega.{arith}
use borrow.Author.Tests.{ne_eqb}
use lib.Dec.{eqb}
use lib.ListN.{length, get_or, drop, set, length-set, length-append, drop_of_length-le, get_or-append}
use native.Mathlib.Nat.{pow-suc}
use lib.Seq.{drop-cons, drop-set-lt, get_or-set_same, get_or-append_seam}
use Rattle.checkfile.specs.Line.{value_from, Decimal, digits, decimal}

-- the last digit
abbrev pub low : ℕ → List ℕ
low x = (48 + x % 10) ∷ []

pub digits-zero : (k : ℕ) → digits k 0 ≡ []
unfolding digits
digits-zero zero = refl
digits-zero (suc k) = refl

digits-next : (k x : ℕ) → 0 < x → digits (suc k) x ≡ digits k (x / 10) ++ low x
unfolding digits
digits-next k x h = ap (λ b. cond b [] (digits k (x / 10) ++ low x)) (ne_eqb x 0 (λ e. omega (arith, e)))

-- how many digits are allowed does not matter where they are enough
digits-enough : (j k x : ℕ) → x ≤ j → x ≤ k → digits j x ≡ digits k x
digits-enough zero k x h g =
    let e : x ≡ 0 = omega arith in
    ap (digits 0) e ∙ digits-zero 0 ∙ sym (ap (digits k) e ∙ digits-zero k)
digits-enough (suc j) zero x h g =
    let e : x ≡ 0 = omega arith in
    ap (digits (suc j)) e ∙ digits-zero (suc j) ∙ sym (ap (digits 0) e ∙ digits-zero 0)
digits-enough (suc j) (suc k) x h g = pick (ℕ_discrete x 0) (λ b c. digits-enough j k (x / 10) b c)
  where
    pick : Dec (x ≡ 0) → (x / 10 ≤ j → x / 10 ≤ k → digits j (x / 10) ≡ digits k (x / 10)) → digits (suc j) x ≡ digits (suc k) x
    pick (yes e) same = ap (digits (suc j)) e ∙ digits-zero (suc j) ∙ sym (ap (digits (suc k)) e ∙ digits-zero (suc k))
    pick (no e) same = digits-next j x (omega arith) ∙ ap (λ s. s ++ low x) (same (omega arith) (omega arith)) ∙ sym (digits-next k x (omega arith))

pub digits_step : (k x : ℕ) → 0 < x → x ≤ k → digits k x ≡ digits k (x / 10) ++ low x
digits_step zero x h g = absurd (omega arith)
digits_step (suc k) x h g = digits-next k x h ∙ ap (λ s. s ++ low x) (digits-enough k (suc k) (x / 10) (omega arith) (omega arith))

-- a digit set at a place of an array
pub set-drop : (t : List ℕ) (j c : ℕ) → j < length t → drop j (set t j c) ≡ c ∷ drop (suc j) t
set-drop t j c h = drop-cons (set t j c) j 0 (subst (λ n. j < n) (sym (length-set t j c)) h) ∙ ap₂ ◌∷◌ (get_or-set_same t j c 0 h) (drop-set-lt (suc j) t j c (omega arith))

-- the digits of x that are written stand from place i on, and those of rest are to come
pub record Written (x : ℕ) (text : List ℕ) (i rest : ℕ) : Type 0 where
  pub place : i ≤ 19
  pub long : length text ≡ 20
  pub left : rest ≤ x
  pub few : rest < 10 ^ i
  pub is : decimal x ≡ digits x rest ++ drop i text

pub first-digit : (x c : ℕ) (t : List ℕ) → x < 2 ^ 64 → length t ≡ 20 → c ≡ 48 + x % 10 → Written x (set t 19 c) 19 (x / 10)
unfolding decimal
first-digit x c t b h e =
    let power : 10 ^ 19 ≡ 10000000000000000000 = refl in
    record {
      place = omega arith;
      long = length-set t 19 c ∙ h;
      left = omega arith;
      few = omega arith;
      is = ap (λ s. digits x (x / 10) ++ s) (ap₂ ◌∷◌ (sym e) (sym (drop_of_length-le t {i = 20} (omega arith))) ∙ sym (set-drop t 19 c (omega arith)));
    }

pub some-place : (i rest : ℕ) → 0 < rest → rest < 10 ^ i → 1 ≤ i
some-place zero rest h b = absurd (omega (arith, b))
some-place (suc i) rest h b = omega arith

pub next-digit : (x c i j rest : ℕ) (t : List ℕ) → i ≡ suc j → Written x t i rest → 0 < rest → c ≡ 48 + rest % 10 → Written x (set t j c) j (rest / 10)
next-digit x c i j rest t k v h e =
    let w = subst (λ n. Written x t n rest) k v in
    let place = w.place in
    let long = w.long in
    let left = w.left in
    let digit : c ∷ drop (suc j) t ≡ drop j (set t j c) = sym (set-drop t j c (omega arith)) in
    record {
      place = omega arith;
      long = length-set t j c ∙ long;
      left = omega arith;
      few = omega (arith, w.few, pow-suc 10 j);
      is = w.is
          ∙ ap (λ s. s ++ drop (suc j) t) (digits_step x rest h left)
          ∙ append_assoc (digits x (rest / 10)) (low rest) (drop (suc j) t)
          ∙ ap (λ s. digits x (rest / 10) ++ s) (ap (λ d. d ∷ drop (suc j) t) (sym e) ∙ digit);
    }

pub last-digit : (x i rest : ℕ) (t : List ℕ) → Written x t i rest → rest ≡ 0 → decimal x ≡ drop i t
last-digit x i rest t w e = w.is ∙ ap (λ r. digits x r ++ drop i t) e ∙ ap (λ s. s ++ drop i t) (digits-zero x)

-- one digit more
pub value-append : (v : ℕ) (s : List ℕ) (c : ℕ) → value_from v (s ++ (c ∷ [])) ≡ 10 * value_from v s + (c - 48)
unfolding value_from
value-append v [] c = refl
value-append v (a ∷ s) c = value-append (10 * v + (a - 48)) s c

digits_value : (k x : ℕ) → x ≤ k → value_from 0 (digits k x) ≡ x
unfolding digits value_from
digits_value zero x h = omega arith
digits_value (suc k) x h = pick (ℕ_discrete x 0) (digits_value k (x / 10))
  where
    pick : Dec (x ≡ 0) → (x / 10 ≤ k → value_from 0 (digits k (x / 10)) ≡ x / 10) → value_from 0 (digits (suc k) x) ≡ x
    pick (yes e) later = ap (λ s. value_from 0 s) (ap (digits (suc k)) e ∙ digits-zero (suc k)) ∙ sym e
    pick (no e) later =
        let v = later (omega arith) in
        ap (value_from 0) (digits-next k x (omega arith)) ∙ value-append 0 (digits k (x / 10)) (48 + x % 10) ∙ omega (arith, v)

-- codes of digits
abbrev Digits : List ℕ → Type 0
Digits s = (i : ℕ) → i < length s → (48 ≤ get_or s i 0) × (get_or s i 0 ≤ 57)

digits_more : (s : List ℕ) (x : ℕ) → Digits s → Digits (s ++ low x)
digits_more s x h i b = pick (dec_lt i (length s))
  where
    pick : Dec (i < length s) → (48 ≤ get_or (s ++ low x) i 0) × (get_or (s ++ low x) i 0 ≤ 57)
    pick (yes l) = subst (λ c. (48 ≤ c) × (c ≤ 57)) (sym (get_or-append s (low x) 0 i l)) (h i l)
    pick (no l) =
        let e : i ≡ length s = omega (arith, b, length-append s (low x)) in
        subst (λ c. (48 ≤ c) × (c ≤ 57)) (sym (ap (λ k. get_or (s ++ low x) k 0) e ∙ get_or-append_seam s (48 + x % 10) [] 0)) (omega arith, omega arith)

digits_codes : (k x : ℕ) → Digits (digits k x)
unfolding digits
digits_codes zero x = λ i h. absurd (omega arith)
digits_codes (suc k) x = pick (eqb x 0) (digits_codes k (x / 10))
  where
    pick : (b : Bool) → Digits (digits k (x / 10)) → Digits (cond b [] (digits k (x / 10) ++ low x))
    pick true later = λ i h. absurd (omega arith)
    pick false later = digits_more (digits k (x / 10)) x later

-- the first digit of a number that is not zero
digits-first : (k x : ℕ) → 0 < x → x ≤ k → (0 < length (digits k x)) × (48 < get_or (digits k x) 0 0)
digits-first zero x h g = absurd (omega arith)
digits-first (suc k) x h g = subst (λ s. (0 < length s) × (48 < get_or s 0 0)) (sym (digits-next k x h)) (pick (ℕ_discrete (x / 10) 0) (digits-first k (x / 10)))
  where
    more : 0 < length (digits k (x / 10) ++ low x)
    more = omega (arith, length-append (digits k (x / 10)) (low x))

    pick : Dec (x / 10 ≡ 0) → (0 < x / 10 → x / 10 ≤ k → (0 < length (digits k (x / 10))) × (48 < get_or (digits k (x / 10)) 0 0)) → (0 < length (digits k (x / 10) ++ low x)) × (48 < get_or (digits k (x / 10) ++ low x) 0 0)
    pick (yes e) later = (more, subst (λ s. 48 < get_or (s ++ low x) 0 0) (sym (ap (digits k) e ∙ digits-zero k)) (omega arith))
    pick (no e) later =
        let w = later (omega arith) (omega arith) in
        (more, subst (λ c. 48 < c) (sym (get_or-append (digits k (x / 10)) (low x) 0 0 w.0)) w.1)

-- the definition is decimal: the value, digits only, and no leading zero
pub decimal-is : (x : ℕ) → Decimal x (decimal x)
unfolding decimal
decimal-is x = record {
  value = value-append 0 (digits x (x / 10)) (48 + x % 10) ∙ omega (arith, digits_value x (x / 10) (omega arith));
  digits = digits_more (digits x (x / 10)) x (digits_codes x (x / 10));
  some = omega (arith, size);
  leading = first;
}
  where
    size : length (digits x (x / 10) ++ low x) ≡ length (digits x (x / 10)) + 1
    size = length-append (digits x (x / 10)) (low x)

    first : 1 < length (digits x (x / 10) ++ low x) → 48 < get_or (digits x (x / 10) ++ low x) 0 0
    first h = pick (ℕ_discrete (x / 10) 0)
      where
        pick : Dec (x / 10 ≡ 0) → 48 < get_or (digits x (x / 10) ++ low x) 0 0
        pick (yes e) = absurd (omega (arith, h, size, ap length (ap (digits x) e ∙ digits-zero x)))
        pick (no e) =
            let w = digits-first x (x / 10) (omega arith) (omega arith) in
            subst (λ c. 48 < c) (sym (get_or-append (digits x (x / 10)) (low x) 0 0 w.0)) w.1

-- the value is at least the number before the digits
value_least : (v : ℕ) (s : List ℕ) → v ≤ value_from v s
unfolding value_from
value_least v [] = omega arith
value_least v (c ∷ s) = omega (arith, value_least (10 * v + (c - 48)) s)

value-some : (s : List ℕ) → 48 < get_or s 0 0 → 0 < value_from 0 s
unfolding value_from
value-some [] h = absurd (omega arith)
value-some (c ∷ s) h = omega (arith, value_least (10 * 0 + (c - 48)) s)

value_none : value_from 0 [] ≡ 0
unfolding value_from
value_none = refl

-- a list that is not empty has a last number
last_of : (a : ℕ) (s : List ℕ) → (r : List ℕ) × (c : ℕ) × (a ∷ s ≡ r ++ (c ∷ []))
last_of a [] = ([], a, refl)
last_of a (b ∷ s) = let w = last_of b s in (a ∷ w.0, w.1, ap (λ t. a ∷ t) w.2)

-- the digits before the last are those of x / 10
decimal_step : (x : ℕ) → 0 < x / 10 → decimal x ≡ decimal (x / 10) ++ low x
unfolding decimal
decimal_step x h = ap (λ s. s ++ low x) (digits_step x (x / 10) h (omega arith) ∙ ap (λ s. s ++ low (x / 10)) (digits-enough x (x / 10) (x / 10 / 10) (omega arith) (omega arith)))

decimal-one : (x : ℕ) → x / 10 ≡ 0 → decimal x ≡ low x
unfolding decimal
decimal-one x e = ap (λ s. s ++ low x) (ap (digits x) e ∙ digits-zero x)

-- the last digit of a number in decimal, and those before it
module _ (x c : ℕ) (r : List ℕ) (d : Decimal x (r ++ (c ∷ []))) where
  size : length (r ++ (c ∷ [])) ≡ length r + 1
  size = length-append r (c ∷ [])

  code : (48 ≤ c) × (c ≤ 57)
  code = subst (λ n. (48 ≤ n) × (n ≤ 57)) (get_or-append_seam r c [] 0) (d.digits (length r) (omega (arith, size)))

  value : 10 * value_from 0 r + (c - 48) ≡ x
  value = sym (value-append 0 r c) ∙ d.value

  high : x / 10 ≡ value_from 0 r
  high = omega (arith, value, code.0, code.1)

  lowest : c ≡ 48 + x % 10
  lowest = omega (arith, value, code.0, code.1)

  -- the first digit is one of r
  first : 0 < length r → 48 < get_or r 0 0
  first h = subst (λ n. 48 < n) (get_or-append r (c ∷ []) 0 0 h) (d.leading (omega (arith, size)))

  before : 0 < length r → Decimal (x / 10) r
  before h = record {
    value = sym high;
    digits = λ i l. subst (λ n. (48 ≤ n) × (n ≤ 57)) (get_or-append r (c ∷ []) 0 i l) (d.digits i (omega (arith, size)));
    some = h;
    leading = λ l. first h;
  }

  last_step : (0 < length r → Decimal (x / 10) r → r ≡ decimal (x / 10)) → r ++ (c ∷ []) ≡ decimal x
  last_step same = ap (λ n. r ++ (n ∷ [])) lowest ∙ by r refl
    where
      by : (t : List ℕ) → r ≡ t → r ++ low x ≡ decimal x
      by [] f = ap (λ t. t ++ low x) f ∙ sym (decimal-one x (high ∙ ap (value_from 0) f ∙ value_none))
      by (b ∷ t) f =
          let long : 0 < length r = subst (λ t. 0 < length t) (sym f) (omega arith) in
          ap (λ t. t ++ low x) (same long (before long)) ∙ sym (decimal_step x (omega (arith, high, value-some r (first long))))

-- no other digits are x in decimal
only_step : (k x : ℕ) (s : List ℕ) → length s ≤ suc k → Decimal x s → ((r : List ℕ) → length r ≤ k → Decimal (x / 10) r → r ≡ decimal (x / 10)) → s ≡ decimal x
only_step k x [] h d same = absurd (omega (arith, d.some))
only_step k x (a ∷ s) h d same =
    let w = last_of a s in
    let size : length (a ∷ s) ≡ length w.0 + 1 = ap length w.2 ∙ length-append w.0 (w.1 ∷ []) in
    w.2 ∙ last_step x w.1 w.0 (subst (Decimal x) w.2 d) (λ p q. same w.0 (omega (arith, size, h)) q)

only : (k x : ℕ) (s : List ℕ) → length s ≤ k → Decimal x s → s ≡ decimal x
only zero x s h d = absurd (omega (arith, d.some))
only (suc k) x s h d = only_step k x s h d (only k (x / 10))

pub decimal-only : (x : ℕ) (s : List ℕ) → Decimal x s → s ≡ decimal x
decimal-only x s d = only (length s) x s (omega arith) d
