-- The line that perkcheck prints, as ASCII codes.
use Rattle.std.specs.Prelude.{◌≡◌, cond, List, [], ◌∷◌, ◌++◌, ℕ, zero, suc, ◌+◌, ◌-◌, ◌*◌, ◌/◌, ◌%◌, ◌≤◌, ◌<◌, eqb, ltb, length, get_or, drop, Result, Ok, Err}
use Rattle.package.specs.declared.Contents.{Contents}
use Rattle.checkfile.specs.declared.Checked.{Checked}
use Rattle.refusal.specs.declared.Refusal.{Refusal}
use Rattle.refusal.specs.declared.Verdict.{Verdict}
use Rattle.refusal.specs.declared.Verdict.TheVariants.{Accepted, Rejected}
use Rattle.refusal.specs.Answer.{number}

-- the number that digits make after a number v, highest digit first; the code of digit 0 is 48
unfoldable pub value_from : ℕ → List ℕ → ℕ
value_from v [] = v
value_from v (c ∷ s) = value_from (10 * v + (c - 48)) s

-- "in decimal": digits, highest first, whose value is x, and no zero before another digit
pub record Decimal (x : ℕ) (s : List ℕ) : Type 0 where
  pub value : value_from 0 s ≡ x
  pub digits : (i : ℕ) → i < length s → (48 ≤ get_or s i 0) × (get_or s i 0 ≤ 57)
  pub some : 0 < length s
  pub leading : 1 < length s → 48 < get_or s 0 0

-- the digits of x, none for zero; there are at most k
unfoldable pub digits : ℕ → ℕ → List ℕ
digits zero x = []
digits (suc k) x = cond (eqb x 0) [] (digits k (x / 10) ++ ((48 + x % 10) ∷ []))

-- x in decimal
unfoldable pub decimal : ℕ → List ℕ
decimal x = digits x (x / 10) ++ ((48 + x % 10) ∷ [])

-- "serial", "n", "m", "accepted", "rejected", "refused"
abbrev pub serial_text : List ℕ
serial_text = 115 ∷ 101 ∷ 114 ∷ 105 ∷ 97 ∷ 108 ∷ []

abbrev pub n_text : List ℕ
n_text = 110 ∷ []

abbrev pub m_text : List ℕ
m_text = 109 ∷ []

abbrev pub accepted_text : List ℕ
accepted_text = 97 ∷ 99 ∷ 99 ∷ 101 ∷ 112 ∷ 116 ∷ 101 ∷ 100 ∷ []

abbrev pub rejected_text : List ℕ
rejected_text = 114 ∷ 101 ∷ 106 ∷ 101 ∷ 99 ∷ 116 ∷ 101 ∷ 100 ∷ []

abbrev pub refused_text : List ℕ
refused_text = 114 ∷ 101 ∷ 102 ∷ 117 ∷ 115 ∷ 101 ∷ 100 ∷ []

abbrev pub verdict_text : Verdict → List ℕ
verdict_text Accepted = accepted_text
verdict_text Rejected = rejected_text

-- "Words and numbers are parted by one space": each with a space after it
abbrev pub spaced : List (List ℕ) → List ℕ
spaced [] = []
spaced (w ∷ others) = w ++ (32 ∷ []) ++ spaced others

-- "`serial`, the serial, `n`, n, `m`, m, all decimal"
abbrev pub said_of : Contents → List ℕ
said_of c = spaced (serial_text ∷ decimal c.serial ∷ n_text ∷ decimal c.n ∷ m_text ∷ decimal c.m ∷ [])

-- "and `accepted` or `rejected`; or `refused` and the number in decimal", and "a line end follows"
unfoldable pub line_of : Result Checked Refusal → List ℕ
line_of (Ok c) = said_of c.contents ++ (verdict_text c.verdict ++ (10 ∷ []))
line_of (Err r) = spaced (refused_text ∷ []) ++ (decimal (number r) ++ (10 ∷ []))

-- the length of the line, and the line at the start of s; 0, and s as it is, where s has no room for every line
abbrev pub printed : Result Checked Refusal → List ℕ → ℕ × List ℕ
printed checked s = cond (ltb (length s) 96) (0, s) (length (line_of checked), line_of checked ++ drop (length (line_of checked)) s)
