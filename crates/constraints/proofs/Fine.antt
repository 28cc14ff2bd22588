-- What holds of the slices lent to constraints and values where no refusal applies.
use mathlib.Core.Path.{◌≡◌, sym, ◌∙◌, ap}
use mathlib.Core.Bool.{true}
use mathlib.Core.List.{List, [], ◌∷◌}
use Prim.Native.Nat.{ℕ, ◌+◌, ◌*◌, ◌^◌, ◌≤◌, ◌<◌}
use native.Mathlib.Nat.{mul_comm, mul-le-mul}
use native.Mathlib.Omega.{arith}
use lib.ListN.{length, get_or}
use lib.Pow.{pow_mono}
use Rattle.lists.specs.Lent.{long}
use Rattle.lists.proofs.Lent.{each_long}
use Rattle.refusal.specs.Answer.{first_of, Answer, Done}
use Rattle.refusal.proofs.Answers.{none}
use Rattle.field.specs.declared.Level.{Level}
use Rattle.field.specs.Level.{FIRST, level_at}
use Rattle.field.proofs.Fields.{bounded, first-most, first-narrow}
use Rattle.field.specs.Word.{Words}
use Rattle.row.specs.Elements.{Fits, Bits}
use Rattle.row.specs.Lent.{LentKey, LentTarget}
use Rattle.key.specs.declared.Key.{Key}
use Rattle.key.specs.declared.Lengths.{Lengths}
use Rattle.key.specs.declared.Code.TheVariants.{Column}
use Rattle.key.specs.Key.{degree, KeySlices, lengths, sizes, Sized, key_within, below, codes_of, withins}
use Rattle.key.proofs.Sized.{sized, degree-fits, degree-lt}
use Rattle.key.proofs.Fine.{below-lt, each_within}
use Rattle.key.proofs.Codes.{codes_lt}
use Rattle.key.proofs.Checked.{checked}
use Rattle.constraints.specs.Entry.{constraints_lent, constraints_rows, values_lent, values_rows}

-- the sizes of a key past their refusals
pub sizes-passed : (key : Key) {r : Answer} → r ≡ first_of (sizes (level_at FIRST) key) → r ≡ Done → Sized (level_at FIRST) key
sizes-passed key e d = sized (level_at FIRST) key (none (sizes (level_at FIRST) key) (sym e ∙ d))

-- sizes that are not refused, and the room that the work takes
pub record Room (l : Level) (n : ℕ) : Type 0 where
  pub some : 1 ≤ n
  pub d-lt : degree n < 64
  pub columns : n ≤ 2 ^ degree n
  pub polynomials : Fits l ((degree n + 1) * 2 ^ degree n) 5376
  pub values : Fits l (2 ^ degree n) 768

pub room : (key : Key) → Sized (level_at FIRST) key → Room (level_at FIRST) key.n
room key s = record {
  some = omega (arith, s.two);
  d-lt = omega (arith, small);
  columns = degree-fits key.n (omega (arith, most));
  polynomials = (mul-le-mul first-narrow all, omega (arith, all));
  values = (mul-le-mul first-narrow power, omega (arith, power));
}
  where
    most : key.n ≤ 64
    most = omega (arith, s.most, first-most)

    small : degree key.n < 7
    small = degree-lt key.n 7 (omega (arith, s.two)) (omega (arith, most)) (omega (arith, most))

    power : 2 ^ degree key.n ≤ 64
    power = pow_mono {i = degree key.n} {j = 6} (omega (arith, small))

    up : degree key.n + 1 ≤ 7
    up = omega (arith, small)

    all : (degree key.n + 1) * 2 ^ degree key.n ≤ 7 * 64
    all = mul-le-mul up power

module _ (number : ℕ) (key : Key) where
  abbrev l : Level
  l = level_at number

  abbrev len : Lengths
  len = lengths l key

  pub words-lt : (s : List ℕ) → ((k : ℕ) → get_or s k 0 ≤ l.limit) → Words l s
  words-lt s e k = omega (arith, e k, (bounded number).limit)

  -- H and x, with their lengths, and y
  pub lent_key : (lent : KeySlices) → length lent.h ≡ len.matrix → length lent.x ≡ len.vector → key_within l lent ≡ true → LentKey l key.n key.m lent.h lent.x
  lent_key lent a b e =
      let f = each_within l (lent.h ∷ lent.x ∷ lent.y ∷ []) e in
      record { h-length = a ∙ mul_comm key.m key.n; x-length = b; h-within = f.0; x-within = f.1.0 }

  pub lent-target : (lent : KeySlices) → length lent.y ≡ len.target → key_within l lent ≡ true → LentTarget l key.m lent.y
  lent-target lent a e = record { y-length = a; y-within = (each_within l (lent.h ∷ lent.x ∷ lent.y ∷ []) e).1.1.0 }

  -- lengths by rows and by columns
  pub elements-columns : len.elements ≡ l.coordinates * (degree key.n * key.n)
  elements-columns = ap (λ a. l.coordinates * a) (mul_comm key.n (degree key.n))

  pub polynomials-columns : len.polynomials ≡ l.coordinates * ((degree key.n + 1) * (key.n + key.m))
  polynomials-columns = ap (λ a. l.coordinates * a) (mul_comm (key.n + key.m) (degree key.n + 1))

  pub record ConstraintsFine (lent : KeySlices) (positions u v t p : List ℕ) : Type 0 where
    pub is-sized : Sized l key
    pub is_key : LentKey l key.n key.m lent.h lent.x
    pub is-target : LentTarget l key.m lent.y
    pub positions-length : length positions ≡ len.positions
    pub u-length : length u ≡ len.bits
    pub v-length : length v ≡ len.elements
    pub t-length : length t ≡ len.bits
    pub p-length : length p ≡ len.polynomials
    pub u-bits : Bits u
    pub v-words : Words l v
    pub positions-lt : (i : ℕ) → get_or positions i 0 < 2 ^ degree key.n

  pub constraints_fine : (lent : KeySlices) (positions u v t p : List ℕ) → first_of (constraints_rows l key lent positions u v t p) ≡ Done → ConstraintsFine lent positions u v t p
  constraints_fine lent positions u v t p e =
      let c = checked l key (long (constraints_lent len lent positions u v t p)) lent (below 1 u) (withins l (v ∷ [])) (codes_of key.n positions) e in
      let s = each_long (constraints_lent len lent positions u v t p) c.slices-fine in
      record {
        is-sized = c.is-sized;
        is_key = lent_key lent s.0 s.1.0 c.elements-fine;
        is-target = lent-target lent s.1.1.0 c.elements-fine;
        positions-length = s.1.1.1.0;
        u-length = s.1.1.1.1.0;
        v-length = s.1.1.1.1.1.0;
        t-length = s.1.1.1.1.1.1.0;
        p-length = s.1.1.1.1.1.1.1.0;
        u-bits = below-lt 1 u c.bits-fine;
        v-words = words-lt v (each_within l (v ∷ []) c.coordinates-fine).0;
        positions-lt = codes_lt key.n (degree-fits key.n (omega (arith, c.is-sized.most, (bounded number).most))) positions c.positions-fine;
      }

  pub record ValuesFine (lent : KeySlices) (t q Δ p : List ℕ) : Type 0 where
    pub is-sized : Sized l key
    pub is_key : LentKey l key.n key.m lent.h lent.x
    pub is-target : LentTarget l key.m lent.y
    pub t-length : length t ≡ len.bits
    pub q-length : length q ≡ len.elements
    pub Δ-length : length Δ ≡ len.one
    pub p-length : length p ≡ len.values
    pub t-bits : Bits t
    pub q-words : Words l q
    pub Δ-words : Words l Δ

  pub values-fine : (lent : KeySlices) (t q Δ p : List ℕ) → first_of (values_rows l key lent t q Δ p) ≡ Done → ValuesFine lent t q Δ p
  values-fine lent t q Δ p e =
      let c = checked l key (long (values_lent len lent t q Δ p)) lent (below 1 t) (withins l (q ∷ Δ ∷ [])) Column e in
      let s = each_long (values_lent len lent t q Δ p) c.slices-fine in
      let f = each_within l (q ∷ Δ ∷ []) c.coordinates-fine in
      record {
        is-sized = c.is-sized;
        is_key = lent_key lent s.0 s.1.0 c.elements-fine;
        is-target = lent-target lent s.1.1.0 c.elements-fine;
        t-length = s.1.1.1.0;
        q-length = s.1.1.1.1.0;
        Δ-length = s.1.1.1.1.1.0;
        p-length = s.1.1.1.1.1.1.0;
        t-bits = below-lt 1 t c.bits-fine;
        q-words = words-lt q f.0;
        Δ-words = words-lt Δ f.1.0;
      }
