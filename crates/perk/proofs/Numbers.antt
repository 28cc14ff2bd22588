-- Which answer a number tells.
use mathlib.Core.Path.{◌≡◌, refl, sym, ap, ◌∙◌}
use mathlib.Core.Logic.Iff
use mathlib.Core.Logic.{◌↔◌}
use mathlib.Core.Bool.{Bool, cond}
use lib.Dec.{eqb}
use mathlib.Core.List.{List}
use Prim.Native.Nat.{ℕ, ◌<◌}
use native.Mathlib.Omega.{arith}
use Rattle.std.specs.Prelude.{Option, Some, None, Result, Ok, Err}
use Rattle.refusal.specs.declared.Refusal.{Refusal}
use Rattle.refusal.specs.declared.Refusal.TheVariants.{SizeN, SizeM, SliceLength, KeyElement, Bit, Coordinate, Position, Top, BytesMissing, Tag, FieldLength, BytesFollow, ShortOutput, ZeroTarget, DependentRows, SpareCode, LongSerial, SerialOrder, OtherKey, GroupsDiffer}
use Rattle.refusal.specs.declared.Verdict.{Verdict}
use Rattle.refusal.specs.declared.Verdict.TheVariants.{Accepted, Rejected}
use Rattle.refusal.specs.Answer.{number, number_of, first_of, Answer, Done}
use Rattle.refusal.specs.Verdict.{verdict_number}
use Rattle.field.specs.declared.Level.{Level}
use Rattle.key.specs.declared.Key.{Key}
use Rattle.key.specs.Key.{KeySlices, Leans}
use Rattle.joining.specs.declared.Size.{Size}
use Rattle.perk.specs.Answered.{found_or, index_or, size_or, answered}

-- no refusal has the number of an answer that is none: 0, or 255
pub between : (q : Refusal) → (0 < number q) × (number q < 255)
between SizeN = (omega arith, omega arith)
between SizeM = (omega arith, omega arith)
between SliceLength = (omega arith, omega arith)
between KeyElement = (omega arith, omega arith)
between Bit = (omega arith, omega arith)
between Coordinate = (omega arith, omega arith)
between Position = (omega arith, omega arith)
between Top = (omega arith, omega arith)
between BytesMissing = (omega arith, omega arith)
between Tag = (omega arith, omega arith)
between FieldLength = (omega arith, omega arith)
between BytesFollow = (omega arith, omega arith)
between ShortOutput = (omega arith, omega arith)
between ZeroTarget = (omega arith, omega arith)
between DependentRows = (omega arith, omega arith)
between SpareCode = (omega arith, omega arith)
between LongSerial = (omega arith, omega arith)
between SerialOrder = (omega arith, omega arith)
between OtherKey = (omega arith, omega arith)
between GroupsDiffer = (omega arith, omega arith)

-- the refusal with a number, and any other where there is none
of_number : ℕ → Refusal
of_number k = cond (eqb k 1) SizeN (cond (eqb k 2) SizeM (cond (eqb k 3) SliceLength (cond (eqb k 4) KeyElement (cond (eqb k 5) Bit (cond (eqb k 6) Coordinate (cond (eqb k 7) Position (cond (eqb k 8) Top (cond (eqb k 9) BytesMissing (cond (eqb k 10) Tag (cond (eqb k 11) FieldLength (cond (eqb k 12) BytesFollow (cond (eqb k 13) ShortOutput (cond (eqb k 14) ZeroTarget (cond (eqb k 15) DependentRows (cond (eqb k 16) SpareCode (cond (eqb k 19) LongSerial (cond (eqb k 20) SerialOrder (cond (eqb k 21) OtherKey (cond (eqb k 22) GroupsDiffer SizeN)))))))))))))))))))

named : (q : Refusal) → of_number (number q) ≡ q
unfolding of_number
named SizeN = refl
named SizeM = refl
named SliceLength = refl
named KeyElement = refl
named Bit = refl
named Coordinate = refl
named Position = refl
named Top = refl
named BytesMissing = refl
named Tag = refl
named FieldLength = refl
named BytesFollow = refl
named ShortOutput = refl
named ZeroTarget = refl
named DependentRows = refl
named SpareCode = refl
named LongSerial = refl
named SerialOrder = refl
named OtherKey = refl
named GroupsDiffer = refl

-- refusals with one number are one
pub same_number : (q r : Refusal) → number q ≡ number r → q ≡ r
same_number q r e = sym (named q) ∙ ap of_number e ∙ named r

-- an answer made of the first refusal of rows tells 0 only where no row applies
pub zero-told : {A : Type 0} (tells : A → ℕ) (told : Answer → A) (rows : List (Bool × Refusal)) → ((q : Refusal) → tells (told (Err q)) ≡ number q) → {a : A} → a ≡ told (first_of rows) → tells a ≡ 0 → first_of rows ≡ Done
zero-told tells told rows same e z = go (first_of rows) refl
  where
    go : (x : Answer) → first_of rows ≡ x → first_of rows ≡ Done
    go (Ok u) d = d
    go (Err q) d =
        let none = sym (same q) ∙ sym (ap (λ x. tells (told x)) d) ∙ sym (ap tells e) ∙ z in
        absurd (omega (arith, between q, none))

-- what is put of an answer that comes with a number of its own is the outcome's
pub put : {A B : Type 0} (or : A → B → ℕ × B) (a : A) (old : B) {s : List ℕ} {o : A × List ℕ} {r : ℕ} {k : B} → (r, k) ≡ or a old → (a, s) ≡ o → (r, (s, k)) ≡ answered or o old
put {A} {B} or a old {s = s} e f = ap (λ (p : ℕ × B). (p.0, (s, p.1))) e ∙ ap (λ (o : A × List ℕ). answered or o old) f

-- the number k of the answer r is 0 exactly when r is Done, and a refusal's exactly when r is that refusal
module _ {r : Answer} {k : ℕ} (e : k ≡ number_of r) where
  pub told-done : (k ≡ 0) ↔ (r ≡ Done)
  told-done = (λ z. only r (sym e ∙ z), λ d. e ∙ ap number_of d)
    where
      only : (a : Answer) → number_of a ≡ 0 → a ≡ Done
      only (Ok u) z = refl
      only (Err q) z = absurd (omega (arith, z, between q))

  pub told-refusal : (q : Refusal) → (k ≡ number q) ↔ (r ≡ Err q)
  told-refusal q = (λ z. only r (sym e ∙ z), λ d. e ∙ ap number_of d)
    where
      only : (a : Answer) → number_of a ≡ number q → a ≡ Err q
      only (Ok u) z = absurd (omega (arith, z, between q))
      only (Err s) z = ap Err (same_number s q z)

-- and so with 15 of an entry that takes a key
pub told-leans : {l : Level} {key : Key} {slices : Bool} {lent : KeySlices} {r : Answer} {k : ℕ} → k ≡ number_of r → Leans l key slices lent (r ≡ Err DependentRows) → Leans l key slices lent (k ≡ 15)
told-leans e known = record { fifteen = Iff.trans (told-refusal e DependentRows) known.fifteen }

-- the number k of what verify answers is 0 exactly when it is Accepted, 255 exactly when it is Rejected, and 15 exactly when it is that refusal
module _ {v : Result Verdict Refusal} {k : ℕ} (e : k ≡ verdict_number v) where
  pub told-accepted : (k ≡ 0) ↔ (v ≡ Ok Accepted)
  told-accepted = (λ z. only v (sym e ∙ z), λ d. e ∙ ap verdict_number d)
    where
      only : (a : Result Verdict Refusal) → verdict_number a ≡ 0 → a ≡ Ok Accepted
      only (Ok Accepted) z = refl
      only (Ok Rejected) z = absurd (omega (arith, z))
      only (Err q) z = absurd (omega (arith, z, between q))

  pub told-rejected : (k ≡ 255) ↔ (v ≡ Ok Rejected)
  told-rejected = (λ z. only v (sym e ∙ z), λ d. e ∙ ap verdict_number d)
    where
      only : (a : Result Verdict Refusal) → verdict_number a ≡ 255 → a ≡ Ok Rejected
      only (Ok Accepted) z = absurd (omega (arith, z))
      only (Ok Rejected) z = refl
      only (Err q) z = absurd (omega (arith, z, between q))

  pub turned-leans : {l : Level} {key : Key} {slices : Bool} {lent : KeySlices} → Leans l key slices lent (v ≡ Err DependentRows) → Leans l key slices lent (k ≡ 15)
  turned-leans known = record { fifteen = Iff.trans (λ z. only v (sym e ∙ z), λ d. e ∙ ap verdict_number d) known.fifteen }
    where
      only : (a : Result Verdict Refusal) → verdict_number a ≡ 15 → a ≡ Err DependentRows
      only (Ok Accepted) z = absurd (omega (arith, z))
      only (Ok Rejected) z = absurd (omega (arith, z))
      only (Err q) z = ap Err (same_number q DependentRows z)

-- where the number is 0 the answer is what was put
module _ (w : Result ℕ Refusal) (old : ℕ) {r k : ℕ} (e : (r, k) ≡ found_or w old) where
  number-of-found : r ≡ (found_or w old).0
  number-of-found = ap (λ (p : ℕ × ℕ). p.0) e

  pub found-told : r ≡ 0 → w ≡ Ok k
  found-told z = only w (sym number-of-found ∙ z) ∙ ap Ok (sym (ap (λ (p : ℕ × ℕ). p.1) e))
    where
      only : (a : Result ℕ Refusal) → (found_or a old).0 ≡ 0 → a ≡ Ok (found_or a old).1
      only (Ok n) z = refl
      only (Err q) z = absurd (omega (arith, z, between q))

  -- and 15 is that refusal
  pub found-leans : {l : Level} {key : Key} {slices : Bool} {lent : KeySlices} → Leans l key slices lent (w ≡ Err DependentRows) → Leans l key slices lent (r ≡ 15)
  found-leans known = record { fifteen = Iff.trans (λ z. only w (sym number-of-found ∙ z), λ d. number-of-found ∙ ap (λ (x : Result ℕ Refusal). (found_or x old).0) d) known.fifteen }
    where
      only : (a : Result ℕ Refusal) → (found_or a old).0 ≡ 15 → a ≡ Err DependentRows
      only (Ok n) z = absurd (omega (arith, z))
      only (Err q) z = ap Err (same_number q DependentRows z)

pub size-told : (w : Result Size Refusal) (old : ℕ × ℕ) {r n g : ℕ} → (r, (n, g)) ≡ size_or w old → r ≡ 0 → w ≡ Ok (record { length = n; groups = g })
size-told w old e z = only w (sym (ap (λ (p : ℕ × (ℕ × ℕ)). p.0) e) ∙ z) ∙ ap (λ (p : ℕ × ℕ). Ok (record { length = p.0; groups = p.1 })) (sym (ap (λ (p : ℕ × (ℕ × ℕ)). p.1) e))
  where
    only : (a : Result Size Refusal) → (size_or a old).0 ≡ 0 → let p = (size_or a old).1 in a ≡ Ok (record { length = p.0; groups = p.1 })
    only (Ok s) z = refl
    only (Err q) z = absurd (omega (arith, z, between q))

-- the number 0 tells that all is well, and 255 an offender at the index that is put
pub number-well : (o : Result (Option ℕ) Refusal) (old : ℕ) → (index_or o old).0 ≡ 0 → o ≡ Ok None
number-well (Ok None) old e = refl
number-well (Ok (Some i)) old e = absurd (omega (arith, e))
number-well (Err q) old e = absurd (omega (arith, e, between q))

pub number-offender : (o : Result (Option ℕ) Refusal) (old : ℕ) → (index_or o old).0 ≡ 255 → o ≡ Ok (Some (index_or o old).1)
number-offender (Ok None) old e = absurd (omega (arith, e))
number-offender (Ok (Some i)) old e = refl
number-offender (Err q) old e = absurd (omega (arith, e, between q))
