-- Bundles joined, of the contract and the laws.
use Rattle.std.specs.Prelude.{Result, Ok, Err}
use Rattle.refusal.specs.Answer.{number, number_of}
use Rattle.refusal.specs.declared.Refusal.TheVariants.{ShortOutput}
use mathlib.Core.Path.{◌≡◌, refl, sym, ap, ap₂, ◌∙◌}
use mathlib.Core.Bool.{Bool, cond}
use mathlib.Core.List.{List, [], ◌++◌, append_assoc}
use Prim.Native.Nat.{ℕ, ◌+◌, ◌≤◌, ◌<◌}
use native.Mathlib.Omega.{arith}
use borrow.Author.Tests.{lt-ltb, le-ltb}
use lib.ListN.{length, take, drop}
use lib.Seq.{length-take-le, drop-length}
use Rattle.copying.specs.Words.{Bytes}
use Rattle.refusal.specs.declared.Refusal.{Refusal}
use Rattle.field.specs.Level.{FIRST, level_at}
use Rattle.layout.specs.Tests.{key_of}
use Rattle.bundle.specs.declared.Contents.{Contents}
use Rattle.bundle.specs.Bundle.{group_at, starts, groups_of}
use Rattle.bundle.specs.Reading.{reading}
use Rattle.bundle.specs.Written.{written}
use Rattle.bundle.proofs.Steps.{read-accepts}
use Rattle.bundle.proofs.Faithful.{map-length}
use Rattle.joining.specs.declared.Size.{Size}
use Rattle.joining.specs.Entry.{joined_bundle, join_answer, join_outcome}
use Rattle.joining.proofs.Laws.{joins_itself}
use Rattle.joining.proofs.Ahead.{left-refused, left-size, look-laws}

-- bytes that the reader accepts, joined with themselves
pub again : (s out : List ℕ) → Bytes s → {r : Result Size Refusal} {end : List ℕ} → (r, end) ≡ join_outcome (level_at FIRST) s s out
    → (c : Contents) → reading (level_at FIRST) s ≡ Ok c → length s ≤ length out → (r ≡ Ok (record { length = length s; groups = c.groups })) × (end ≡ s ++ drop (length s) out)
again s out b e c f h =
    let l = level_at FIRST in
    let d = read-accepts s f in
    let all = e ∙ joins_itself s b d.0 out h in
    let many : length (groups_of l s) ≡ c.groups = map-length (group_at l (key_of s) s) (starts l s) ∙ ap (λ (c : Contents). c.groups) d.1 in
    (ap (λ (o : Result Size Refusal × List ℕ). o.0) all ∙ ap (λ (n : ℕ). Ok (record { length = length s; groups = n })) many, ap (λ (o : Result Size Refusal × List ℕ). o.1) all)

-- a look with room enough for both bundles, and what a join with the output, or with as much of it as is told, answers and leaves
module _ (s t out : List ℕ) (room : ℕ) where
  -- one of the two, by a test of the length
  abbrev at : Size → Bool → Result Size Refusal
  at z b = cond b (Err ShortOutput) (Ok z)

  pub look-refused : Bytes s → Bytes t → length s + length t ≤ room → {k : Refusal} → Err k ≡ join_answer (level_at FIRST) s t room → (number k ≡ 13 → ⊥) × ((Err k, out) ≡ join_outcome (level_at FIRST) s t out)
  look-refused b c h {k} e =
      let never : number k ≡ 13 → ⊥ = λ f. omega (arith, h, look-laws.enough s t b c room (ap number_of (sym e) ∙ f)) in
      (never, left-refused s t out (look-laws.refused s t room k (sym e) never (length out)))

  module _ {z : Size} (e : Ok z ≡ join_answer (level_at FIRST) s t room) where
    pub look-short : length out < z.length → ((Err ShortOutput, out) ≡ join_outcome (level_at FIRST) s t out) × ((x : Size) × (x.length ≡ z.length) × (join_answer (level_at FIRST) s t z.length ≡ Ok x))
    look-short h = (
      left-refused s t out (look-laws.told s t room z (sym e) (length out) ∙ ap (at z) (lt-ltb (length out) z.length h)),
      (z, refl, look-laws.told s t room z (sym e) z.length ∙ ap (at z) (le-ltb z.length z.length (omega arith))),
    )

    pub look_exact : z.length ≤ length out → {j : Result Size Refusal} {end : List ℕ} → (j, end) ≡ join_outcome (level_at FIRST) s t (take z.length out) → (number_of j ≡ 13 → ⊥) × ((j, end ++ drop z.length out) ≡ join_outcome (level_at FIRST) s t out)
    look_exact h {j} {end} f =
        let W = written (joined_bundle (level_at FIRST) s t) in
        let lent = take z.length out in
        let fits : (other : ℕ) → z.length ≤ other → join_answer (level_at FIRST) s t other ≡ Ok z = λ other g. look-laws.told s t room z (sym e) other ∙ ap (at z) (le-ltb other z.length g) in
        let long : length lent ≡ z.length = length-take-le z.length out h in
        let part = left-size s t lent (fits (length lent) (omega (arith, long))) in
        let both : ◌≡◌ {A = Result Size Refusal × List ℕ} (j, end) (Ok z, W ++ drop (length W) lent) = f ∙ sym part.1 in
        let none : drop (length W) lent ≡ [] = ap (λ i. drop i lent) (sym part.0 ∙ sym long) ∙ drop-length lent in
        let is : j ≡ Ok z = ap (λ (o : Result Size Refusal × List ℕ). o.0) both in
        let left : end ++ drop z.length out ≡ W ++ drop (length W) out = ap (λ (o : Result Size Refusal × List ℕ). o.1 ++ drop z.length out) both ∙ ap (λ r. (W ++ r) ++ drop z.length out) none ∙ append_assoc W [] (drop z.length out) ∙ ap (λ i. W ++ drop i out) part.0 in
        (λ g. omega (arith, sym (ap number_of is) ∙ g), ap₂ (λ (a : Result Size Refusal) (r : List ℕ). (a, r)) is left ∙ (left-size s t out (fits (length out) h)).1)
