-- Key A: completeness holds of it, prove leaves a = 5, which is accepted, and a = 4 is rejected.
use Rattle.std.specs.Prelude.{Ok}
use mathlib.Core.Path.{◌≡◌, refl, sym, ◌∙◌, ap}
use mathlib.Core.List.{List, [], ◌∷◌}
use Prim.Native.Nat.{ℕ, zero, suc}
use native.Mathlib.Omega.{arith}
use lib.Count.{count_leading_zeros}
use Rattle.lists.specs.Words.{all, concat}
use Rattle.refusal.specs.Answer.{first_of, Done}
use Rattle.refusal.specs.declared.Verdict.TheVariants.{Accepted, Rejected}
use Rattle.field.specs.Ring.{Ring}
use Rattle.field.specs.RingLaws.{ring}
use Rattle.field.specs.Vector.{zeros as 𝟘s, unit, sum, scale, push, top}
use Rattle.field.specs.Quotient.{rule, times_x, horner, times}
use Rattle.field.specs.Level.{FIRST, first, level_at, F, K, embed}
use Rattle.field.specs.Word.{digits, number, vector, small, word, element, within, small_at}
use Rattle.field.proofs.Fields.{embed-injective}
use Rattle.key.specs.Key.{degree, below, code_of, codes_of}
use Rattle.constraints.specs.Graded.{product, power, coefficient, eval, raised, linear_times}
use Rattle.field.specs.Sums.{summed, pow}
use Rattle.constraints.specs.System.{masked, polynomial, Honest}
use Rattle.constraints.specs.Digits.{digit_in, witness, factor, z, column, x', row, join, constraint}
use Rattle.constraints.specs.Order.{Order, Solves}
use Rattle.lists.specs.Count.{count}
use Rattle.constraints.specs.Entry.{system}
use Rattle.constraints.specs.Slices.{bits, masked_bytes, element_at, key_of, position_at}
use Rattle.checkzero.specs.CheckZero.{mask, weighted, f, proof}
use Rattle.checkzero.specs.Slices.{proof_at, AcceptsSlices}
use Rattle.verifier.specs.Entry.{verify_rows, verify_outcome, Judges}
use Rattle.verifier.specs.Complete.{HonestVerifier, Complete}
use Rattle.verifier.proofs.Completeness.{completeness}
use Rattle.verifier.proofs.Judged.{told}
use Rattle.examples.specs.Starred.{bare, bares, sizes, prove_of, verdict_of, A}
use Rattle.examples.proofs.Carried.{over_f, numbers_at, element-bares, honest-carried, proof-carried}
use Rattle.examples.proofs.Decided.{t₀, a₀, Passes, left}
use Rattle.elimination.specs.Elimination.{lowest, pivot, column as clearing, after, rank}
use Rattle.elimination.specs.Rank.{is_zero, rank_of}

abbrev positions : List ℕ
positions = 0 ∷ 1 ∷ []

abbrev t : List ℕ
t = 1 ∷ 1 ∷ []

abbrev q : List ℕ
q = bares (3 ∷ 4 ∷ [])

abbrev Δ : List ℕ
Δ = bare 2

abbrev masks : List ℕ
masks = bares []

passes : Passes A positions
unfolding bares degree count_leading_zeros below codes_of code_of within all rank_of rank count after clearing pivot lowest is_zero small_at small word digits number F
passes = refl

order : Order 2 (position_at positions)
unfolding count
order zero l = refl
order (suc zero) l = refl
order (suc (suc j)) l = absurd (omega arith)

solves : Solves (key_of first 2 1 A.lent) (position_at positions)
unfolding summed small_at small digits F times horner times_x rule 𝟘s unit sum scale push top
solves zero l = refl
solves (suc e) l = absurd (omega arith)

-- 3 = 1 · 2 + 1 and 4 = 0 · 2 + 4
numbers : Honest (over_f A) (bits 1 A.u) (numbers_at A A.v) (numbers_at A (3 ∷ 4 ∷ [])) (small first 2)
unfolding degree count_leading_zeros bits numbers_at small_at small digits F times horner times_x rule 𝟘s unit sum scale push top
numbers zero zero a b = refl
numbers zero (suc k) a b = absurd (omega arith)
numbers (suc zero) zero a b = refl
numbers (suc zero) (suc k) a b = absurd (omega arith)
numbers (suc (suc i)) k a b = absurd (omega arith)

honest : HonestVerifier first (sizes A) A.lent A.u (bares A.v) (bares A.r) (bares A.s) q Δ masks
unfolding bares degree count_leading_zeros within all
honest = record {
  q-length = refl;
  Δ-length = refl;
  masks-length = refl;
  within-limit = refl;
  honest = honest-carried A A.u (3 ∷ 4 ∷ []) 2 numbers;
  honest-masks = λ k l. absurd (omega arith);
}

-- key A instantiates completeness
pub key-A_complete : Complete first (sizes A) A.lent (0 ∷ 1 ∷ []) A.u (bares A.v) (bares A.r) (bares A.s) (bares A.α) (t₀ A) (a₀ A) (bares (3 ∷ 4 ∷ [])) (bare 2) (bares [])
unfolding level_at
key-A_complete = completeness 1 (sizes A) A.lent positions A.u (bares A.v) (bares A.r) (bares A.s) (bares A.α) (t₀ A) (a₀ A) q Δ masks passes (order, solves) honest

pub A-done : (prove_of A (0 ∷ 1 ∷ [])).0 ≡ Done
unfolding prove_of
A-done = key-A_complete.done

A-t : (prove_of A positions).1.0 ≡ t
A-t = ap (λ (p : List ℕ × List ℕ). p.0) (left A positions A-done) ∙ unfold masked_bytes masked bits witness digit_in concat degree count_leading_zeros in refl

pub A-a : (prove_of A (0 ∷ 1 ∷ [])).1.1 ≡ bares (5 ∷ [])
A-a = ap (λ (p : List ℕ × List ℕ). p.1) (left A positions A-done) ∙ proof-carried A positions
    ∙ unfold bares concat degree count_leading_zeros proof f weighted mask small_at numbers_at polynomial constraint join column row x' z factor witness digit_in summed product power coefficient raised linear_times
    small word digits number vector F times horner times_x rule 𝟘s unit sum scale push top in refl

pub A-accepted : verdict_of A (1 ∷ 1 ∷ []) (3 ∷ 4 ∷ []) 2 [] (5 ∷ []) ≡ Ok Accepted
unfolding verdict_of prove_of
A-accepted = sym (λ i. verify_outcome first (sizes A) A.lent (A-t i) q Δ masks (bares A.α) (A-a i)) ∙ key-A_complete.accepted

-- one coefficient at Δ is itself
at-Δ : (R : Ring) (c : ℕ → R.Carrier) (Δ : R.Carrier) → eval R 1 (vector 1 c) Δ ≡ c 0
unfolding eval summed coefficient vector pow
at-Δ R c Δ = inner (c 0)
  where
    inner : (a : R.Carrier) → R.add R.zero (R.mul a R.one) ≡ a
    inner a = simp ring

-- so the equation holds of one proof at most
abbrev Holds : ℕ → Type 0
Holds a = AcceptsSlices first (system first (sizes A) A.lent) t q Δ masks (bares A.α) (bares (a ∷ []))

one-proof : (a b : ℕ) → Holds a → Holds b → small first a ≡ small first b
unfolding proof_at degree count_leading_zeros small_at
one-proof a b h k = embed-injective first (omega arith) (small first a) (small first b) (sym (is a) ∙ h ∙ sym k ∙ is b)
  where
    is : (a : ℕ) → eval (K first) 1 (vector 1 (element_at first (bares (a ∷ [])))) (element first Δ) ≡ (embed first).map (small_at first (a ∷ []) 0)
    is a = at-Δ (K first) (element_at first (bares (a ∷ []))) (element first Δ) ∙ element-bares (a ∷ []) 0

judges : (a : ℕ) → Judges first (sizes A) A.lent t q Δ masks (bares A.α) (bares (a ∷ [])) (verdict_of A t (3 ∷ 4 ∷ []) 2 [] (a ∷ []) ≡ Ok Accepted) (verdict_of A t (3 ∷ 4 ∷ []) 2 [] (a ∷ []) ≡ Ok Rejected)
unfolding verdict_of verify_outcome level_at
judges a = (told FIRST (sizes A) A.lent t q Δ masks (bares A.α) (bares (a ∷ [])) refl refl refl refl refl).1.1

pub A-rejected : verdict_of A (1 ∷ 1 ∷ []) (3 ∷ 4 ∷ []) 2 [] (4 ∷ []) ≡ Ok Rejected
A-rejected = (judges 4).rejected.1 (not-refused, λ h. differ (ap (word first) (one-proof 4 5 h ((judges 5).accepted.0 A-accepted).1)))
  where
    not-refused : first_of (verify_rows first (sizes A) A.lent t q Δ masks (bares A.α) (bares (4 ∷ []))) ≡ Done
    not-refused = unfold bares degree count_leading_zeros below within all rank_of rank count after clearing pivot lowest is_zero small_at small word digits number F in refl

    differ : word first (small first 4) ≡ word first (small first 5) → ⊥
    differ e = unfold word small digits number F in omega (arith, e)
