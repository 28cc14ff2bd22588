-- What an answer with a number of its own tells; and 15 in an entry that takes a key.
use Rattle.refusal.specs.declared.Refusal.{Refusal}
use Rattle.std.specs.Prelude.{Ok, Err}
use Rattle.refusal.specs.declared.Refusal.TheVariants.{DependentRows}
use mathlib.Core.Path.{◌≡◌, refl, sym, ap, ◌∙◌}
use mathlib.Core.Bool.{Bool, true, false}
use mathlib.Core.List.{List, [], ◌∷◌, ◌++◌}
use Prim.Native.Nat.{ℕ}
use native.Mathlib.Omega.{arith}
use Rattle.refusal.specs.Answer.{number, first_of, Answer, Done}
use Rattle.refusal.proofs.Answers.{stop, after-done, after-refused, not_both}
use Rattle.field.specs.declared.Level.{Level}
use Rattle.field.specs.Level.{level_at}
use Rattle.elimination.specs.Rank.{short}
use Rattle.elimination.proofs.Leaning.{leaning}
use Rattle.key.specs.declared.Key.{Key}
use Rattle.key.specs.declared.Code.{Code}
use Rattle.key.specs.Key.{KeySlices, sizes, material, checks, rows_to4, Leans}

-- the rows have other refusals than b
abbrev pub Others : Refusal → List (Bool × Refusal) → Type 0
Others b [] = Unit {0}
Others b ((t, k) ∷ rows) = (k ≡ b → ⊥) × Others b rows

others : (b : Refusal) (rows : List (Bool × Refusal)) → Others b rows → first_of rows ≡ Err b → ⊥
others b [] h e = not_both refl e
others b ((false, k) ∷ rows) h e = others b rows h.1 e
others b ((true, k) ∷ rows) h e = h.0 (same e)
  where
    same : {k b : Refusal} → ◌≡◌ {A = Answer} (Err k) (Err b) → k ≡ b
    same e = cc

-- a row with a refusal of its own gives the answer only where it applies, and none before it
pub decides : (rows : List (Bool × Refusal)) (b : Bool) (k : Refusal) (after : List (Bool × Refusal)) → Others k rows → Others k after → first_of (rows ++ ((b, k) ∷ after)) ≡ Err k → (first_of rows ≡ Done) × (b ≡ true)
decides rows b k after other later e = go (first_of rows) refl
  where
    applies : (t : Bool) → first_of ((t, k) ∷ after) ≡ Err k → t ≡ true
    applies false e = absurd (others k after later e)
    applies true e = refl

    go : (r : Answer) → first_of rows ≡ r → (first_of rows ≡ Done) × (b ≡ true)
    go (Ok _) h = (h, applies b (sym (after-done rows ((b, k) ∷ after) h) ∙ e))
    go (Err q) h = absurd (others k rows other (after-refused rows ((b, k) ∷ after) refl h ∙ e))

module _ (named : ℕ) (key : Key) (slices : Bool) (lent : KeySlices) (bits coordinates : Bool) (positions : Code) (rest : List (Bool × Refusal)) (apart : Others DependentRows rest) where
  abbrev l : Level
  l = level_at named

  abbrev after : List (Bool × Refusal)
  after = material bits coordinates positions ++ rest

  pub leans : {r : Answer} → r ≡ first_of (sizes (level_at named) key ++ checks (level_at named) key slices lent bits coordinates positions ++ rest) → Leans (level_at named) key slices lent (r ≡ (Err DependentRows))
  leans e = record {
    fifteen = (
      λ d. let b = decides (rows_to4 l key slices lent) (short l key.n key.m lent.h) DependentRows after before later (sym e ∙ d) in (b.0, (leaning named key.n key.m lent.h).0 b.1),
      λ p. e ∙ after-done (rows_to4 l key slices lent) ((short l key.n key.m lent.h, DependentRows) ∷ after) p.0 ∙ stop DependentRows after ((leaning named key.n key.m lent.h).1 p.1),
    );
  }
    where
      before : Others DependentRows (rows_to4 (level_at named) key slices lent)
      before = (λ z. omega (arith, ap number z), (λ z. omega (arith, ap number z), (λ z. omega (arith, ap number z), (λ z. omega (arith, ap number z), (λ z. omega (arith, ap number z), (λ z. omega (arith, ap number z), tt))))))

      later : Others DependentRows (material bits coordinates positions ++ rest)
      later = (λ z. omega (arith, ap number z), (λ z. omega (arith, ap number z), (λ z. omega (arith, ap number z), apart)))
