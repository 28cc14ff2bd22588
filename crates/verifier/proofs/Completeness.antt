-- Completeness holds, refusals included.
use mathlib.Core.Path.{◌≡◌, refl, ap, ap₂, ◌∙◌}
use mathlib.Core.Bool.{Bool, true, false, ◌&&◌, false≢true}
use mathlib.Core.List.{List, [], ◌∷◌, ◌++◌}
use Prim.Native.Nat.{ℕ}
use native.Mathlib.Nat.{mul_comm}
use Rattle.lists.specs.Lent.{long}
use Rattle.lists.proofs.Lent.{Long, each_long, long-each}
use Rattle.refusal.specs.Answer.{first_of, Done}
use Rattle.refusal.specs.Verdict.{judged}
use Rattle.refusal.proofs.Answers.{result_of}
use Rattle.field.specs.declared.Level.{Level}
use Rattle.field.specs.Level.{level_at, K}
use Rattle.field.specs.Word.{within}
use Rattle.field.proofs.Fields.{bounded}
use Rattle.key.specs.declared.Key.{Key}
use Rattle.key.specs.declared.Lengths.{Lengths}
use Rattle.key.specs.declared.Code.TheVariants.{Column}
use Rattle.key.specs.Key.{degree, KeySlices, lengths, below, codes_of, withins}
use Rattle.key.proofs.Checked.{Checked, checked, checked-done}
use Rattle.constraints.specs.System.{System}
use Rattle.constraints.specs.Entry.{system}
use Rattle.constraints.specs.Slices.{masked_bytes, witness_of}
use Rattle.checkzero.specs.Slices.{tops_zero, proof_words}
use Rattle.checkzero.proofs.Written.{complete_written, proof-length, proof-within, masked-length, masked_below}
use Rattle.prover.specs.Entry.{prove_lent, rows_to7, prove_rows, tops_row, prove_result, prove_outcome}
use Rattle.prover.specs.Solved.{SolvesKey}
use Rattle.prover.proofs.Solved.{solved, solves, passes}
use Rattle.verifier.specs.Entry.{verify_lent, verify_rows, verify_outcome}
use Rattle.verifier.specs.Complete.{HonestVerifier, Complete, Completeness}

module _ (number : ℕ) (key : Key) (lent : KeySlices) (positions u v r s α t₀ a₀ q Δ masks : List ℕ) (e : first_of (rows_to7 (level_at number) key lent positions u v r s α t₀ a₀) ≡ Done)
    (solving : SolvesKey (level_at number) key lent positions) (o : HonestVerifier (level_at number) key lent u v r s q Δ masks) where
  abbrev l : Level
  l = level_at number

  abbrev len : Lengths
  len = lengths l key

  abbrev S : System (K (level_at number))
  S = system l key lent

  abbrev w : ℕ → ℕ → Bool
  w = witness_of key.n positions

  -- what is written
  abbrev t : List ℕ
  t = masked_bytes S w u

  abbrev a : List ℕ
  a = proof_words l S w v r s α

  known : Checked l key (long (prove_lent len lent positions u v r s α t₀ a₀)) lent (below 1 u) (withins l (v ∷ r ∷ s ∷ α ∷ [])) (codes_of key.n positions)
  known = checked l key (long (prove_lent len lent positions u v r s α t₀ a₀)) lent (below 1 u) (withins l (v ∷ r ∷ s ∷ α ∷ [])) (codes_of key.n positions) e

  slices : Long (prove_lent len lent positions u v r s α t₀ a₀)
  slices = each_long (prove_lent len lent positions u v r s α t₀ a₀) known.slices-fine

  -- none of verify's refusals applies to it
  not-refused : first_of (verify_rows l key lent t q Δ masks α a) ≡ Done
  not-refused = checked-done l key (long (verify_lent len lent t q Δ masks α a)) lent (below 1 t) (withins l (q ∷ Δ ∷ masks ∷ α ∷ a ∷ [])) Column (record {
    is-sized = known.is-sized;
    slices-fine = long-each (verify_lent len lent t q Δ masks α a)
        (slices.0, (slices.1.0, (slices.1.1.0, (masked-length l S w u ∙ mul_comm (degree key.n) key.n, (o.q-length, (o.Δ-length, (o.masks-length, (slices.1.1.1.1.1.1.1.1.0, (proof-length l S w v r s α, tt)))))))));
    elements-fine = known.elements-fine;
    rows-fine = known.rows-fine;
    bits-fine = masked_below l S w u;
    coordinates-fine = joined (within l q) (within l Δ) (within l masks) (within l α) (within l a) o.within-limit (last (within l v) (within l r) (within l s) (within l α) known.coordinates-fine) (proof-within l S (bounded number).whole w v r s α);
    positions-fine = refl;
  })
    where
      joined : (a b c d e : Bool) → (a && (b && (c && true))) ≡ true → d ≡ true → e ≡ true → (a && (b && (c && (d && (e && true))))) ≡ true
      joined true true true d e p f g = ap₂ (λ d e. d && (e && true)) f g
      joined true true false d e p f g = absurd (false≢true p)
      joined true false c d e p f g = absurd (false≢true p)
      joined false b c d e p f g = absurd (false≢true p)

      last : (a b c d : Bool) → (a && (b && (c && (d && true)))) ≡ true → d ≡ true
      last true true true true p = refl
      last true true true false p = p
      last true true false d p = absurd (false≢true p)
      last true false c d p = absurd (false≢true p)
      last false b c d p = absurd (false≢true p)

  tops : tops_zero l S w v ≡ true
  tops = (solves number key lent positions u v r s α t₀ a₀ e).1 solving

  done : (prove_outcome l key lent positions u v r s α t₀ a₀).0 ≡ Done
  unfolding prove_outcome
  done = (solved number key lent positions u v r s α t₀ a₀ refl).done.1 (passes number key lent positions u v r s α t₀ a₀ e solving, solving)

  left : (prove_outcome l key lent positions u v r s α t₀ a₀).1 ≡ (t, a)
  unfolding prove_outcome
  left = result_of (prove_rows l key lent positions u v r s α t₀ a₀ ++ tops_row l key lent positions v) (prove_result l key lent positions u v r s α) (t₀, a₀) refl done

  pub completes : Complete (level_at number) key lent positions u v r s α t₀ a₀ q Δ masks
  unfolding verify_outcome
  completes = record {
    done = done;
    accepted = ap (λ (p : List ℕ × List ℕ). verify_outcome l key lent p.0 q Δ masks α p.1) left
        ∙ ap₂ judged not-refused (complete_written l S w u v r s α q Δ masks o.honest o.honest-masks tops);
  }

pub completeness : (number : ℕ) → Completeness (level_at number)
completeness number key lent positions u v r s α t a q Δ masks e p o = completes number key lent positions u v r s α t a q Δ masks e p o
