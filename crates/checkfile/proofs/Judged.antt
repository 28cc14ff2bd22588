-- An accepted check file is judged by the verifier's equation alone, and one that is written by the data written.
use mathlib.Core.Path.{◌≡◌, refl, sym, ap, ap₂, ◌∙◌}
use mathlib.Core.List.{List, [], ◌∷◌}
use Prim.Native.Nat.{ℕ}
use native.Mathlib.Omega.{arith}
use Rattle.lists.specs.Lent.{long}
use Rattle.lists.proofs.Lent.{Long, long-each}
use Rattle.copying.specs.Words.{Bytes}
use Rattle.refusal.specs.Answer.{first_of, Done}
use Rattle.refusal.specs.declared.Verdict.{Verdict}
use Rattle.refusal.specs.declared.Refusal.{Refusal}
use Rattle.refusal.specs.declared.Verdict.TheVariants.{Accepted, Rejected}
use Rattle.std.specs.Prelude.{Result, Ok, Err}
use Rattle.field.specs.Level.{FIRST, level_at}
use Rattle.key.specs.declared.Code.TheVariants.{Column}
use Rattle.key.specs.Key.{lengths, below, withins}
use Rattle.key.proofs.Checked.{checked-done}
use Rattle.package.specs.declared.Contents.{Contents}
use Rattle.package.specs.Reading.{check_file_reader, reading}
use Rattle.package.specs.Written.{KeyData, Group, Check, check_form}
use Rattle.package.proofs.Accepted.{read-accepts}
use Rattle.package.proofs.Opening.{valid-stands}
use Rattle.package.proofs.Forms.{check_file_faithful}
use Rattle.verifier.specs.Entry.{verify_lent}
use Rattle.verifier.proofs.Judged as verifier
use Rattle.checkfile.specs.declared.Checked.{Checked}
use Rattle.package.specs.Said.{key_data_of, group_of}
use Rattle.checkfile.specs.Checking.{check_of, verdict_of, answered, checking}
use Rattle.checkfile.specs.Judged.{verify_tests, Judged, Checks}
use Rattle.checkfile.proofs.Said.{data_written, within-limits}

-- no refusal of verify applies to data within the limits
never_refused : (k : KeyData) (g : Group) (c : Check) → (check_form (level_at FIRST)).Limits ((k, g), c) → first_of (verify_tests (level_at FIRST) k g c) ≡ Done
never_refused k g c v =
    let l = level_at FIRST in
    let lent = verify_lent (lengths l k.sizes) k.slices g.t c.q c.delta c.masks c.alpha g.a in
    let of = v.0.0 in
    let group = v.0.1 in
    let check = v.1 in
    let fine : Long lent = (of.h.0, (of.x.0, (of.y.0, (group.t.0, (check.q.0, (check.delta.0, (check.masks.0, (check.alpha.0, (group.a.0, tt))))))))) in
    checked-done l k.sizes (long lent) k.slices (below 1 g.t) (withins l (c.q ∷ c.delta ∷ c.masks ∷ c.alpha ∷ g.a ∷ [])) Column (record {
      is-sized = of.sized;
      slices-fine = long-each lent fine;
      elements-fine = rw (of.h.1, of.x.1, of.y.1);
      rows-fine = valid-stands k of;
      bits-fine = group.t.1;
      coordinates-fine = rw (check.q.1, check.delta.1, check.masks.1, check.alpha.1, group.a.1);
      positions-fine = refl;
    })

-- what checking answers of a file that is read, with this verdict
abbrev with_verdict : Contents → Verdict → Result Checked Refusal
with_verdict c v = Ok (record { contents = c; verdict = v })

-- the verdict of an answer, Rejected where there is none
abbrev verdict_in : Result Checked Refusal → Verdict
verdict_in (Ok k) = k.verdict
verdict_in (Err r) = Rejected

-- an answer with contents tells the verdict
told_verdict : (c : Contents) (w : Verdict) (v : Result Verdict Refusal) → answered (Ok c) v ≡ with_verdict c w → v ≡ Ok w
told_verdict c w (Ok v) e = λ i. Ok (ap verdict_in e i)
told_verdict c w (Err r) e = let z : ◌≡◌ {A = ℕ} 0 1 = cc in absurd (omega arith)

pub judged : (s : List ℕ) → Bytes s → (c : Contents) → reading (check_file_reader (level_at FIRST)) s ≡ Ok c → Judged (level_at FIRST) s c
judged s b c e =
    let k = key_data_of (check_form (level_at FIRST)) s in
    let g = group_of (check_form (level_at FIRST)) s in
    let h = check_of (level_at FIRST) s in
    let v = verdict_of (level_at FIRST) k g h in
    let done = never_refused k g h (within-limits s b (read-accepts (check_file_reader (level_at FIRST)) s e).0) in
    let is : checking (level_at FIRST) s ≡ answered (Ok c) v = ap (λ r. answered r v) e in
    let w = verifier.told FIRST k.sizes k.slices g.t h.q h.delta h.masks h.alpha g.a refl refl refl refl refl in
    record {
      never_refused = done;
      accepted = (
        λ a. (w.1.1.accepted.0 (w.0 ∙ told_verdict c Accepted v (sym is ∙ a))).1,
        λ holds. is ∙ ap (answered (Ok c)) (sym w.0 ∙ w.1.1.accepted.1 (done, holds)),
      );
      rejected = (
        λ a. (w.1.1.rejected.0 (w.0 ∙ told_verdict c Rejected v (sym is ∙ a))).1,
        λ fails. is ∙ ap (answered (Ok c)) (sym w.0 ∙ w.1.1.rejected.1 (done, fails)),
      );
    }

-- a file that is written says the data written
pub checks : (k : KeyData) (g : Group) (c : Check) → Checks (level_at FIRST) k g c
checks k g c v = ap₂ answered (check_file_faithful.read ((k, g), c) v) (ap (λ (x : (check_form (level_at FIRST)).Data). verdict_of (level_at FIRST) x.0.0 x.0.1 x.1) (data_written ((k, g), c) v))
