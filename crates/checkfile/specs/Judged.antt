-- What is proved of the answers: an accepted file is judged by the verifier's equation alone.
use Rattle.refusal.specs.declared.Refusal.{Refusal}
use Rattle.std.specs.Prelude.{◌≡◌, ◌↔◌, Bool, List, ℕ, Ok}
use Rattle.refusal.specs.Answer.{first_of, Done}
use Rattle.field.specs.declared.Level.{Level}
use Rattle.constraints.specs.Entry.{system}
use Rattle.checkzero.specs.Slices.{AcceptsSlices}
use Rattle.package.specs.declared.Contents.{Contents}
use Rattle.package.specs.Written.{KeyData, Group, Check, check_form, written}
use Rattle.package.specs.Said.{key_data_of, group_of}
use Rattle.verifier.specs.Entry.{verify_rows}
use Rattle.refusal.specs.declared.Verdict.TheVariants.{Accepted, Rejected}
use Rattle.checkfile.specs.Checking.{check_of, verdict_of, answered, checking}

module _ (l : Level) where
  -- verify's refusals for what a file says
  abbrev pub verify_tests : KeyData → Group → Check → List (Bool × Refusal)
  verify_tests k g c = verify_rows l k.sizes k.slices g.t c.q c.delta c.masks c.alpha g.a

  -- "a at Δ equals the weighted sum of its values plus the sum of Δ^k times its mask numbers"
  abbrev pub Holds : KeyData → Group → Check → Type 0
  Holds k g c = AcceptsSlices l (system l k.sizes k.slices) g.t c.q c.delta c.masks c.alpha g.a

  -- a file that the reader accepts: no refusal of verify applies, and the answer tells whether the equation holds
  pub record Judged (s : List ℕ) (c : Contents) : Type 0 where
    pub never_refused : first_of (verify_tests (key_data_of (check_form l) s) (group_of (check_form l) s) (check_of l s)) ≡ Done
    pub accepted : (checking l s ≡ Ok (record { contents = c; verdict = Accepted })) ↔ Holds (key_data_of (check_form l) s) (group_of (check_form l) s) (check_of l s)
    pub rejected : (checking l s ≡ Ok (record { contents = c; verdict = Rejected })) ↔ (Holds (key_data_of (check_form l) s) (group_of (check_form l) s) (check_of l s) → ⊥)

  -- a check file written of data within the limits is answered by verify's answer for these data, with their n, m and serial
  abbrev pub Checks : KeyData → Group → Check → Type 0
  Checks k g c = (check_form l).Limits ((k, g), c)
      → checking l (written (check_form l) ((k, g), c)) ≡ answered (Ok (record { n = k.sizes.n; m = k.sizes.m; serial = g.serial })) (verdict_of l k g c)
