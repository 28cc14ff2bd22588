-- What checking a file answers: the reader's answer and, where it accepts, the verifier's.
use Rattle.std.specs.Prelude.{List, ℕ, Result, Ok, Err}
use Rattle.copying.specs.Words.{words}
use Rattle.refusal.specs.declared.Verdict.{Verdict}
use Rattle.refusal.specs.declared.Refusal.{Refusal}
use Rattle.refusal.specs.Answer.{number}
use Rattle.refusal.specs.Verdict.{verdict_number}
use Rattle.field.specs.declared.Level.{Level}
use Rattle.package.specs.declared.Contents.{Contents}
use Rattle.package.specs.Reading.{check_file_reader, reading}
use Rattle.package.specs.Written.{KeyData, Group, Check, check_form, Accepted, handed}
use Rattle.package.specs.Said.{key_data_of, group_of}
use Rattle.verifier.specs.Entry.{verify_outcome}
use Rattle.checkfile.specs.declared.Checked.{Checked}

-- the number of each answer: "Rejected is no refusal", and its number is none of theirs
abbrev pub check_number : Result Checked Refusal → ℕ
check_number (Ok c) = verdict_number (Ok c.verdict)
check_number (Err r) = number r

-- the answer: the refusal, or the verdict with what the file says of itself
abbrev pub answered : Result Contents Refusal → Result Verdict Refusal → Result Checked Refusal
answered (Err r) v = Err r
answered (Ok c) (Ok v) = Ok (record { contents = c; verdict = v })
answered (Ok c) (Err r) = Err r

module _ (l : Level) where
  -- the reader refuses nothing
  abbrev pub Accepts : List ℕ → Type 0
  Accepts s = Accepted (check_form l) s

  -- the content of the field with a tag
  abbrev pub content : List ℕ → ℕ → List ℕ
  content s tag = handed (check_form l) s tag

  -- what the fields say that a package does not have
  abbrev pub check_of : List ℕ → Check
  check_of s = record {
    q = words (content s 0x11);
    masks = words (content s 0x12);
    delta = words (content s 0x13);
    alpha = words (content s 0x14);
  }

  -- verify's answer for what a file says
  abbrev pub verdict_of : KeyData → Group → Check → Result Verdict Refusal
  verdict_of k g c = verify_outcome l k.sizes k.slices g.t c.q c.delta c.masks c.alpha g.a

  abbrev pub checking : List ℕ → Result Checked Refusal
  checking s = answered (reading (check_file_reader l) s) (verdict_of (key_data_of (check_form l) s) (group_of (check_form l) s) (check_of s))
