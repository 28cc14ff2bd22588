-- The answer from those of the reader and the verifier.
use mathlib.Core.Path.{◌≡◌, sym, ap, ap₂, ◌∙◌}
use mathlib.Core.List.{List}
use Prim.Native.Nat.{ℕ}
use denote.Ref.{Bor}
use Rattle.lists.specs.Words.{part}
use Rattle.refusal.specs.declared.Verdict.{Verdict}
use Rattle.field.specs.declared.Level.{Level}
use Rattle.field.specs.Level.{FIRST, level_at}
use Rattle.layout.specs.declared.Row.{Row}
use Rattle.layout.specs.Layout.{check_file_rows}
use Rattle.layout.specs.Tests.{part_of}
use Rattle.layout.specs.Steps.{Whole}
use Rattle.std.specs.Prelude.{Result}
use Rattle.refusal.specs.declared.Refusal.{Refusal}
use Rattle.package.specs.declared.Contents.{Contents}
use Rattle.package.specs.Reading.{part_if, check_file_reader, reading, IsPart}
use Rattle.package.proofs.Accepted.{check_file_whole}
use Rattle.package.specs.Written.{check_form}
use Rattle.package.specs.Said.{key_data_of, group_of}
use Rattle.checkfile.specs.Checking.{Accepts, content, check_of, verdict_of, answered, checking}

-- the bytes handed back for a tag are the content, in an accepted file
pub content-is : (r s : Bor (List ℕ)) (tag : ℕ) → Accepts (level_at FIRST) s.now → ((l : Level) (rows : List Row) → Whole l s.now rows → IsPart r s (part_of tag 0 rows)) → r.now ≡ content (level_at FIRST) s.now tag
content-is r s tag e f =
    let rows = check_file_rows (level_at FIRST) s.now in
    (f (level_at FIRST) rows (check_file_whole (level_at FIRST) s.now e)).bytes
    ∙ ap (λ a. let p = part_if a (part_of tag 0 rows) in part p.start p.len s.now) (sym e)

pub told : (s : List ℕ) {r : Result Contents Refusal} {v : Result Verdict Refusal} → r ≡ reading (check_file_reader (level_at FIRST)) s → v ≡ verdict_of (level_at FIRST) (key_data_of (check_form (level_at FIRST)) s) (group_of (check_form (level_at FIRST)) s) (check_of (level_at FIRST) s) → answered r v ≡ checking (level_at FIRST) s
told s e f = ap₂ answered e f
