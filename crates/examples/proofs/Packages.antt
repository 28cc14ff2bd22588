-- What a caller of the writer and the reader knows from their contracts.
use Rattle.std.specs.Prelude.{Result, Ok, Err}
use Rattle.refusal.specs.declared.Refusal.{Refusal}
use mathlib.Core.Path.{◌≡◌, sym, ap, ap₂, ◌∙◌}
use mathlib.Core.List.{List}
use Prim.Native.Nat.{ℕ}
use lib.ListN.{take}
use Rattle.lists.specs.Words.{part}
use Rattle.copying.specs.Words.{Bytes}
use Rattle.field.specs.Level.{FIRST, level_at}
use Rattle.key.specs.declared.Key.{Key}
use Rattle.key.specs.Key.{KeySlices}
use Rattle.layout.specs.declared.Part.{Part}
use Rattle.layout.specs.Tests.{key_of}
use Rattle.package.specs.declared.Contents.{Contents}
use Rattle.package.specs.Reading.{package_reader, reading, field_part}
use Rattle.package.specs.Written.{content_of, package_form, Accepted}
use Rattle.package.specs.Said.{group_of}
use Rattle.package.proofs.Accepted.{read-accepts}
use Rattle.package.proofs.Forms.{package_faithful}
use Rattle.package.proofs.Said.{package_data, package_said}
use Rattle.writer.specs.Entry.{data_of}
use Rattle.writer.specs.Laws.{ReadBack}

-- the serial that an answer carries
abbrev serial_of : Result Contents Refusal → ℕ
serial_of (Ok c) = c.serial
serial_of (Err r) = 0

-- a package for which the reader answers c
module _ (s : List ℕ) (b : Bytes s) (c : Contents) (e : reading (package_reader (level_at FIRST)) s ≡ Ok c) where
  pub accepted : Accepted (package_form (level_at FIRST)) s
  accepted = (read-accepts (package_reader (level_at FIRST)) s e).0

  pub limits : (package_form (level_at FIRST)).Limits (package_data s)
  limits = (package_said s b accepted).0

  pub key-said : record { n = c.n; m = c.m } ≡ key_of s
  key-said = (read-accepts (package_reader (level_at FIRST)) s e).1

  pub serial-said : c.serial ≡ (group_of (package_form (level_at FIRST)) s).serial
  serial-said = ap serial_of (sym e ∙ ap (reading (package_reader (level_at FIRST))) (package_said s b accepted).1 ∙ package_faithful.read (package_data s) limits)
