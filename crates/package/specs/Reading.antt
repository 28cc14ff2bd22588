-- What the readers answer for any bytes, and the part that is handed back for a tag.
use Rattle.std.specs.Prelude.{Bool, List, ◌≡◌, ℕ, ◌+◌, Result, Ok, Err}
use Rattle.std.specs.Borrow.{Bor}
use Rattle.lists.specs.Words.{part}
use Rattle.copying.specs.Words.{from_bytes}
use Rattle.refusal.specs.declared.Refusal.{Refusal}
use Rattle.refusal.specs.Answer.{Answer, first_of, number_of as number}
use Rattle.field.specs.declared.Level.{Level}
use Rattle.layout.specs.declared.Row.{Row}
use Rattle.layout.specs.declared.Part.{Part}
use Rattle.layout.specs.Layout.{package_rows, package_tests, check_file_rows, check_file_tests}
use Rattle.layout.specs.Tests.{key_of, empty, part_of}
use Rattle.package.specs.declared.Contents.{Contents}

-- the paper's number of each answer of a reader: 0 is no refusal, and comes with n, m and the serial
abbrev pub number_of : Result Contents Refusal → ℕ
number_of answer = number answer

-- the answer of a reader
abbrev pub read_as : Answer → Contents → Result Contents Refusal
read_as (Ok _) c = Ok c
read_as (Err r) c = Err r

abbrev pub part_if : Answer → Part → Part
part_if (Ok _) p = p
part_if (Err r) p = empty

-- how a form of file is read: the rows of its fields and its tests, both told by the bytes
pub record Reader : Type 0 where
  pub rows : List ℕ → List Row
  pub tests : List ℕ → List (Bool × Refusal)

abbrev pub package_reader : Level → Reader
package_reader l = record { rows = package_rows l; tests = package_tests l }

abbrev pub check_file_reader : Level → Reader
check_file_reader l = record { rows = check_file_rows l; tests = check_file_tests l }

-- the serial of bytes with these fields: the number that the content of field 05 makes, "highest byte first"
abbrev pub serial_of : List ℕ → List Row → ℕ
serial_of s rows = let p = part_of 0x05 0 rows in from_bytes (part p.start p.len s)

-- n, m and the serial of bytes with these fields
abbrev pub contents_of : List ℕ → List Row → Contents
contents_of s rows = record { n = (key_of s).n; m = (key_of s).m; serial = serial_of s rows }

module _ (reader : Reader) (s : List ℕ) where
  -- "read package and read check file (answer n, m and the serial, or a refusal)"
  abbrev pub reading : Result Contents Refusal
  reading = read_as (first_of (reader.tests s)) (contents_of s (reader.rows s))

  -- "for a refused package or an absent tag it hands back an empty part"
  abbrev pub field_part : ℕ → Part
  field_part tag = part_if (first_of (reader.tests s)) (part_of tag 0 (reader.rows s))

-- "the caller's own bytes": a reference to that part of the bytes lent, by content, block and offset
pub record IsPart (r s : Bor (List ℕ)) (p : Part) : Type 0 where
  pub bytes : r.now ≡ part p.start p.len s.now
  pub block : r.ref_ptr.0 ≡ s.ref_ptr.0
  pub offset : r.ref_ptr.1 ≡ s.ref_ptr.1 + p.start
