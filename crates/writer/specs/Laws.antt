-- What is promised of packages that are written, besides their bytes: the reader and the writer undo each other.
use Rattle.std.specs.Prelude.{◌≡◌, List, ◌++◌, ℕ, ◌≤◌, length, take, drop, Ok}
use Rattle.copying.specs.Words.{Bytes}
use Rattle.field.specs.declared.Level.{Level}
use Rattle.key.specs.declared.Key.{Key}
use Rattle.key.specs.Key.{KeySlices}
use Rattle.package.specs.Reading.{package_reader, reading}
use Rattle.package.specs.Written.{content_of, package_form, Accepted, handed}
use Rattle.package.specs.Said.{key_data_of, group_of}
use Rattle.writer.specs.Entry.{data_of, write_outcome}

-- "What it writes is read back as the same fields", where the length k is answered and out is what the output then holds: of its first k bytes
-- the reader answers the same n, m and serial, and for every tag it hands back that field's content
pub record ReadBack (l : Level) (key : Key) (lent : KeySlices) (serial : ℕ) (t a : List ℕ) (k : ℕ) (out : List ℕ) : Type 0 where
  pub fits : k ≤ length out
  pub read : reading (package_reader l) (take k out) ≡ Ok (record { n = key.n; m = key.m; serial = serial })
  pub fields : (tag : ℕ) → handed (package_form l) (take k out) tag ≡ content_of tag ((package_form l).fields (data_of key lent serial t a))

-- "for every accepted package it produces those very bytes": of what the package says, into any output with room for it
abbrev pub WritesBack : Level → Type 0
WritesBack l = (s : List ℕ) → Bytes s → Accepted (package_form l) s → (out : List ℕ) → length s ≤ length out
    → let k = key_data_of (package_form l) s in let g = group_of (package_form l) s in
    write_outcome l k.sizes k.slices g.serial g.t g.a out ≡ (Ok (length s), s ++ drop (length s) out)
