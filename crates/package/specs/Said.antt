-- What the fields of bytes that a reader accepts say, told by their contents.
use Rattle.std.specs.Prelude.{List, [], ◌∷◌, ℕ, replicate}
use Rattle.copying.specs.Words.{words, from_bytes}
use Rattle.key.specs.declared.Key.{Key}
use Rattle.key.specs.Key.{key_slices}
use Rattle.layout.specs.Tests.{key_of}
use Rattle.package.specs.Written.{KeyData, Group, Form, handed}

-- y, of m elements, from those of field 04: "absent means all zero"
abbrev pub target_of : ℕ → List ℕ → List ℕ
target_of m [] = replicate m 0
target_of m (a ∷ s) = a ∷ s

-- the content of each tag; t is bytes, the lists of elements are "numbers of two bytes"
module _ (content : ℕ → List ℕ) where
  abbrev pub key_said : Key → KeyData
  key_said key = record { sizes = key; slices = key_slices (words (content 0x02)) (words (content 0x03)) (target_of key.m (words (content 0x04))) }

  abbrev pub group_said : Group
  group_said = record { serial = from_bytes (content 0x05); t = content 0x06; a = words (content 0x07) }

-- by the contents that a form's reader hands back
module _ (form : Form) (s : List ℕ) where
  abbrev pub key_data_of : KeyData
  key_data_of = key_said (handed form s) (key_of s)

  abbrev pub group_of : Group
  group_of = group_said (handed form s)
