-- Packages and check files written by concatenation, without the reader, and what the reader owes to them.
use Rattle.std.specs.Prelude.{◌≡◌, true, cond, List, [], ◌∷◌, ◌++◌, ℕ, ◌<◌, eqb, ltb, length, Ok}
use Rattle.copying.specs.Words.{Bytes, two_bytes, four_bytes, word_bytes}
use Rattle.field.specs.declared.Level.{Level}
use Rattle.field.specs.Word.{within}
use Rattle.elimination.specs.Rank.{Leaning}
use Rattle.key.specs.declared.Key.{Key}
use Rattle.key.specs.Key.{KeySlices, Sized, lengths, below}
use Rattle.layout.specs.Tests.{zeros}
use Rattle.lists.specs.Words.{part}
use Rattle.refusal.specs.Answer.{first_of, Done}
use Rattle.package.specs.Reading.{Reader, package_reader, check_file_reader, reading, field_part}

-- "Fields are a one-byte tag, a two-byte length and the content": tags and contents, one field after the other
unfoldable pub joined : List (ℕ × List ℕ) → List ℕ
joined [] = []
joined ((tag, c) ∷ fields) = (tag ∷ two_bytes (length c)) ++ c ++ joined fields

-- the content of the field with a tag, and no bytes for an absent tag
unfoldable pub content_of : ℕ → List (ℕ × List ℕ) → List ℕ
content_of tag [] = []
content_of tag ((g, c) ∷ fields) = cond (eqb g tag) c (content_of tag fields)

-- "Serials that fit two bytes are still written in two", and all others in four
abbrev pub serial_bytes : ℕ → List ℕ
serial_bytes x = cond (ltb x 65536) (two_bytes x) (four_bytes x)

-- field 04, y: "absent means all zero, and the writer leaves it out then"
abbrev pub target_fields : List ℕ → List (ℕ × List ℕ)
target_fields y = cond (zeros y) [] ((0x04, word_bytes y) ∷ [])

-- what the key's fields say: the slices are words
pub record KeyData : Type 0 where
  pub sizes : Key
  pub slices : KeySlices

-- what a group of fields says: t is bytes
pub record Group : Type 0 where
  pub serial : ℕ
  pub t : List ℕ
  pub a : List ℕ

-- what a check file says besides
pub record Check : Type 0 where
  pub q : List ℕ
  pub masks : List ℕ
  pub delta : List ℕ
  pub alpha : List ℕ

abbrev pub key_fields : KeyData → List (ℕ × List ℕ)
key_fields k =
    (0x01, k.sizes.n ∷ k.sizes.m ∷ [])
    ∷ (0x02, word_bytes k.slices.h)
    ∷ (0x03, word_bytes k.slices.x)
    ∷ target_fields k.slices.y

abbrev pub group_fields : Group → List (ℕ × List ℕ)
group_fields g =
    (0x05, serial_bytes g.serial)
    ∷ (0x06, g.t)
    ∷ (0x07, word_bytes g.a)
    ∷ []

abbrev pub check_fields : Check → List (ℕ × List ℕ)
check_fields c =
    (0x11, word_bytes c.q)
    ∷ (0x12, word_bytes c.masks)
    ∷ (0x13, word_bytes c.delta)
    ∷ (0x14, word_bytes c.alpha)
    ∷ []

-- words of a stated number, none above the limit
abbrev pub Within : Level → ℕ → List ℕ → Type 0
Within l n s = (length s ≡ n) × (within l s ≡ true)

-- fields within the limits: the sizes, the lengths and the values that the specification states
pub record ValidKey (l : Level) (k : KeyData) : Type 0 where
  pub sized : Sized l k.sizes
  pub h : Within l (lengths l k.sizes).matrix k.slices.h
  pub x : Within l (lengths l k.sizes).vector k.slices.x
  pub y : Within l (lengths l k.sizes).target k.slices.y
  -- "so a well-formed key now has rows that don't lean on each other"
  pub rows : Leaning l k.sizes.n k.sizes.m k.slices.h → ⊥

pub record ValidGroup (l : Level) (key : Key) (g : Group) : Type 0 where
  pub serial : g.serial < 4294967296
  pub t : (length g.t ≡ (lengths l key).bits) × (below 1 g.t ≡ true)
  pub a : Within l (lengths l key).proof g.a

pub record ValidCheck (l : Level) (key : Key) (c : Check) : Type 0 where
  pub q : Within l (lengths l key).elements c.q
  pub masks : Within l (lengths l key).masks c.masks
  pub delta : Within l (lengths l key).one c.delta
  pub alpha : Within l (lengths l key).values c.alpha

-- a form of file: its data, their key and serial, the fields, when they are within the limits, and how it is read
pub record Form : Type 1 where
  pub Data : Type 0
  pub key : Data → Key
  pub serial : Data → ℕ
  pub fields : Data → List (ℕ × List ℕ)
  pub Limits : Data → Type 0
  pub reader : Reader

-- a package has a key's fields and those of one group
abbrev pub package_form : Level → Form
package_form l = record {
  Data = KeyData × Group;
  key = λ p. p.0.sizes;
  serial = λ p. p.1.serial;
  fields = λ p. key_fields p.0 ++ group_fields p.1;
  Limits = λ p. ValidKey l p.0 × ValidGroup l p.0.sizes p.1;
  reader = package_reader l;
}

-- a check file has those of a package, and those of the check
abbrev pub check_form : Level → Form
check_form l =
    let of = package_form l in
    record {
      Data = of.Data × Check;
      key = λ x. of.key x.0;
      serial = λ x. of.serial x.0;
      fields = λ x. of.fields x.0 ++ check_fields x.1;
      Limits = λ x. of.Limits x.0 × ValidCheck l (of.key x.0) x.1;
      reader = check_file_reader l;
    }

module _ (form : Form) where
  abbrev pub written : form.Data → List ℕ
  written x = joined (form.fields x)

  -- the reader refuses nothing
  abbrev pub Accepted : List ℕ → Type 0
  Accepted s = first_of (form.reader.tests s) ≡ Done

  -- the bytes of the part that is handed back for a tag
  abbrev pub handed : List ℕ → ℕ → List ℕ
  handed s tag = let p = field_part form.reader s tag in part p.start p.len s

  -- the reader accepts exactly the bytes that are written of fields within the limits, answers their n, m and serial, and hands
  -- back their contents; no two fields are written alike
  pub record Faithful : Type 0 where
    pub accepted : (s : List ℕ) → Bytes s → Accepted s → (x : form.Data) × form.Limits x × (s ≡ written x)
    pub read : (x : form.Data) → form.Limits x → reading form.reader (written x) ≡ Ok (record { n = (form.key x).n; m = (form.key x).m; serial = form.serial x })
    pub bytes : (x : form.Data) → form.Limits x → Bytes (written x)
    pub injective : (x y : form.Data) → form.Limits x → form.Limits y → written x ≡ written y → x ≡ y
    pub contents : (x : form.Data) → form.Limits x → (tag : ℕ) → handed (written x) tag ≡ content_of tag (form.fields x)
