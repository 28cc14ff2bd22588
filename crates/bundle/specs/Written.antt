-- Bundles written by concatenation, without the reader, and what the reader owes to them.
use Rattle.std.specs.Prelude.{◌≡◌, List, [], ◌∷◌, ◌++◌, ℕ, ◌+◌, ◌≤◌, ◌<◌, length, Ok}
use Rattle.copying.specs.Words.{Bytes}
use Rattle.refusal.specs.Answer.{first_of, Done}
use Rattle.field.specs.declared.Level.{Level}
use Rattle.key.specs.declared.Key.{Key}
use Rattle.package.specs.Written.{joined, KeyData, Group, key_fields, group_fields, ValidKey, ValidGroup}
use Rattle.bundle.specs.Bundle.{bundle_tests, key_data_of, groups_of}
use Rattle.bundle.specs.Reading.{reading}

-- what a bundle says
pub record Bundle : Type 0 where
  pub key : KeyData
  pub groups : List Group

-- the fields of groups, one group after the other
unfoldable pub groups_fields : List Group → List (ℕ × List ℕ)
groups_fields [] = []
groups_fields (g ∷ groups) = group_fields g ++ groups_fields groups

-- "the key fields once, then one or more groups of 05, 06, 07"
abbrev pub written : Bundle → List ℕ
written b = joined (key_fields b.key ++ groups_fields b.groups)

-- "with serials strictly rising", the first no less than low
abbrev pub Rising : ℕ → List Group → Type 0
Rising low [] = Unit {0}
Rising low (g ∷ groups) = (low ≤ g.serial) × Rising (g.serial + 1) groups

-- each group is within the limits of a group of this key
abbrev pub ValidGroups : Level → Key → List Group → Type 0
ValidGroups l key [] = Unit {0}
ValidGroups l key (g ∷ groups) = ValidGroup l key g × ValidGroups l key groups

pub record ValidBundle (l : Level) (b : Bundle) : Type 0 where
  pub key : ValidKey l b.key
  pub groups : ValidGroups l b.key.sizes b.groups
  pub rising : Rising 0 b.groups
  pub some : 0 < length b.groups

module _ (l : Level) where
  -- the reader refuses nothing
  abbrev pub Accepted : List ℕ → Type 0
  Accepted s = first_of (bundle_tests l s) ≡ Done

  -- what the fields of bytes say
  abbrev pub said : List ℕ → Bundle
  said s = record { key = key_data_of l s; groups = groups_of l s }

  -- the reader accepts exactly the bytes that are written of a key and of one or more groups with rising serials, within the limits; it
  -- answers their n, m and number, and the bytes say them; no two bundles are written alike
  pub record Faithful : Type 0 where
    pub accepted : (s : List ℕ) → Bytes s → Accepted s → ValidBundle l (said s) × (s ≡ written (said s))
    pub read : (b : Bundle) → ValidBundle l b → reading l (written b) ≡ Ok (record { n = b.key.sizes.n; m = b.key.sizes.m; groups = length b.groups })
    pub says : (b : Bundle) → ValidBundle l b → said (written b) ≡ b
    pub bytes : (b : Bundle) → ValidBundle l b → Bytes (written b)
    pub injective : (b c : Bundle) → ValidBundle l b → ValidBundle l c → written b ≡ written c → b ≡ c
