-- Where the groups of two bundles of one key begin.
use mathlib.Core.Path.{◌≡◌, sym, ap, ◌∙◌, subst}
use mathlib.Core.List.{List}
use Prim.Native.Nat.{ℕ, ◌≤◌}
use lib.ListN.{length, drop}
use Rattle.copying.specs.Words.{Bytes}
use Rattle.field.specs.Level.{FIRST, level_at}
use Rattle.key.specs.declared.Key.{Key}
use Rattle.key.specs.Key.{Sized}
use Rattle.layout.specs.Layout.{key_end}
use Rattle.layout.specs.Tests.{key_of}
use Rattle.bundle.specs.Bundle.{groups_of}
use Rattle.bundle.specs.Written.{Accepted, ValidGroups}
use Rattle.bundle.proofs.Faithful.{bundle_sized, key-within, groups-walked}
use Rattle.joining.specs.Steps.{Mates}
use Rattle.joining.proofs.Cursors.{At}

-- the groups of an accepted bundle, from where they start
begins : (key : Key) (h : Sized (level_at FIRST) key) (s : List ℕ) {start : ℕ} → Bytes s → Accepted (level_at FIRST) s → key_of s ≡ key → key_end (level_at FIRST) s ≡ start → At key h s start (groups_of (level_at FIRST) s)
begins key h s b e k f =
    let w = groups-walked s b e in
    record {
      within = subst (λ i. i ≤ length s) f (key-within s b e);
      bytes = ap (λ i. drop i s) (sym f) ∙ w.bytes;
      valid = subst (λ key. ValidGroups (level_at FIRST) key (groups_of (level_at FIRST) s)) k w.valid;
      rising = w.rising;
    }

pub record Begun (key : Key) (s t : List ℕ) (start : ℕ) : Type 0 where
  pub sized : Sized (level_at FIRST) key
  pub one : At key sized s start (groups_of (level_at FIRST) s)
  pub two : At key sized t start (groups_of (level_at FIRST) t)

pub begun : (s t : List ℕ) (start : ℕ) {key : Key} → Bytes s → Bytes t → Mates (level_at FIRST) s t start → key ≡ key_of s → Begun key s t start
begun s t start {key} b c m e =
    let h = subst (Sized (level_at FIRST)) (sym e) (bundle_sized s b m.first) in
    record { sized = h; one = begins key h s b m.first (sym e) m.from_first; two = begins key h t c m.second (m.key ∙ sym e) m.from_second }
