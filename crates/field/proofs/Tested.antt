-- What the result r of `excess` says of a row that refuses words above the limit; b is whether all are within it.
use mathlib.Core.Path.{◌≡◌, sym, ap, ◌∙◌}
use mathlib.Core.Bool.{Bool, true, false, not}
use Prim.Native.Nat.{ℕ}
use borrow.Author.Tests.{eq-eqb, ne_eqb}
use lib.Dec.{eqb}

module _ {r : ℕ} {b : Bool} (e : eqb r 0 ≡ b) where
  pub fine : r ≡ 0 → not b ≡ false
  fine h = ap not (sym e ∙ eq-eqb r 0 h)

  pub above : (r ≡ 0 → ⊥) → not b ≡ true
  above h = ap not (sym e ∙ ne_eqb r 0 h)
