-- Texts written one after the other into a list.
use mathlib.Core.Path.{◌≡◌, refl, sym, ap, ap₂, ◌∙◌, subst}
use mathlib.Core.List.{List, [], ◌∷◌, ◌++◌, append_assoc, append-nil}
use Prim.Native.Nat.{ℕ, ◌+◌, ◌≤◌, ◌<◌}
use native.Mathlib.Omega.{arith}
use mathlib.Core.Bool.{Bool, true, false, cond}
use lib.Dec.{ltb}
use borrow.Author.Tests.{lt-ltb, le-ltb}
use lib.ListN.{length, take, drop, set, length-append}
use lib.Seq.{get_or-append_seam, take_at, length-take-le}
use Rattle.lists.specs.Words.{put}
use Rattle.lists.proofs.Words.{put_pasted}
use Rattle.copying.proofs.Filled.{paste_more, Stands, stands-next, first-stands}
use Rattle.std.specs.Prelude.{Result}
use Rattle.refusal.specs.declared.Refusal.{Refusal}
use Rattle.checkfile.specs.declared.Checked.{Checked}
use Rattle.checkfile.specs.Line.{line_of, printed}

-- one byte after a text
pub text_last : (d text : List ℕ) (at last : ℕ) {out : List ℕ} {k : ℕ} → out ≡ put at text d → k ≡ at + length text → at + length text < length d → set out k last ≡ put at (text ++ (last ∷ [])) d
text_last d text at last e f h =
    let whole = text ++ (last ∷ []) in
    let size = length-append text (last ∷ []) in
    let first = e ∙ ap (λ t. take at d ++ t ++ drop (at + length text) d) (sym (take_at text (last ∷ []) (length text) refl)) in
    paste_more d at whole (length text) first f (sym (get_or-append_seam text last [] 0)) h (omega arith) ∙ put_pasted at (length text + 1) whole d size

-- a text, and one byte after it
pub stands_more : {s a t u : List ℕ} {i j : ℕ} (b : List ℕ) (last : ℕ) → Stands s 0 a t i → i + (length b + 1) ≤ length s → u ≡ put i (b ++ (last ∷ [])) t → j ≡ i + (length b + 1) → Stands s 0 (a ++ (b ++ (last ∷ []))) u j
stands_more b last w h e f = let size = length-append b (last ∷ []) in stands-next (b ++ (last ∷ [])) w (omega arith) e (omega arith)

-- six texts, each after the others, and each before the others
pub six : (a b c d e f : List ℕ) → a ++ b ++ c ++ d ++ e ++ f ≡ a ++ (b ++ (c ++ (d ++ (e ++ (f ++ [])))))
six a b c d e f = simp (append_assoc, append-nil)

-- a line at the start of s, where s has room
pub line_printed : (checked : Result Checked Refusal) {s u : List ℕ} {r : ℕ} → Stands s 0 (line_of checked) u r → 96 ≤ length s → (r, u) ≡ printed checked s
line_printed checked {s} {u} w h =
    let line = line_of checked in
    let is = first-stands w in
    ap₂ (λ (k : ℕ) (t : List ℕ). (k, t)) is.1 is.0 ∙ sym (ap (λ b. cond b (0, s) (length line, line ++ drop (length line) s)) (le-ltb (length s) 96 h))

pub line_short : (checked : Result Checked Refusal) (s : List ℕ) → length s < 96 → (0, s) ≡ printed checked s
line_short checked s h = let line = line_of checked in sym (ap (λ b. cond b (0, s) (length line, line ++ drop (length line) s)) (lt-ltb (length s) 96 h))

-- no more bytes are counted than there are
pub printed-fits : (checked : Result Checked Refusal) (s : List ℕ) {u : List ℕ} {r : ℕ} → (r, u) ≡ printed checked s → ((r, u) ≡ printed checked s) × ((r ≤ length u) × (r ≡ length (take r u)))
printed-fits checked s {u} {r} e = let h = subst (λ (p : ℕ × List ℕ). p.0 ≤ length p.1) (sym e) (either (ltb (length s) 96)) in (e, (h, sym (length-take-le r u h)))
  where
    line : List ℕ
    line = line_of checked

    either : (b : Bool) → let p = cond {A = ℕ × List ℕ} b (0, s) (length line, line ++ drop (length line) s) in p.0 ≤ length p.1
    either true = omega arith
    either false = omega (arith, length-append line (drop (length line) s))
