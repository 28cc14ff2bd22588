use Rattle.std.proofs.Common.{◌≡◌, List, ℕ, ◌+◌, ◌*◌, ◌/◌, ◌%◌, ◌≤◌, ◌<◌, length, get_or, refl, sym, ap, arith, ◌∙◌}
use lib.ListN.{set}
use lib.Seq.{paste}
use Rattle.lists.proofs.Words.{put_pasted}
use Rattle.copying.specs.Words.{word_bytes}
use Rattle.copying.proofs.Bytes.{bytes-length, bytes_high, bytes_low}
use Rattle.copying.proofs.Filled.{paste_more}
use Rattle.copying.proofs.put_words.Goals as goal

-- the two bytes of one word more
two-more : (d : List ℕ) (at : ℕ) (s : List ℕ) (i : ℕ) {out : List ℕ} → out ≡ paste d at (word_bytes s) (2 * i) → at + 2 * length s ≤ length d → i < length s
    → {a b : ℕ} → a ≡ get_or s i 0 / 256 → b ≡ get_or s i 0 % 256 → set (set out (at + 2 * i) a) (at + 2 * i + 1) b ≡ paste d at (word_bytes s) (2 * (i + 1))
two-more d at s i e f h p q =
    let long = bytes-length s in
    let first = paste_more d at (word_bytes s) (2 * i) e refl (p ∙ sym (bytes_high s i)) (omega arith) (omega arith) in
    let both : 2 * i + 1 + 1 ≡ 2 * (i + 1) = omega arith in
    paste_more d at (word_bytes s) (2 * i + 1) first (omega arith) (q ∙ sym (bytes_low s i)) (omega arith) (omega arith) ∙ ap (paste d at (word_bytes s)) both

pub loop-i-preserved : goal.loop-i-preserved
loop-i-preserved c =
    let a = c.args in
    let high = ap (λ b. get_or b 0 0) c.to_be_bytes.ensures in
    let low = ap (λ b. get_or b 1 0) c.to_be_bytes.ensures in
    two-more a.out.now a.at a.words.now c.loop-i.i c.loop-i.invariant (omega arith) (omega arith) (omega (arith, c.type_inv.words c.loop-i.i)) (omega arith)

pub returns : goal.returns
returns c =
    let l = c.loop-i in
    let s = c.args.words.now in
    let end : l.i ≡ length s = omega arith in
    (l.invariant ∙ put_pasted c.args.at (2 * l.i) (word_bytes s) c.args.out.now (omega (arith, bytes-length s)), refl)
