use Rattle.std.proofs.Common.{ℕ, ◌≡◌, ◌+◌, ◌/◌, ◌%◌, ◌≤◌, List, ◌∷◌, length, get_or, refl, ap, ◌∙◌, arith}
use lib.ListN.{set}
use lib.Seq.{paste-zero}
use Rattle.lists.specs.Words.{put}
use Rattle.lists.proofs.Words.{put_pasted}
use Rattle.copying.specs.Words.{two_bytes}
use Rattle.copying.proofs.Filled.{paste_more}
use Rattle.writer.proofs.put_head.Goals as goal

-- three bytes, one after the other
three : (d : List ℕ) (at tag len : ℕ) → at + 3 ≤ length d → set (set (set d at tag) (at + 1) (len / 256)) (at + 2) (len % 256) ≡ put at (tag ∷ two_bytes len) d
three d at tag len h =
    let s = tag ∷ two_bytes len in
    let first = paste_more d at s 0 {k = at} {x = tag} (paste-zero d at s) (omega arith) refl (omega arith) (omega arith) in
    let second = paste_more d at s 1 {k = at + 1} {x = len / 256} first refl refl (omega arith) (omega arith) in
    let third = paste_more d at s 2 {k = at + 2} {x = len % 256} second refl refl (omega arith) (omega arith) in
    third ∙ put_pasted at 3 s d refl

pub returns : goal.returns
returns c =
    let a = c.args in
    let bytes = c.to_be_bytes-bytes in
    let high : get_or bytes.result 0 0 ≡ a.len / 256 = omega (arith, ap (λ b. get_or b 0 0) bytes.ensures) in
    let low : get_or bytes.result 1 0 ≡ a.len % 256 = omega (arith, ap (λ b. get_or b 1 0) bytes.ensures) in
    rw (high, low) (three a.out.now a.at a.tag a.len (omega arith), refl)
