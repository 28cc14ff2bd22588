use Rattle.std.proofs.Common.{◌≡◌, cond, List, ℕ, zero, suc, ◌+◌, ◌-◌, ◌/◌, ◌%◌, ◌^◌, ◌<◌, get_or, set, sym, ap, ap₂, ◌∙◌, arith}
use Rattle.std.specs.Int.Bits.{bit_xor, xor_zero_l, xor_zero_r, xor_self}
use Rattle.std.proofs.Math.Seq.{paste, paste-suc}
use Rattle.std.proofs.Common.{add-one}
use Rattle.lists.proofs.Words.{put_pasted}
use Rattle.field.specs.Binary.{xor}
use Rattle.field.specs.Word.{odd}
use Rattle.row.specs.Lists.{tab}
use Rattle.row.specs.Polynomial.{digit}
use Rattle.row.proofs.ListLaws.{tab-length, tab-at}
use Rattle.rows.proofs.masked_row.Goals as goal

-- exclusive or of two bits as words
xor-word : (a b : ℕ) → a < 2 → b < 2 → bit_xor a b ≡ cond (xor (odd a) (odd b)) 1 0
xor-word zero zero h l = xor_zero_l 0
xor-word zero (suc zero) h l = xor_zero_l 1
xor-word (suc zero) zero h l = xor_zero_r 1
xor-word (suc zero) (suc zero) h l = xor_self 1
xor-word zero (suc (suc b)) h l = absurd (omega arith)
xor-word (suc zero) (suc (suc b)) h l = absurd (omega arith)
xor-word (suc (suc a)) b h l = absurd (omega arith)

-- the words of the row
abbrev word : (u : List ℕ) (at position d k : ℕ) → ℕ
word u at position d k = cond (xor (digit d position k) (odd (get_or u (at + k) 0))) 1 0

pub loop-k-preserved : goal.loop-k-preserved
unfolding digit
loop-k-preserved c =
    let a = c.args in
    let k = c.loop-k.k in
    let f = word a.u.now a.at a.position a.d in
    let x = a.position / 2 ^ (a.d - 1 - k) % 2 in
    ap₂ (λ (v : List ℕ) (y : ℕ). set v (a.at + k) y) c.loop-k.invariant (xor-word x (get_or a.u.now (a.at + k) 0) (omega arith) (c.requires.0 (a.at + k)) ∙ sym (tab-at a.d f k (omega arith)))
    ∙ paste-suc a.t.now a.at (tab a.d f) k 0 (omega arith) (omega (arith, tab-length a.d f))
    ∙ ap (paste a.t.now a.at (tab a.d f)) (sym (add-one k))

pub returns : goal.returns
returns c =
    let a = c.args in
    let f = word a.u.now a.at a.position a.d in
    let done : a.d ≡ c.loop-k.k = omega arith in
    c.loop-k.invariant ∙ put_pasted a.at c.loop-k.k (tab a.d f) a.t.now (tab-length a.d f ∙ done)
