use Rattle.std.proofs.Common.{◌≡◌, ℕ, ◌/◌, ◌^◌, ◌≤◌, List, length, get_or, take, sym, ap, ◌∙◌, arith}
use Rattle.std.specs.Prelude.{◌&&◌, eqb, ltb}
use lib.Pow.{pow_pos}
use lib.Seq.{take_all}
use lib.Dec.{leb-suc-suc}
use borrow.Author.Tests.{lt-ltb}
use Rattle.lists.specs.Words.{all}
use Rattle.lists.proofs.Words.{all_more}
use Rattle.field.specs.declared.Level.{Level}
use Rattle.field.specs.Level.{level_at}
use Rattle.field.specs.Word.{within}
use Rattle.field.proofs.Named.{every}
use Rattle.field.proofs.Fields.{bounded}
use Rattle.field.proofs.Limit.{or-below, high-none}
use Rattle.field.proofs.excess.Goals as goal

-- no digit from 2^w up, in any of the words
passed : (any i : ℕ) (s : List ℕ) → length s ≤ i → (w : ℕ) → ltb any (2 ^ w) ≡ all (λ x. ltb x (2 ^ w)) (take i s) → eqb (any / 2 ^ w) 0 ≡ all (λ x. ltb x (2 ^ w)) s
passed any i s h w e = high-none w any ∙ e ∙ ap (λ s. all (λ x. ltb x (2 ^ w)) s) (take_all i s h)

-- the limit is the largest number of that many digits
limits : (number : ℕ) (s : List ℕ) → all (λ x. ltb x (2 ^ (level_at number).width)) s ≡ within (level_at number) s
unfolding within
limits number s = every (λ l. all (λ x. ltb x (2 ^ l.width)) s ≡ within l s) number (ap (λ p. all p s) (λ k x. leb-suc-suc x 2047 k)) (ap (λ p. all p s) (λ k x. leb-suc-suc x 4095 k))

pub loop-x-init : goal.loop-x-init
unfolding all
loop-x-init c = λ w. lt-ltb 0 (2 ^ w) (pow_pos w)

pub loop-x-preserved : goal.loop-x-preserved
loop-x-preserved c =
    let l = c.loop-x in
    let s = c.args.s.now in
    λ w. or-below w l.any (get_or s l.x-index 0) ∙ ap (λ b. b && ltb (get_or s l.x-index 0) (2 ^ w)) (l.invariant w) ∙ sym (all_more (λ x. ltb x (2 ^ w)) s l.x-index (omega arith))

pub overflow_cast-result : goal.overflow_cast-result
overflow_cast-result c = omega (arith, ap (λ (l : Level). l.width) c.of-l.ensures, (bounded c.args.level).short)

pub overflow_shr-result : goal.overflow_shr-result
overflow_shr-result c = omega (arith, ap (λ (l : Level). l.width) c.of-l.ensures, (bounded c.args.level).short)

pub returns : goal.returns
returns c =
    let s = c.args.s.now in
    let l = c.loop-x in
    ap (λ (l : Level). eqb (c.loop-x.any / 2 ^ l.width) 0) c.of-l.ensures ∙ passed l.any l.x-index s (omega arith) (level_at c.args.level).width (l.invariant _) ∙ limits c.args.level s
