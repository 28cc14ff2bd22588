use Prim.Native.Nat.{suc, ◌-◌, ◌^◌, ◌≤◌}
use mathlib.Core.Path.{◌≡◌, sym, ap, ◌∙◌}
use native.Mathlib.Omega.{arith}
use Rattle.field.specs.Sums.{pow}
use Rattle.field.specs.declared.Level.{Level}
use Rattle.field.specs.Level.{F, level_at}
use Rattle.field.specs.Word.{small, word}
use Rattle.field.proofs.Fields.{bounded}
use Rattle.galois.specs.Inverse.{inverse}
use Rattle.galois.proofs.Inverse.{level_inverts}
use Rattle.elimination.proofs.Words.{pow-ones, pow-last, small_word, word-one, word-within, some-small}
use Rattle.elimination.proofs.inverse.Goals as goal

pub overflow_sub-last : goal.overflow_sub-last
overflow_sub-last c = omega (arith, ap (λ (l : Level). l.width) c.of-last.ensures, (bounded c.args.level).width)

pub loop-k-init : goal.loop-k-init
unfolding pow
loop-k-init c =
    let a = c.args in
    (omega arith, omega (arith, ap (λ (l : Level). l.width) c.of-last.ensures, (bounded a.level).width), sym (word-one (level_at a.level) (bounded a.level).width))

pub loop-k-preserved : goal.loop-k-preserved
loop-k-preserved c =
    let l = c.loop-k in
    let a = c.args in
    let L = level_at a.level in
    let x : (F L).Carrier = small L a.a in
    let p : (F L).Carrier = pow (F L) x (2 ^ l.k - 1) in
    let h : l.p ≤ L.limit = word-within a.level p l.invariant.2 in
    let s : c.product-square.result ≡ word L ((F L).mul (small L l.p) (small L l.p)) = c.product-square.ensures h h in (
      omega arith,
      l.invariant.1,
      c.product-p.ensures (omega arith) (word-within a.level ((F L).mul (small L l.p) (small L l.p)) s) ∙ ap (λ y. word L ((F L).mul x y)) (ap (small L) (s ∙ ap (λ y. word L ((F L).mul (small L y) (small L y))) l.invariant.2 ∙ ap (λ y. word L ((F L).mul y y)) (small_word L p)) ∙ small_word L ((F L).mul p p)) ∙ ap (word L) (pow-ones (F L) x l.k),
    )

pub returns : goal.returns
unfolding inverse
returns c =
    let l = c.loop-k in
    let a = c.args in
    let L = level_at a.level in
    let x : (F L).Carrier = small L a.a in
    let p : (F L).Carrier = pow (F L) x (2 ^ l.k - 1) in
    let w : suc l.k ≡ L.width = omega (arith, l.invariant.1) in
    let h : l.p ≤ L.limit = word-within a.level p l.invariant.2 in
    let e : c.product.result ≡ word L (inverse L x) = c.product.ensures h h ∙ ap (λ y. word L ((F L).mul (small L y) (small L y))) l.invariant.2 ∙ ap (λ y. word L ((F L).mul y y)) (small_word L p) ∙ ap (word L) (pow-last (F L) x l.k ∙ ap (λ n. pow (F L) x (2 ^ n - 2)) w) in
    record { power = e; inverts = ap (λ y. (F L).mul x (small L y)) e ∙ ap ((F L).mul x) (small_word L (inverse L x)) ∙ level_inverts a.level x (some-small a.level a.a (omega arith) (omega arith)) }
