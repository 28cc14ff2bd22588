use Rattle.std.proofs.Common.{ℕ, ◌≡◌, ◌*◌, ◌%◌, ◌^◌, ◌≤◌, ◌<◌, ltb}
use mathlib.Core.Path.{refl, ap, ap₂, ◌∙◌}
use native.Mathlib.Omega.{arith}
use lib.Bits.{or_lt}
use lib.Seq.{take_all}
use Rattle.lists.specs.Words.{all}
use Rattle.key.specs.Key.{degree, below}
use Rattle.key.proofs.Sized.{degree-fits}
use Rattle.key.proofs.Codes.{joined, power_le, number}
use Rattle.key.proofs.Key.codes.Goals as goal

-- the limit of the codes
power : (n d : ℕ) → (1 ≤ n) × (n ≤ 256) → d ≡ degree n → (d < 64) × (2 ^ d ≤ 256)
power n d p h = let e = power_le n p.0 p.1 in (omega (arith, e.0, h), omega (arith, e.1, ap (λ d. 2 ^ d) h))

pub overflow_shl-power : goal.overflow_shl-power
overflow_shl-power c = (power c.args.self.n c.degree-power.result c.requires c.degree-power.ensures).0

pub loop-position-init : goal.loop-position-init
loop-position-init c = (omega arith, omega arith, omega arith, unfold all in refl, unfold all in refl)

pub reach-no_code-requires : goal.reach-no_code-requires
reach-no_code-requires c = omega (arith, (power c.args.self.n c.degree-power.result c.requires c.degree-power.ensures).1)

pub loop-position-preserved : goal.loop-position-preserved
loop-position-preserved c =
    let l = c.loop-position in
    let s = c.args.positions.now in
    let column = c.reach-no_column in
    let code = c.reach-no_code in (
      omega arith,
      or_lt 9 l.no_column column.result l.invariant.1 column.ensures.0,
      or_lt 9 l.no_code code.result l.invariant.2 code.ensures.0,
      joined _ s l.position-index l.no_column column.result (omega arith) l.invariant.3 column.ensures.1,
      joined _ s l.position-index l.no_code code.result (omega arith) l.invariant.4 code.ensures.1,
    )

pub overflow_cast-result : goal.overflow_cast-result
overflow_cast-result c = omega (arith, c.loop-position.invariant.1, c.loop-position.invariant.2)

pub returns : goal.returns
unfolding below
returns c =
    let l = c.loop-position in
    let a = c.args in
    let s = a.positions.now in
    let n = a.self.n in
    let given = c.requires in
    let whole = take_all l.position-index s (omega arith) in
    let limit : 1 * 2 ^ c.degree-power.result % 18446744073709551616 ≡ 2 ^ degree n = omega (arith, (power n c.degree-power.result c.requires c.degree-power.ensures).1, ap (λ d. 2 ^ d) c.degree-power.ensures) in
    number n (degree-fits n (omega (arith, given.1))) s l.no_column l.no_code l.invariant.1 l.invariant.2
    (l.invariant.3 ∙ ap (λ t. all (λ p. ltb p n) t) whole)
    (l.invariant.4 ∙ ap₂ (λ w t. all (λ p. ltb p w) t) limit whole)
