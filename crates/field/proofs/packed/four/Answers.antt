use mathlib.Core.Path.{ap₂, ◌≡◌, ap, ◌∙◌}
use mathlib.Core.List.{[], ◌∷◌}
use Prim.Native.Nat.{ℕ, zero, suc, ◌+◌, ◌*◌, ◌%◌, ◌<◌}
use native.Mathlib.Nat.{mod-eq_of_lt}
use native.Mathlib.Omega.{arith}
use lib.ListN.{get_or}
use Rattle.field.specs.Packed.{lane}
use Rattle.field.proofs.Lanes.{lane-small, lane-cons-zero, lane-cons-suc}
use Rattle.field.proofs.packed.four.Goals as goal

join : (a b c d : ℕ) → b < 65536 → c < 65536 → d < 65536 → a + b * 65536 % 18446744073709551616 + c * 4294967296 % 18446744073709551616 + d * 281474976710656 % 18446744073709551616 ≡ ((d * 65536 + c) * 65536 + b) * 65536 + a
join a b c d hb hc hd = ap₂ ◌+◌ (ap₂ ◌+◌ (ap (λ n. a + n) (mod-eq_of_lt (omega arith))) (mod-eq_of_lt (omega arith))) (mod-eq_of_lt (omega arith)) ∙ omega arith

lanes : (a b c d j : ℕ) → a < 65536 → b < 65536 → c < 65536 → d < 65536 → j < 4 → lane (((d * 65536 + c) * 65536 + b) * 65536 + a) j ≡ get_or (a ∷ b ∷ c ∷ d ∷ []) j 0
lanes a b c d zero ha hb hc hd l = lane-cons-zero ((d * 65536 + c) * 65536 + b) a ha
lanes a b c d (suc zero) ha hb hc hd l = lane-cons-suc ((d * 65536 + c) * 65536 + b) a 0 ha ∙ lane-cons-zero (d * 65536 + c) b hb
lanes a b c d (suc (suc zero)) ha hb hc hd l = lane-cons-suc ((d * 65536 + c) * 65536 + b) a 1 ha ∙ lane-cons-suc (d * 65536 + c) b 0 hb ∙ lane-cons-zero d c hc
lanes a b c d (suc (suc (suc zero))) ha hb hc hd l = lane-cons-suc ((d * 65536 + c) * 65536 + b) a 2 ha ∙ lane-cons-suc (d * 65536 + c) b 1 hb ∙ lane-cons-suc d c 0 hc ∙ lane-small d hd
lanes a b c d (suc (suc (suc (suc j)))) ha hb hc hd l = absurd (omega arith)

pub returns : goal.returns
returns c j l =
    let a = c.args in
    ap (λ x. lane x j) (join a.a a.b a.c a.d c.ranges.b.fits c.ranges.c.fits c.ranges.d.fits) ∙ lanes a.a a.b a.c a.d j c.ranges.a.fits c.ranges.b.fits c.ranges.c.fits c.ranges.d.fits l
