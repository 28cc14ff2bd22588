use mathlib.Core.List.{List}
use mathlib.Core.Path.{◌≡◌, sym, ap, ◌∙◌}
use Prim.Native.Nat.{ℕ, ◌+◌, ◌-◌, ◌*◌, ◌/◌, ◌%◌, ◌^◌, ◌<◌}
use native.Mathlib.Omega.{arith}
use lib.Seq.{get_or-set_same, get_or-set_other}
use lib.ListN.{length-set, get_or, set}
use lib.Bits.{bit_xor, bit_and}
use borrow.Author.Count.{below_more}
use Rattle.field.proofs.Rooms.{inside, apart}
use Rattle.field.proofs.Fields.{bounded}
use Rattle.field.specs.Packed.{room}
use Rattle.field.specs.Level.{level_at}
use Rattle.field.proofs.packed.add_word.Goals as goal

pub overflow_shr-parts : goal.overflow_shr-parts
overflow_shr-parts c = omega (arith, c.loop-k.invariant.1, (bounded c.args.level).short)

pub loop-k-preserved : goal.loop-k-preserved
loop-k-preserved c = (
  omega arith,
  c.loop-k.invariant.1,
  c.loop-k.invariant.2,
  simp length-set c.loop-k.invariant.3,
  below_more (λ i. get_or new (W * i + q) 0 ≡ bit_xor (get_or ws (W * i + q) 0) (bit_and c.args.x (c.args.f / 2 ^ i % 2 * (2 ^ 64 - 1)))) k (λ i m. other i q c.requires.0 (λ e j. absurd (omega arith)) ∙ c.loop-k.invariant.4 i m)
      (ap (λ i. get_or new i 0) (sym same) ∙ get_or-set_same old p v 0 (omega (arith, same, inside n k q (omega (arith, c.loop-k.invariant.1)) c.requires.0, c.requires.1, c.loop-k.invariant.3)) ∙ ap (λ u. bit_xor u (bit_and c.args.x (c.args.f / 2 ^ k % 2 * (2 ^ 64 - 1)))) (ap (λ i. get_or old i 0) same ∙ c.loop-k.invariant.5 k (omega arith))),
  λ i m. other i q c.requires.0 (λ e j. absurd (omega arith)) ∙ c.loop-k.invariant.5 i (omega arith),
  λ i r h d. other i r h (λ e j. d j) ∙ c.loop-k.invariant.6 i r h d,
)
  where
    n : ℕ
    n = c.args.level

    W : ℕ
    W = room (level_at n)

    ws : List ℕ
    ws = c.args.parts.now

    old : List ℕ
    old = c.loop-k.parts

    q : ℕ
    q = c.args.q

    k : ℕ
    k = c.loop-k.k

    p : ℕ
    p = c.room-w.result * k + q

    same : p ≡ W * k + q
    same = ap (λ w. w * k + q) c.loop-k.invariant.2

    v : ℕ
    v = bit_xor (get_or old p 0) (bit_and c.args.x (c.args.f / 2 ^ k % 2 * (2 ^ 64 - 1)))

    new : List ℕ
    new = set old p v

    other : (i r : ℕ) → r < W → ((i ≡ k) → (r ≡ q) → ⊥) → get_or new (W * i + r) 0 ≡ get_or old (W * i + r) 0
    other i r h d = get_or-set_other old p (W * i + r) v 0 (λ e. let f = apart n i r k q h c.requires.0 (e ∙ same) in d f.0 f.1)
