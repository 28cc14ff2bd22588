use mathlib.Core.List.{List}
use mathlib.Core.Path.{ap₂, ◌≡◌, sym, ap, ◌∙◌}
use Prim.Native.Nat.{ℕ, ◌-◌, ◌*◌, ◌/◌, ◌%◌, ◌^◌, ◌<◌}
use native.Mathlib.Omega.{arith}
use lib.Seq.{get_or-drop}
use lib.Bits.{bit_xor, bit_and}
use lib.ListN.{get_or, drop}
use Rattle.field.proofs.PartLaws.{combined-add, combined-digits}
use Rattle.field.proofs.Fields.{bounded}
use Rattle.field.proofs.Elements.{holds_added}
use Rattle.field.specs.Packed.{room}
use Rattle.field.specs.Word.{odd, small}
use Rattle.field.specs.Level.{embed, level_at, K}
use Rattle.field.specs.Binary.{bit}
use Rattle.field.specs.declared.Level.{Level}
use Rattle.field.proofs.packed.add_parts.Goals as goal

pub returns : goal.returns
returns c y e below h x = record {
  size = omega (arith, c.loop-q.invariant.2, h.size);
  part = λ k. (K l).add (h.part k) (term k);
  held = λ k m. holds_added l (room l) (drop (room l * k) old) c.args.x.now (drop (room l * k) new) (f / 2 ^ k % 2) (h.part k) e (omega arith) (omega arith) (each k m) (h.held k m) x;
  total = combined-add (K l) ((embed l).map (small l 2)) l.width h.part term ∙ ap₂ (K l).add h.total (combined-digits l (bounded c.args.level).digits l.width f e (omega arith) below);
}
  where
    l : Level
    l = level_at c.args.level

    f : ℕ
    f = c.args.f

    old : List ℕ
    old = c.args.parts.now

    new : List ℕ
    new = c.loop-q.parts

    term : ℕ → (K l).Carrier
    term k = (K l).mul (bit (K l) (odd (f / 2 ^ k % 2))) e

    each : (k : ℕ) → k < l.width → (q : ℕ) → q < room l → get_or (drop (room l * k) new) q 0 ≡ bit_xor (get_or (drop (room l * k) old) q 0) (bit_and (get_or c.args.x.now q 0) (f / 2 ^ k % 2 * (2 ^ 64 - 1)))
    each k h q m = get_or-drop (room l * k) new q 0 ∙ c.loop-q.invariant.3 k q h (omega (arith, c.loop-q.invariant.1)) ∙ ap (λ v. bit_xor v (bit_and (get_or c.args.x.now q 0) (f / 2 ^ k % 2 * (2 ^ 64 - 1)))) (sym (get_or-drop (room l * k) old q 0))
