use mathlib.Core.Path.{subst, ◌≡◌, refl, sym, ap, ◌∙◌}
use mathlib.Core.List.{List}
use Prim.Native.Nat.{ℕ, suc, ◌-◌, ◌*◌, ◌/◌, ◌%◌, ◌^◌, ◌<◌}
use native.Mathlib.Omega.{arith}
use lib.ListN.{get_or, set}
use lib.Seq.{get_or-set_same, get_or-set_other}
use lib.Bits.{bit_xor}
use Rattle.field.proofs.Named.{every}
use Rattle.field.proofs.Fields.{bounded}
use Rattle.field.proofs.Packing.{coordinate-is, packs_Y}
use Rattle.field.proofs.Lanes.{lane-lt}
use Rattle.field.proofs.Coordinate.{word_at}
use Rattle.field.specs.Packed.{lane, coordinate, Holds, room}
use Rattle.field.specs.Word.{word, words}
use Rattle.field.specs.Level.{first, second, F, Y, level_at, K}
use Rattle.field.specs.QuotientLaws.{generator-times}
use Rattle.field.specs.declared.Level.{Level}
use Rattle.field.proofs.packed.times_y.Goals as goal

-- r is the words of a one lane up with y, their highest coordinate, put in below and added at the tap
record Raised (l : Level) (a moved r : List ℕ) (y : ℕ) : Type 0 where
  small : y < 65536
  highest : y ≡ coordinate a (l.coordinates - 1)
  within : (q j : ℕ) → q < room l → j < 3 → lane (get_or moved q 0) (suc j) ≡ lane (get_or a q 0) j
  across : (q : ℕ) → suc q < room l → lane (get_or moved (suc q) 0) 0 ≡ lane (get_or a q 0) 3
  bottom : lane (get_or moved 0 0) 0 ≡ y
  others : (q : ℕ) → (q ≡ l.power / 4 → ⊥) → get_or r q 0 ≡ get_or moved q 0
  tapped : get_or r (l.power / 4) 0 ≡ bit_xor (get_or moved (l.power / 4) 0) (y * 2 ^ (16 * (l.power % 4)) % 2 ^ 64)

module _ (a moved r : List ℕ) (y : ℕ) where
  abbrev Turned : Level → Type 0
  Turned l = Raised l a moved r y → (x : (K l).Carrier) → Holds l a x → Holds l r ((K l).mul (Y l) x)

  at_first : Turned first
  unfolding Holds K F Y words word
  at_first f x hx i l = packs_Y 11 2 11 2 3 0 3 y a moved r refl (omega arith) (omega arith) (omega arith) (omega arith) f.small f.highest f.within f.across f.bottom (λ q h. f.others q) f.tapped x hx i l
      ∙ ap (λ v. word_at 11 2 12 v i) (sym (generator-times (F first) 12 3 x))

  at_second : Turned second
  unfolding Holds K F Y words word
  at_second f x hx i l = packs_Y 12 3 22 4 6 1 1 y a moved r refl (omega arith) (omega arith) (omega arith) (omega arith) f.small f.highest f.within f.across f.bottom (λ q h. f.others q) f.tapped x hx i l
      ∙ ap (λ v. word_at 12 3 23 v i) (sym (generator-times (F second) 23 5 x))

  turned : (number : ℕ) → Turned (level_at number)
  turned number = every Turned number at_first at_second

pub overflow_sub-l : goal.overflow_sub-l
overflow_sub-l c = omega (arith, ap (λ (l : Level). l.coordinates) c.of-l.ensures, (bounded c.args.level).coordinates)

pub coordinate-top-requires : goal.coordinate-top-requires
coordinate-top-requires c = omega (arith, ap (λ (l : Level). l.coordinates) c.of-l.ensures, (bounded c.args.level).coordinates, c.requires)

pub offset_bounds-z-p : goal.offset_bounds-z-p
offset_bounds-z-p c = omega (arith, ap (λ (l : Level). l.power) c.of-l.ensures, (bounded c.args.level).inner, (bounded c.args.level).narrow)

pub bounds-z-p : goal.bounds-z-p
bounds-z-p c = omega (arith, ap (λ (l : Level). l.power) c.of-l.ensures, (bounded c.args.level).inner, c.raise.auto.z, c.requires)

pub offset_bounds-z-p-2 : goal.offset_bounds-z-p-2
offset_bounds-z-p-2 c = omega (arith, ap (λ (l : Level). l.power) c.of-l.ensures, (bounded c.args.level).inner, (bounded c.args.level).narrow)

pub bounds-z-p-2 : goal.bounds-z-p-2
bounds-z-p-2 c = omega (arith, ap (λ (l : Level). l.power) c.of-l.ensures, (bounded c.args.level).inner, c.raise.auto.z, c.requires)

pub returns : goal.returns
returns c = turned a c.raise.new.z r top c.args.level (subst (λ l. Raised l a c.raise.new.z r top) c.of-l.ensures record {
  small = subst (λ v. v < 65536) (sym (c.coordinate-top.ensures ∙ coordinate-is a (c.of-l.result.coordinates - 1))) (lane-lt _ _);
  highest = c.coordinate-top.ensures;
  within = λ q j h k. c.raise.ensures.within q j (omega (arith, same)) k;
  across = λ q h. c.raise.ensures.across q (omega (arith, same));
  bottom = c.raise.ensures.first;
  others = λ q d. get_or-set_other c.raise.new.z p q v 0 d;
  tapped = get_or-set_same c.raise.new.z p v 0 (omega (arith, ap (λ (l : Level). l.power) c.of-l.ensures, (bounded c.args.level).inner, c.raise.auto.z, c.requires));
})
  where
    a : List ℕ
    a = c.args.z.now

    top : ℕ
    top = c.coordinate-top.result

    p : ℕ
    p = c.of-l.result.power / 4

    v : ℕ
    v = bit_xor (get_or c.raise.new.z p 0) (top * 2 ^ (16 * (c.of-l.result.power % 4)) % 2 ^ 64)

    r : List ℕ
    r = set c.raise.new.z p v

    same : room c.of-l.result ≡ room (level_at c.args.level)
    same = ap room c.of-l.ensures
