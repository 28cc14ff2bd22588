use Rattle.std.proofs.Common.{◌≡◌, ℕ, suc, ◌+◌, ◌-◌, ◌*◌, ◌≤◌, ◌<◌, drop, sym, ap, ◌∙◌, subst, arith}
use native.Mathlib.Nat.{zero-add}
use Rattle.field.specs.declared.Level.{Level}
use Rattle.field.specs.Level.{embed, level_at, K}
use Rattle.field.specs.Word.{small}
use Rattle.field.specs.Packed.{Holds, room, combined}
use Rattle.field.proofs.Rooms.{inside, most, room_pos}
use Rattle.field.proofs.PartLaws.{combined_more, later}
use Rattle.field.proofs.packed.total.Goals as goal

-- where part k stands
place : (number w k : ℕ) → w ≡ room (level_at number) → k < (level_at number).width → (w * k ≤ 72) × (w * k + room (level_at number) ≤ room (level_at number) * (level_at number).width)
place number w k e h =
    let last = inside number k (room (level_at number) - 1) h (omega (arith, room_pos number)) in
    (omega (arith, room_pos number, ap (λ (w : ℕ). w * k) e, most number, last), omega (arith, room_pos number, ap (λ (w : ℕ). w * k) e, last))

pub loop-k-init : goal.loop-k-init
unfolding combined
loop-k-init c =
    let m = level_at c.args.level in
    let e : c.of-l.result.width ≡ m.width = ap (λ (l : Level). l.width) c.of-l.ensures in
    let none : m.width - c.of-l.result.width ≡ 0 = omega (arith, e) in
    λ a hz h. subst (Holds m c.args.sum.now) (sym (ap (λ i. combined (K m) ((embed m).map (small m 2)) i (λ i. a (c.of-l.result.width + i))) none)) hz

pub overflow_mul-w : goal.overflow_mul-w
overflow_mul-w c =
    let e = ap (λ (l : Level). l.width) c.of-l.ensures in
    omega (arith, place c.args.level c.room-w.result (c.loop-k.k - 1) c.room-w.ensures (omega (arith, e)))

pub next-requires : goal.next-requires
next-requires c =
    let e = ap (λ (l : Level). l.width) c.of-l.ensures in
    (omega (arith, c.requires.0), omega (arith, c.requires.1, place c.args.level c.room-w.result (c.loop-k.k - 1) c.room-w.ensures (omega (arith, e))))

pub loop-k-preserved : goal.loop-k-preserved
loop-k-preserved c =
    let l = c.loop-k in
    let m = level_at c.args.level in
    let k : ℕ = l.k - 1 in
    let e = ap (λ (l : Level). l.width) c.of-l.ensures in
    let low : k < m.width = omega (arith, e) in
    let back : l.k ≡ suc k = omega arith in
    λ a hz h. subst (Holds m c.next.new.sum) (combined_more (K m) ((embed m).map (small m 2)) m.width k a low)
    (c.next.ensures (later m a (suc k)) (a k) (subst (λ i. Holds m l.sum (later m a i)) back (l.invariant a hz h)) (subst (λ w. Holds m (drop (w * k) c.args.parts.now) (a k)) (sym c.room-w.ensures) (h k low)))

pub returns : goal.returns
returns c y hz h =
    let m = level_at c.args.level in
    let done : c.loop-k.k ≡ 0 = omega arith in
    let all : m.width - 0 ≡ m.width = omega arith in
    subst (Holds m c.loop-k.sum) (ap (later m h.part) done ∙ ap (λ n. combined (K m) ((embed m).map (small m 2)) n (λ i. h.part (0 + i))) all ∙ ap (combined (K m) ((embed m).map (small m 2)) m.width) (λ j i. h.part (zero-add i j)) ∙ h.total) (c.loop-k.invariant h.part hz h.held)
