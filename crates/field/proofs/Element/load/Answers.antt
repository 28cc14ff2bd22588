use mathlib.Core.Path.{◌≡◌, sym, ap, ◌∙◌}
use mathlib.Core.List.{List, [], ◌∷◌}
use Prim.Native.Nat.{ℕ, zero, suc, ◌+◌, ◌*◌, ◌<◌}
use native.Mathlib.Omega.{arith}
use lib.ListN.{get_or}
use Rattle.field.proofs.Fields.{twelve}
use Rattle.field.proofs.Packing.{by_lanes}
use Rattle.field.specs.Packed.{lane, Holds}
use Rattle.field.specs.Word.{words}
use Rattle.lists.proofs.Words.{part_at}
use Rattle.lists.specs.Words.{part}
use Rattle.field.proofs.Named.{of_first, of_second, at_second}
use Rattle.field.specs.Level.{K}
use Rattle.field.specs.declared.Level.{Level}
use Rattle.field.proofs.Element.load.Goals as goal

pub four_at-a-requires : goal.four_at-a-requires
four_at-a-requires c = omega (arith, c.requires, twelve c.args.level)

pub four_at-b-requires : goal.four_at-b-requires
four_at-b-requires c = omega (arith, c.requires, twelve c.args.level)

pub four_at-c-requires : goal.four_at-c-requires
four_at-c-requires c = omega (arith, c.requires, twelve c.args.level)

pub four_at-d-requires : goal.four_at-d-requires
four_at-d-requires c = omega (arith, c.requires, ap (λ (l : Level). l.coordinates) (at_second c.if-level-eq-SECOND.true))

pub four_at-e-requires : goal.four_at-e-requires
four_at-e-requires c = omega (arith, c.requires, ap (λ (l : Level). l.coordinates) (at_second c.if-level-eq-SECOND.true))

pub three_at-f-requires : goal.three_at-f-requires
three_at-f-requires c = omega (arith, c.requires, ap (λ (l : Level). l.coordinates) (at_second c.if-level-eq-SECOND.true))

pub returns-then-level-eq-SECOND : goal.returns-then-level-eq-SECOND
unfolding Holds
returns-then-level-eq-SECOND c = of_second (λ l. (x : (K l).Carrier) → part at l.coordinates s ≡ words l x → Holds l r x) c.if-level-eq-SECOND.true (λ x e i h. by_lanes r (λ k v. v ≡ get_or s (at + k) 0) 6 23 (omega arith) go i h ∙ sym (part_at at 23 s i h) ∙ ap (λ p. get_or p i 0) e)
  where
    s : List ℕ
    s = c.args.s.now

    at : ℕ
    at = c.args.at

    r : List ℕ
    r = c.four_at-a.result ∷ c.four_at-b.result ∷ c.four_at-c.result ∷ c.four_at-d.result ∷ c.four_at-e.result ∷ c.three_at-f.result ∷ []

    go : (q j : ℕ) → q < 6 → j < 4 → 4 * q + j < 23 → lane (get_or r q 0) j ≡ get_or s (at + (4 * q + j)) 0
    go zero j h k l = c.four_at-a.ensures j k ∙ ap (λ n. get_or s n 0) (omega arith)
    go (suc zero) j h k l = c.four_at-b.ensures j k ∙ ap (λ n. get_or s n 0) (omega arith)
    go (suc (suc zero)) j h k l = c.four_at-c.ensures j k ∙ ap (λ n. get_or s n 0) (omega arith)
    go (suc (suc (suc zero))) j h k l = c.four_at-d.ensures j k ∙ ap (λ n. get_or s n 0) (omega arith)
    go (suc (suc (suc (suc zero)))) j h k l = c.four_at-e.ensures j k ∙ ap (λ n. get_or s n 0) (omega arith)
    go (suc (suc (suc (suc (suc zero))))) j h k l = c.three_at-f.ensures j (omega arith) ∙ ap (λ n. get_or s n 0) (omega arith)
    go (suc (suc (suc (suc (suc (suc q)))))) j h k l = absurd (omega arith)

pub returns : goal.returns
unfolding Holds
returns c = of_first (λ l. (x : (K l).Carrier) → part at l.coordinates s ≡ words l x → Holds l r x) c.if-level-eq-SECOND.false (λ x e i h. by_lanes r (λ k v. v ≡ get_or s (at + k) 0) 3 12 (omega arith) go i h ∙ sym (part_at at 12 s i h) ∙ ap (λ p. get_or p i 0) e)
  where
    s : List ℕ
    s = c.args.s.now

    at : ℕ
    at = c.args.at

    r : List ℕ
    r = c.four_at-a.result ∷ c.four_at-b.result ∷ c.four_at-c.result ∷ 0 ∷ 0 ∷ 0 ∷ []

    go : (q j : ℕ) → q < 3 → j < 4 → 4 * q + j < 12 → lane (get_or r q 0) j ≡ get_or s (at + (4 * q + j)) 0
    go zero j h k l = c.four_at-a.ensures j k ∙ ap (λ n. get_or s n 0) (omega arith)
    go (suc zero) j h k l = c.four_at-b.ensures j k ∙ ap (λ n. get_or s n 0) (omega arith)
    go (suc (suc zero)) j h k l = c.four_at-c.ensures j k ∙ ap (λ n. get_or s n 0) (omega arith)
    go (suc (suc (suc q))) j h k l = absurd (omega arith)
