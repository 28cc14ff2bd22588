use Prim.Native.Nat.{ℕ, ◌+◌, ◌≤◌}
use mathlib.Core.Path.{◌≡◌, sym, ap, ◌∙◌}
use mathlib.Core.Bool.{false}
use mathlib.Core.List.{List, [], ◌∷◌, ◌++◌}
use native.Mathlib.Omega.{arith}
use lib.ListN.{length}
use Rattle.lists.specs.Words.{put}
use Rattle.copying.specs.Words.{word_bytes}
use Rattle.copying.proofs.Filled.{Stands}
use Rattle.key.specs.declared.Key.{Key}
use Rattle.layout.specs.Tests.{zeros}
use Rattle.package.specs.Written.{joined, target_fields}
use Rattle.package.proofs.Target.{absent, present}
use Rattle.writer.proofs.Fields.{sizes_field, first_fields, three-length, key-length, fields-next}
use Rattle.writer.proofs.put_key.Goals as goal

some : (y : List ℕ) → zeros y ≡ false → length (joined (target_fields y)) ≡ length (joined ((0x04, word_bytes y) ∷ []))
some y e = ap (λ f. length (joined f)) (present y e)

-- these put one after the other
three : (key : Key) (h x y s : List ℕ) {t u v : List ℕ} {i j k : ℕ}
    → (t ≡ put 0 (joined (sizes_field key ∷ [])) s) × (i ≡ 0 + length (joined (sizes_field key ∷ [])))
    → (u ≡ put i (joined ((0x02, word_bytes h) ∷ [])) t) × (j ≡ i + length (joined ((0x02, word_bytes h) ∷ [])))
    → (v ≡ put j (joined ((0x03, word_bytes x) ∷ [])) u) × (k ≡ j + length (joined ((0x03, word_bytes x) ∷ [])))
    → length (joined (sizes_field key ∷ [])) + length (joined ((0x02, word_bytes h) ∷ [])) + length (joined ((0x03, word_bytes x) ∷ [])) ≤ length s → Stands s 0 (joined (first_fields key h x)) v k
three key h x y s e f g room =
    let end = e.1 in
    let w : Stands s 0 (joined (sizes_field key ∷ [])) _ _ = record { is = e.0; end = e.1 } in
    let v = fields-next (sizes_field key ∷ []) ((0x02, word_bytes h) ∷ []) w (omega arith) f in
    fields-next (sizes_field key ∷ (0x02, word_bytes h) ∷ []) ((0x03, word_bytes x) ∷ []) v (omega (arith, f.1)) g

pub put_field-at-requires : goal.put_field-at-requires
put_field-at-requires c = let a = c.args in (omega arith, omega (arith, key-length a.lent.now.key a.lent.now.h.now a.lent.now.x.now a.lent.now.y.now))

pub put_words_field-at-requires : goal.put_words_field-at-requires
put_words_field-at-requires c = let a = c.args in (omega arith, omega (arith, key-length a.lent.now.key a.lent.now.h.now a.lent.now.x.now a.lent.now.y.now, c.put_field-at.ensures.1))

pub put_words_field-at-requires-2 : goal.put_words_field-at-requires-2
put_words_field-at-requires-2 c = let a = c.args in (omega arith, omega (arith, key-length a.lent.now.key a.lent.now.h.now a.lent.now.x.now a.lent.now.y.now, c.put_field-at.ensures.1, c.put_words_field-at.ensures.1))

pub put_words_field-requires : goal.put_words_field-requires
put_words_field-requires c = let a = c.args in (omega arith, omega (arith, key-length a.lent.now.key a.lent.now.h.now a.lent.now.x.now a.lent.now.y.now, c.put_field-at.ensures.1, c.put_words_field-at.ensures.1, c.put_words_field-at-2.ensures.1, some a.lent.now.y.now (sym c.zero.ensures ∙ c.if-zero.false)))

pub returns-then-zero : goal.returns-then-zero
returns-then-zero c =
    let a = c.args in
    let w = three a.lent.now.key a.lent.now.h.now a.lent.now.x.now a.lent.now.y.now a.out.now c.put_field-at.ensures c.put_words_field-at.ensures c.put_words_field-at-2.ensures (omega (arith, key-length a.lent.now.key a.lent.now.h.now a.lent.now.x.now a.lent.now.y.now)) in
    let y = absent a.lent.now.y.now (sym c.zero.ensures ∙ c.if-zero.true) in
    let is = ap (λ f. joined (first_fields a.lent.now.key a.lent.now.h.now a.lent.now.x.now ++ f)) (sym y) in
    (w.is ∙ ap (λ b. put 0 b a.out.now) is, omega (arith, w.end, ap length is))

pub returns-else-zero : goal.returns-else-zero
returns-else-zero c =
    let a = c.args in
    let w = three a.lent.now.key a.lent.now.h.now a.lent.now.x.now a.lent.now.y.now a.out.now c.put_field-at.ensures c.put_words_field-at.ensures c.put_words_field-at-2.ensures (omega (arith, key-length a.lent.now.key a.lent.now.h.now a.lent.now.x.now a.lent.now.y.now)) in
    let none = sym c.zero.ensures ∙ c.if-zero.false in
    let v = fields-next (first_fields a.lent.now.key a.lent.now.h.now a.lent.now.x.now) ((0x04, word_bytes a.lent.now.y.now) ∷ []) w (omega (arith, key-length a.lent.now.key a.lent.now.h.now a.lent.now.x.now a.lent.now.y.now, some a.lent.now.y.now none, w.end, three-length (sizes_field a.lent.now.key) (0x02, word_bytes a.lent.now.h.now) (0x03, word_bytes a.lent.now.x.now))) c.put_words_field.ensures in
    let is = ap (λ f. joined (first_fields a.lent.now.key a.lent.now.h.now a.lent.now.x.now ++ f)) (sym (present a.lent.now.y.now none)) in
    (v.is ∙ ap (λ b. put 0 b a.out.now) is, omega (arith, v.end, ap length is))
