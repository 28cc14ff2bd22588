use Prim.Native.Nat.{ℕ, ◌+◌, ◌*◌, ◌/◌, ◌%◌, ◌^◌, ◌≤◌}
use mathlib.Core.Path.{◌≡◌, refl, sym, ap, ap₂, ◌∙◌}
use mathlib.Core.List.{List}
use native.Mathlib.Omega.{arith}
use lib.Bits.{bit_xor, bit_and, xor_zero_r}
use lib.ListN.{length, get_or}
use Rattle.field.specs.declared.Level.{Level}
use Rattle.field.specs.Level.{level_at}
use Rattle.field.specs.Word.{Words}
use Rattle.field.proofs.Fields.{bounded}
use Rattle.elimination.specs.Steps.{Row}
use Rattle.elimination.proofs.Words.{product, product-none, product-one, product_more, product-next, product-end}
use Rattle.elimination.proofs.add_multiple.Goals as goal

-- one digit more
digit : (l : Level) (f k : ℕ) (part₀ row part part' : List ℕ) (y : ℕ) → l.width ≤ 16 → Words l part₀ → Row (length part₀) part (λ j. bit_xor (get_or part₀ j 0) (product l f (get_or row j 0 % 2 ^ k))) → y ≡ product l f (2 ^ k)
    → Row (length part) part' (λ j. bit_xor (get_or part j 0) (bit_and y (get_or row j 0 / 2 ^ k % 2 * 65535))) → Row (length part₀) part' (λ j. bit_xor (get_or part₀ j 0) (product l f (get_or row j 0 % 2 ^ (k + 1))))
digit l f k part₀ row part part' y s words r e q = record {
  size = q.size ∙ r.size;
  at = λ j b. q.at j (omega (arith, r.size)) ∙ ap₂ (λ x z. bit_xor x (bit_and z (get_or row j 0 / 2 ^ k % 2 * 65535))) (r.at j b) e ∙ product_more l f (get_or part₀ j 0) (get_or row j 0) k (words j) s;
}

pub loop-k-init : goal.loop-k-init
loop-k-init c =
    let a = c.args in
    let L = level_at a.level in (
      omega arith,
      ap (λ (l : Level). l.width) c.of-width.ensures,
      record { size = refl; at = λ j b. sym (ap (bit_xor (get_or a.part.now j 0)) (product-none L a.f (get_or a.row.now j 0)) ∙ xor_zero_r (get_or a.part.now j 0)) },
      λ _. product-one L a.f c.requires.3,
    )

pub add_digit-requires : goal.add_digit-requires
add_digit-requires c =
    let l = c.loop-k in
    (l.invariant.2.size ∙ c.requires.0, omega (arith, l.invariant.1, (bounded c.args.level).short))

pub loop-k-preserved : goal.loop-k-preserved
loop-k-preserved c =
    let l = c.loop-k in
    let a = c.args in
    let L = level_at a.level in
    let y : l.multiple ≡ product L a.f (2 ^ l.k) = l.invariant.3 (omega arith) in (
      omega arith,
      l.invariant.1,
      digit L a.f l.k a.part.now a.row.now l.part c.add_digit.new.part l.multiple (omega (arith, (bounded a.level).short)) c.requires.1 l.invariant.2 y c.add_digit.ensures,
      λ b. product-next L a.f l.multiple c.times_z-multiple.result l.k (omega (arith, l.invariant.1)) y c.times_z-multiple.ensures,
    )

pub returns : goal.returns
returns c =
    let l = c.loop-k in
    let a = c.args in
    let L = level_at a.level in
    record { size = l.invariant.2.size; at = λ j b. l.invariant.2.at j b ∙ ap (bit_xor (get_or a.part.now j 0)) (ap (λ n. product L a.f (get_or a.row.now j 0 % 2 ^ n)) {x = l.k} {y = L.width} (omega (arith, l.invariant.1)) ∙ product-end L a.f (get_or a.row.now j 0) (c.requires.2 j)) }
