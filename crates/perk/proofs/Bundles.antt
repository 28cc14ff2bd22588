-- Bundles: n and m are numbers of 32 bits.
use Rattle.std.specs.Prelude.{Result, Ok, Err}
use Rattle.refusal.specs.declared.Refusal.{Refusal}
use mathlib.Core.Path.{◌≡◌, refl, sym, ap, ◌∙◌}
use mathlib.Core.Bool.{Bool}
use mathlib.Core.List.{List, [], ◌∷◌, ◌++◌}
use Prim.Native.Nat.{ℕ}
use native.Mathlib.Omega.{arith}
use lib.ListN.{length}
use Rattle.refusal.specs.Answer.{first_of, Answer}
use Rattle.field.specs.declared.Level.{Level}
use Rattle.field.specs.Level.{FIRST, level_at}
use Rattle.field.proofs.Fields.{first-most}
use Rattle.layout.specs.Layout.{key_tests}
use Rattle.layout.proofs.Files.{key-sized}
use Rattle.refusal.proofs.Answers.{both_done}
use Rattle.bundle.specs.declared.Contents.{Contents}
use Rattle.bundle.specs.Reading.{reading}
use Rattle.bundle.proofs.Steps.{read-accepts}
use Rattle.perk.specs.Files.{SmallBundle}

pub bundle_small : (s : List ℕ) (r : Result Contents Refusal) → r ≡ reading (level_at FIRST) s → SmallBundle r
bundle_small s (Err k) e = tt
bundle_small s (Ok c) e =
    let l = level_at FIRST in
    let f = read-accepts s (sym e) in
    let z = key-sized l s (both_done (key_tests l s) _ f.0).0 in
    let n = ap (λ (c : Contents). c.n) f.1 in
    let m = ap (λ (c : Contents). c.m) f.1 in
    (omega (arith, n, z.most, first-most), omega (arith, m, z.most, z.fewer, first-most))
