use mathlib.Core.Path.{ap, ◌∙◌}
use mathlib.Core.List.{List}
use Prim.Native.Nat.{ℕ}
use native.Mathlib.Omega.{arith}
use Rattle.std.specs.Prelude.{Result}
use Rattle.copying.specs.Words.{Bytes}
use Rattle.refusal.specs.declared.Refusal.{Refusal}
use Rattle.writer.proofs.Laws.{writes_back}
use Rattle.examples.proofs.Packages.{accepted}
use Rattle.examples.proofs.written_again.Goals as goal

pub returns : goal.returns
returns c read e h =
    let s = c.args.bytes.now in
    let b : Bytes s = λ i. omega (arith, c.type_inv.bytes i) in
    let w = c.rewritten.ensures ∙ writes_back s b (accepted s b read e) c.args.out.now h in
    (ap (λ (o : Result ℕ Refusal × List ℕ). o.0) w, ap (λ (o : Result ℕ Refusal × List ℕ). o.1) w)
