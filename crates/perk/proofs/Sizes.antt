-- n and m of a file that is not refused are numbers of 32 bits.
use Rattle.std.specs.Prelude.{Result, Ok, Err}
use Rattle.refusal.specs.declared.Refusal.{Refusal}
use Rattle.package.specs.declared.Contents.{Contents}
use mathlib.Core.Path.{◌≡◌, sym, subst}
use mathlib.Core.List.{List}
use Prim.Native.Nat.{ℕ}
use native.Mathlib.Omega.{arith}
use Rattle.refusal.specs.Answer.{first_of, Done}
use Rattle.field.specs.Level.{FIRST, level_at}
use Rattle.field.proofs.Fields.{first-most}
use Rattle.key.specs.Key.{Sized}
use Rattle.layout.specs.Tests.{key_of}
use Rattle.package.specs.Reading.{Reader, reading}
use Rattle.package.proofs.Accepted.{read-accepts}
use Rattle.perk.specs.Files.{SmallSizes}

-- of a reader that accepts sizes only
pub read_small : (reader : Reader) (s : List ℕ) → (first_of (reader.tests s) ≡ Done → Sized (level_at FIRST) (key_of s)) → (r : Result Contents Refusal) → r ≡ reading reader s → SmallSizes r
read_small reader s sized (Err k) e = tt
read_small reader s sized (Ok c) e =
    let r = read-accepts reader s (sym e) in
    let z = subst (Sized (level_at FIRST)) (sym r.1) (sized r.0) in
    (omega (arith, z.most, first-most), omega (arith, z.most, z.fewer, first-most))
