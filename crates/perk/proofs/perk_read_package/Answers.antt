use mathlib.Core.Path.{ap, ◌∙◌}
use Rattle.std.specs.Prelude.{Result}
use Rattle.refusal.specs.declared.Refusal.{Refusal}
use Rattle.package.specs.declared.Contents.{Contents}
use Rattle.perk.specs.Files.{read_put}
use Rattle.field.specs.Level.{FIRST, level_at}
use Rattle.package.specs.Reading.{package_reader}
use Rattle.package.proofs.Accepted.{package_sized}
use Rattle.perk.proofs.Sizes.{read_small}
use Rattle.perk.proofs.perk_read_package.Goals as goal

pub put_read-requires : goal.put_read-requires
put_read-requires c = read_small (package_reader (level_at FIRST)) c.args.bytes.now (package_sized (level_at FIRST) c.args.bytes.now) _ c.read_package.ensures

pub returns : goal.returns
returns c = c.put_read.ensures ∙ ap (λ (r : Result Contents Refusal). read_put r (c.args.n.now, c.args.m.now, c.args.serial.now)) c.read_package.ensures
