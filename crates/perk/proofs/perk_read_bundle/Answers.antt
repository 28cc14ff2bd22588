use mathlib.Core.Path.{ap, ◌∙◌}
use Rattle.std.specs.Prelude.{Result}
use Rattle.refusal.specs.declared.Refusal.{Refusal}
use Rattle.bundle.specs.declared.Contents.{Contents}
use Rattle.perk.specs.Files.{bundle_put}
use Rattle.perk.proofs.Bundles.{bundle_small}
use Rattle.perk.proofs.perk_read_bundle.Goals as goal

pub put_bundle-requires : goal.put_bundle-requires
put_bundle-requires c = bundle_small c.args.bytes.now _ c.read_bundle.ensures

pub returns : goal.returns
returns c =
    let a = c.args in
    c.put_bundle.ensures ∙ ap (λ (r : Result Contents Refusal). bundle_put r (a.n.now, a.m.now, a.groups.now)) c.read_bundle.ensures
