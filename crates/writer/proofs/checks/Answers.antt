use mathlib.Core.List.{[], ◌∷◌}
use mathlib.Core.Path.{◌≡◌, refl, sym, ◌∙◌}
use borrow.Author.Rules.{rules}
use Rattle.lists.specs.Lent.{long}
use Rattle.key.specs.declared.Code.TheVariants.{Column}
use Rattle.key.proofs.Checked.{told-key}
use Rattle.lists.proofs.Lent.{each_long}
use Rattle.refusal.proofs.Answers.{none}
use Rattle.field.specs.Level.{FIRST, level_at}
use Rattle.key.specs.Key.{slices_of, lengths, sizes, below, withins}
use Rattle.key.proofs.Sized.{sized, first-matrix}
use Rattle.writer.specs.Entry.{write_lent}
use Rattle.writer.proofs.checks.Goals as goal

pub contents-requires : goal.contents-requires
contents-requires c =
    let a = c.args in
    let s = sized (level_at FIRST) a.lent.now.key (none (sizes (level_at FIRST) a.lent.now.key) (sym c.sizes.ensures ∙ c.in_ok-sizes.was)) in
    (s, (each_long (write_lent (lengths (level_at FIRST) a.lent.now.key) (slices_of a.lent.now) a.t.now a.a.now) (sym c.if-not-lengths.ensures)).0, first-matrix a.lent.now.key s)

pub returns-in_err-contents : goal.returns-in_err-contents
returns-in_err-contents c =
    let a = c.args in
    let s = a.lent.now in
    let same : c.from_residual-in_err-contents.result ≡ c.contents.result = search rules in
    same ∙ told-key (level_at FIRST) s.key (long (write_lent (lengths (level_at FIRST) s.key) (slices_of s) a.t.now a.a.now)) (slices_of s) (below 1 a.t.now) (withins (level_at FIRST) (a.a.now ∷ [])) Column []
    (sym c.sizes.ensures ∙ c.in_ok-sizes.was) 0 c.if-not-lengths.ensures refl c.contents.ensures c.in_err-contents.was
