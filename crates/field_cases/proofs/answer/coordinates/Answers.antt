use Rattle.std.proofs.Common.{◌≤◌, sym, subst}
use Rattle.field.specs.declared.Level.{Level}
use Rattle.field.proofs.Fields.{bounded}
use Rattle.field_cases.proofs.answer.coordinates.Goals as goal

pub returns-clause-few : goal.returns-clause-few
returns-clause-few c = subst (λ (l : Level). l.coordinates ≤ 23) (sym c.of.ensures) (bounded c.args.level).narrow
