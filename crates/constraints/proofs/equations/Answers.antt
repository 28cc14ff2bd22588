use mathlib.Core.Path.{sym, subst}
use Prim.Native.Nat.{◌^◌, ◌≤◌}
use Rattle.constraints.proofs.Fine.{room}
use Rattle.constraints.proofs.equations.Goals as goal

pub invariant_of-matrix : goal.invariant_of-matrix
invariant_of-matrix c =
    let key = c.args.lent.now.key in
    record { lent = c.requires.1; columns = subst (λ d. key.n ≤ 2 ^ d) (sym c.degree.ensures) (room key c.requires.0).columns }
