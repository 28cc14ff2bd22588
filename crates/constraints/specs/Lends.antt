-- What the work on rows is lent of a key: inner data, no part of the entries' promises.
use Rattle.std.specs.Prelude.{◌≡◌}
use Rattle.field.specs.Level.{FIRST}
use Rattle.key.specs.declared.Lent.{Lent}
use Rattle.key.specs.Key.{degree}
use Rattle.row.specs.declared.equations.Equations.{Equations}

-- the equations of a key at the first level: its sizes and d, H, x and y
pub record Lends (equations : Equations) (lent : Lent) : Type 0 where
  pub n : equations.matrix.n ≡ lent.key.n
  pub m : equations.matrix.m ≡ lent.key.m
  pub d : equations.matrix.d ≡ degree lent.key.n
  pub level : equations.matrix.level ≡ FIRST
  pub h : equations.matrix.h.now ≡ lent.h.now
  pub x : equations.matrix.x.now ≡ lent.x.now
  pub y : equations.y.now ≡ lent.y.now
