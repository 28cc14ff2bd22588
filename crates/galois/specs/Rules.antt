-- The rules z^width = z^tap + 1 and Y^coordinates = Y^power + 1 of a level, and what it means that they are irreducible.
use Rattle.field.specs.Binary.{binary}
use Rattle.field.specs.declared.Level.{Level}
use Rattle.field.specs.Level.{F}
use Rattle.galois.specs.Polynomial.{modulus, Irreducible}

-- z^width + z^tap + 1 is irreducible over two elements, and Y^coordinates + Y^power + 1 over F
pub record IrreducibleRules (l : Level) : Type 0 where
  pub small : Irreducible binary l.width (modulus binary l.width l.tap)
  pub large : Irreducible (F l) l.coordinates (modulus (F l) l.coordinates l.power)
