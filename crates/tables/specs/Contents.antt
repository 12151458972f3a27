-- What the tables of a package hold: a list for each kind of element.
-- Assumes nothing.
use Rattle.std.specs.Prelude.{ℕ, List}
use Rattle.tables.specs.declared.elements.Pair.{Pair}
use Rattle.tables.specs.declared.elements.Class.{Class}
use Rattle.tables.specs.declared.elements.Field.{Field}
use Rattle.tables.specs.declared.elements.Method.{Method}
use Rattle.tables.specs.declared.elements.Effect.{Effect}

pub record Contents : Type 0 where
  pub generation : ℕ
  pub domains : ℕ
  pub pairs : List Pair
  pub classes : List Class
  pub fields : List Field
  pub methods : List Method
  pub effects : List Effect
