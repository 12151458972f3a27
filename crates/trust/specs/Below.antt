-- <: by rows of bits, of any two numbers.
-- Assumes nothing.
use Rattle.std.specs.Prelude.{ℕ, ◌≡◌, Bool, ◌&&◌, ◌||◌, List, eqb, ltb}
use Rattle.meaning.specs.Tables.{Package}
use Rattle.meaning.specs.Good.{Good}
use Rattle.relation.specs.Rows.{row_bit}
use Rattle.trust.specs.Relations.{subtype_rows}

-- the rows of a package: a bit for each supertype of each class
pub record Supers (P : Package) (rows : List ℕ) : Type 0 where
  pub good : Good P
  pub are : rows ≡ subtype_rows P

-- a number that is not declared is below itself alone
abbrev pub below_by : List ℕ → ℕ → ℕ → Bool
below_by rows a b = eqb a b || (ltb a 127 && (ltb b 127 && row_bit rows a b))
