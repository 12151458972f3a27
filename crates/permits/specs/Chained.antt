-- The arrays of the chains are those of the tables' effects.
-- Assumes nothing.
use Rattle.std.specs.Prelude.{ℕ, ◌≡◌, ◌<◌, Option, None, List, length, get_or}
use Rattle.meaning.specs.Good.{Good}
use Rattle.meaning.specs.Tables.{Package}
use Rattle.tables.specs.declared.elements.Effect.{Effect}
use Rattle.tables.specs.Contents.{Contents}
use Rattle.tables.specs.View.{view}
use Rattle.permits.specs.Chains.{group_of, no_effect, newest_of}
use Rattle.permits.specs.declared.chains.Permits.TheInside.{Inside}

abbrev pub tables_of : Inside → Contents
tables_of p = p.tables.now

-- the newest effect of each group among the first n, and for each of these the one before it
pub record Chained (P : Package) (es : List Effect) (n : ℕ) (newest before : List (Option ℕ)) : Type 0 where
  pub newest_is : (g : ℕ) → g < 2048 → get_or newest g None ≡ newest_of P es g n
  pub before_is : (i : ℕ) → i < n → get_or before i None ≡ newest_of P es (group_of P (get_or es i no_effect)) i

pub record IsOfTables (t : Contents) (newest before : List (Option ℕ)) : Type 0 where
  pub good : Good (view t)
  pub chained : Chained (view t) t.effects (length t.effects) newest before

abbrev pub IsChained : Inside → Type 0
IsChained p = IsOfTables p.tables.now p.newest p.before
