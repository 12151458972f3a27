-- What is known of a package's trust: the rows are those of its own relations.
-- Assumes nothing.
use Rattle.std.specs.Prelude.{ℕ, ◌≡◌, List}
use Rattle.meaning.specs.Good.{Good}
use Rattle.meaning.specs.Tables.{Package}
use Rattle.tables.specs.Contents.{Contents}
use Rattle.tables.specs.View.{view}
use Rattle.trust.specs.Homes.{Homes}
use Rattle.trust.specs.Relations.{dominance_rows, subtype_rows, suspicion_rows}
use Rattle.trust.specs.declared.known.Trust.TheInside.{Inside}

abbrev pub tables_of : Inside → Contents
tables_of t = t.tables.now

pub record Known (P : Package) (dominance homes supertypes suspicion : List ℕ) : Type 0 where
  pub good : Good P
  pub dominance_is : dominance ≡ dominance_rows P
  pub homes_are : Homes P homes
  pub supertypes_are : supertypes ≡ subtype_rows P
  pub suspicion_is : suspicion ≡ suspicion_rows P

abbrev pub IsKnown : Inside → Type 0
IsKnown t = Known (view t.tables.now) t.dominance t.homes t.supertypes t.suspicion
