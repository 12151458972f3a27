-- What a loaded package holds: the rows are those of its tables.
-- Assumes nothing.
use Rattle.tables.specs.Contents.{Contents}
use Rattle.tables.specs.View.{view}
use Rattle.trust.specs.Below.{Supers}
use Rattle.machine.specs.declared.loaded.Loaded.TheInside.{Inside}

abbrev pub contents_of : Inside → Contents
contents_of l = l.permits

abbrev pub IsLoaded : Inside → Type 0
IsLoaded l = Supers (view l.permits) l.supertypes
