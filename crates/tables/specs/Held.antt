-- What the fields of the tables hold, and what is true of them: the package is good.
-- Assumes nothing.
use Rattle.meaning.specs.Good.{Good}
use Rattle.tables.specs.declared.held.Tables.TheInside.{Inside}
use Rattle.tables.specs.Contents.{Contents}
use Rattle.tables.specs.View.{view}

abbrev pub contents_of : Inside → Contents
contents_of t =
    record {
      generation = t.generation;
      domains = t.domains;
      pairs = t.pairs;
      classes = t.classes;
      fields = t.fields;
      methods = t.methods;
      effects = t.effects;
    }

-- tables with one content are one value: no place of theirs is left open
abbrev pub inside_of : Contents → Inside
inside_of t =
    record {
      generation = t.generation;
      domains = t.domains;
      pairs = t.pairs;
      classes = t.classes;
      fields = t.fields;
      methods = t.methods;
      effects = t.effects;
    }

abbrev pub IsGood : Inside → Type 0
IsGood t = Good (view (contents_of t))
