-- Overriding, read off the rows of two methods.
-- Assumes nothing.
use Rattle.std.specs.Prelude.{Bool, ◌&&◌, not, eqb}
use Rattle.meaning.specs.Tables.{Package}
use Rattle.meaning.specs.Tests.{subtype}
use Rattle.tables.specs.declared.elements.Method.{Method}
use Rattle.tables.specs.View.{mode_number}

-- both are instance methods of one slot, and the first one's class is a proper subtype of the second one's
abbrev pub overrides_by : Package → Method → Method → Bool
overrides_by P v n =
    (eqb (mode_number v.mode) 0 && (eqb (mode_number n.mode) 0 && eqb v.slot n.slot))
    && (not (eqb v.class n.class) && subtype P v.class n.class)
