use Rattle.std.proofs.Common.{◌≡◌}
use Rattle.tables.specs.View.{mode_number}
use Rattle.relation.specs.Rows.{wide}
use Rattle.script.proofs.Declaring.{first_of}
use Rattle.script.proofs.declared.fields_of.Given as goal

-- the fields so far
abbrev pub invariant-loop-field : goal.invariant-loop-field
invariant-loop-field l = l.rows ≡ wide 127 (first_of (mode_number l.mode) l.field-items l.field-index)
