-- Whether some effect of a method gives what a step needs.
-- Assumes nothing.
use Rattle.std.specs.Prelude.{ℕ, Bool, true, Option, Some, None}
use Rattle.meaning.specs.Tables.{Package}
use Rattle.runs.specs.Steps.{permits, permits_field}
use Rattle.tables.specs.declared.elements.Operation.{Operation}
use Rattle.tables.specs.declared.elements.Operation.TheVariants.{New, CheckCast, GetStatic, PutStatic, GetField, PutField, InvokeStatic, InvokeMethod}
use Rattle.machine.specs.declared.step.Need.{Need}

-- for a field an effect on a field of the same declaring class and type is enough
abbrev pub allows : Package → ℕ → Operation → ℕ → Bool
allows P m New x = permits P m 0 x
allows P m CheckCast x = permits P m 1 x
allows P m GetStatic f = permits_field P m 2 f
allows P m PutStatic f = permits_field P m 3 f
allows P m GetField f = permits_field P m 4 f
allows P m PutField f = permits_field P m 5 f
allows P m InvokeStatic n = permits P m 6 n
allows P m InvokeMethod n = permits P m 7 n

abbrev pub allowed : Package → ℕ → Need → Bool
allowed P m need = allows P m need.operation need.number

-- what needs no effect is allowed
abbrev pub all_allowed : Package → ℕ → Option Need → Bool
all_allowed P m None = true
all_allowed P m (Some need) = allowed P m need
