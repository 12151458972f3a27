-- What the tables mean: the package of `meaning`, element by element.
-- Assumes nothing.
use Rattle.std.specs.Prelude.{ℕ, Option, Some, None, map, take}
use Rattle.meaning.specs.Tables.{Package}
use Rattle.meaning.specs.Tables as M
use Rattle.tables.specs.declared.elements.Pair.{Pair}
use Rattle.tables.specs.declared.elements.Class.{Class}
use Rattle.tables.specs.declared.elements.Mode.{Mode}
use Rattle.tables.specs.declared.elements.Mode.TheVariants.{Instance, Static}
use Rattle.tables.specs.declared.elements.Field.{Field}
use Rattle.tables.specs.declared.elements.Method.{Method}
use Rattle.tables.specs.declared.elements.Operation.{Operation}
use Rattle.tables.specs.declared.elements.Operation.TheVariants.{New, CheckCast, GetStatic, PutStatic, GetField, PutField, InvokeStatic, InvokeMethod}
use Rattle.tables.specs.declared.elements.Effect.{Effect}
use Rattle.tables.specs.Contents.{Contents}

-- 00 instance, 01 static
abbrev pub mode_number : Mode → ℕ
mode_number Instance = 0
mode_number Static = 1

-- the byte of an operation in an effect's frame
abbrev pub operation_number : Operation → ℕ
operation_number New = 0
operation_number CheckCast = 1
operation_number GetStatic = 2
operation_number PutStatic = 3
operation_number GetField = 4
operation_number PutField = 5
operation_number InvokeStatic = 6
operation_number InvokeMethod = 7

-- a method without a return type has FF in its frame
abbrev pub result_byte : Option ℕ → ℕ
result_byte None = 0xFF
result_byte (Some class) = class

abbrev pub pair_view : Pair → M.Pair
pair_view x = record { low = x.low; high = x.high }

abbrev pub class_view : Class → M.Class
class_view x = record { domain = x.domain; supers = take x.supertype_count x.supertypes }

abbrev pub field_view : Field → M.Field
field_view x = record { class = x.class; type = x.typ; static = mode_number x.mode }

abbrev pub method_view : Method → M.Method
method_view x =
    record {
      class = x.class;
      label = x.label;
      static = mode_number x.mode;
      slot = x.slot;
      result = result_byte x.result;
      params = take x.parameter_count x.parameters;
    }

abbrev pub effect_view : Effect → M.Effect
effect_view x = record { method = x.method; op = operation_number x.operation; number = x.number }

-- the package that the tables hold
abbrev pub view : Contents → Package
view t =
    record {
      generation = t.generation;
      domains = t.domains;
      pairs = map pair_view t.pairs;
      classes = map class_view t.classes;
      fields = map field_view t.fields;
      methods = map method_view t.methods;
      effects = map effect_view t.effects;
    }
