-- What stands in the places of the tables that are free: elements of zeros.
-- Assumes nothing.
use Rattle.std.specs.Prelude.{None, replicate}
use Rattle.std.proofs.Common.{lit≤}
use Rattle.std.proofs.lemmas.Option.{none-some}
use Rattle.tables.specs.declared.elements.Pair.{Pair}
use Rattle.tables.specs.declared.elements.Class.{Class}
use Rattle.tables.specs.declared.elements.Mode.TheVariants.{Instance}
use Rattle.tables.specs.declared.elements.Field.{Field}
use Rattle.tables.specs.declared.elements.Method.{Method}
use Rattle.tables.specs.declared.elements.Operation.TheVariants.{New}
use Rattle.tables.specs.declared.elements.Effect.{Effect}

abbrev pub no_pair : Pair
no_pair = record { low = 0; high = 0 }

abbrev pub no_class : Class
no_class = record { domain = 0; supertype_count = 0; supertypes = replicate 4 0; few_supertypes = lit≤ tt }

abbrev pub no_field : Field
no_field = record { class = 0; typ = 0; mode = Instance }

abbrev pub no_method : Method
no_method =
    record {
      class = 0;
      label = 0;
      slot = 0;
      result = None;
      mode = Instance;
      parameter_count = 0;
      parameters = replicate 6 0;
      few_parameters = lit≤ tt;
      result_fits = none-some 0xFF;
    }

abbrev pub no_effect : Effect
no_effect = record { method = 0; operation = New; number = 0 }
