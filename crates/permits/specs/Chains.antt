-- A package's effects as chains: those that are looked for as one are in one group, and each leads to the one before it.
-- Assumes nothing.
use Rattle.std.specs.Prelude.{ℕ, zero, suc, ◌+◌, ◌*◌, ◌%◌, Bool, ◌&&◌, cond, eqb, ltb, Option, Some, None, List, get_or}
use Rattle.meaning.specs.Tables.{Package, field_class, field_type}
use Rattle.tables.specs.declared.elements.Effect.{Effect}
use Rattle.tables.specs.declared.elements.Operation.TheVariants.{New}
use Rattle.tables.specs.View.{operation_number}
use Rattle.permits.specs.declared.chains.Wanted.{Wanted}
use Rattle.permits.specs.declared.chains.Wanted.TheVariants.{Number, Field}

-- 02 to 05 are on a field
abbrev pub is_of_fields : ℕ → Bool
is_of_fields op = ltb 1 op && ltb op 6

-- an effect on a field is grouped by the field's class and type, any other by the number that it names
abbrev pub grouped_by : Package → ℕ → ℕ → Wanted
grouped_by P op number = cond (is_of_fields op) (Field (field_class P number) (field_type P number)) (Number number)

abbrev pub spread : Wanted → ℕ
spread (Number number) = 37 * number
spread (Field class typ) = 37 * class + 611 * typ

abbrev pub group : ℕ → ℕ → Wanted → ℕ
group method op wanted = (method * 8 + op + spread wanted) % 2048

abbrev pub group_of : Package → Effect → ℕ
group_of P e = group e.method (operation_number e.operation) (grouped_by P (operation_number e.operation) e.number)

abbrev pub no_effect : Effect
no_effect = record { method = 0; operation = New; number = 0 }

-- the place of the last effect of a group among the first n
unfoldable pub newest_of : Package → List Effect → ℕ → ℕ → Option ℕ
newest_of P es g zero = None
newest_of P es g (suc n) = cond (eqb (group_of P (get_or es n no_effect)) g) (Some n) (newest_of P es g n)
