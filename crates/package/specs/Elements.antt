-- The element of a table that a frame stands for, from its bytes, whatever its length.
-- Assumes nothing.
use Rattle.std.specs.Prelude.{ℕ, ◌≡◌, ◌≢◌, Bool, true, false, cond, eqb, min, [], ◌∷◌, Option, Some, None, refl}
use Rattle.std.proofs.Math.Nat.{min-le_right}
use Rattle.std.proofs.lemmas.Bool.{eqb-false}
use Rattle.std.proofs.lemmas.Option.{none-some, same_Some}
use Rattle.text.specs.declared.frame.Frame.{Frame}
use Rattle.tables.specs.declared.elements.Pair.{Pair}
use Rattle.tables.specs.declared.elements.Class.{Class}
use Rattle.tables.specs.declared.elements.Mode.{Mode}
use Rattle.tables.specs.declared.elements.Mode.TheVariants.{Instance, Static}
use Rattle.tables.specs.declared.elements.Field.{Field}
use Rattle.tables.specs.declared.elements.Method.{Method}
use Rattle.tables.specs.declared.elements.Operation.{Operation}
use Rattle.tables.specs.declared.elements.Operation.TheVariants.{New, CheckCast, GetStatic, PutStatic, GetField, PutField, InvokeStatic, InvokeMethod}
use Rattle.tables.specs.declared.elements.Effect.{Effect}
use Rattle.package.specs.Judging.{at, slot_in}

abbrev pub mode_in : ℕ → Mode
mode_in byte = cond (eqb byte 0) Instance Static

abbrev pub result_in : ℕ → Option ℕ
result_in byte = cond (eqb byte 0xFF) None (Some byte)

-- FF is no type that is returned
pub result_fits : (byte : ℕ) → result_in byte ≢ Some 0xFF
result_fits byte = on (eqb byte 0xFF) refl
  where
    on : (b : Bool) → eqb byte 0xFF ≡ b → cond b None (Some byte) ≢ Some 0xFF
    on true e h = none-some 0xFF h
    on false e h = eqb-false byte 0xFF e (same_Some byte 0xFF h)

unfoldable pub operation_in : ℕ → Operation
operation_in byte =
    cond (eqb byte 0) New
    (cond (eqb byte 1) CheckCast
    (cond (eqb byte 2) GetStatic
    (cond (eqb byte 3) PutStatic
    (cond (eqb byte 4) GetField
    (cond (eqb byte 5) PutField
    (cond (eqb byte 6) InvokeStatic InvokeMethod))))))

abbrev pub pair_in : Frame → Pair
pair_in f = record { low = at f 1; high = at f 2 }

abbrev pub class_in : Frame → Class
class_in f = record { domain = at f 1; supertype_count = min (at f 2) 4; supertypes = at f 3 ∷ at f 4 ∷ at f 5 ∷ at f 6 ∷ []; few_supertypes = min-le_right (at f 2) 4 }

abbrev pub field_in : Frame → Field
field_in f = record { class = at f 1; typ = at f 2; mode = mode_in (at f 3) }

abbrev pub method_in : Frame → Method
method_in f =
    record {
      class = at f 1;
      label = at f 2;
      slot = slot_in f;
      result = result_in (at f 6);
      mode = mode_in (at f 3);
      parameter_count = min (at f 7) 6;
      parameters = at f 8 ∷ at f 9 ∷ at f 10 ∷ at f 11 ∷ at f 12 ∷ at f 13 ∷ [];
      few_parameters = min-le_right (at f 7) 6;
      result_fits = result_fits (at f 6);
    }

abbrev pub effect_in : Frame → Effect
effect_in f = record { method = at f 1; operation = operation_in (at f 2); number = at f 3 }
