-- What an effect of a package does, and the rows of the tables that its numbers name.
-- Assumes nothing.
use Rattle.std.specs.Prelude.{ℕ, ◌<◌, ◌≤◌, ◌≡◌, Bool, true, false, ◌||◌, Some, None, eqb, length, take}
use Rattle.meaning.specs.Tables.{Package, owner_of, label_of, result_of, params_of, field_class, field_type, caller_of, op_of, named_by}
use Rattle.meaning.specs.Tests.{of_result}
use Rattle.tables.specs.declared.elements.Field.{Field}
use Rattle.tables.specs.declared.elements.Method.{Method}
use Rattle.tables.specs.declared.elements.Effect.{Effect}
use Rattle.tables.specs.View.{operation_number}
use Rattle.effect_rules.specs.declared.site.Named.{Named}
use Rattle.effect_rules.specs.declared.site.Named.TheVariants.{Created, CastTo, Read, Written, CalledStatic, Called}

-- ---- what is done

abbrev pub is_made : Named → Bool
is_made (Created class) = true
is_made (CastTo class) = true
is_made (Read field) = false
is_made (Written field) = false
is_made (CalledStatic method) = false
is_made (Called method) = false

abbrev pub is_read : Named → Bool
is_read (Created class) = false
is_read (CastTo class) = false
is_read (Read field) = true
is_read (Written field) = false
is_read (CalledStatic method) = false
is_read (Called method) = false

abbrev pub is_written : Named → Bool
is_written (Created class) = false
is_written (CastTo class) = false
is_written (Read field) = false
is_written (Written field) = true
is_written (CalledStatic method) = false
is_written (Called method) = false

abbrev pub is_called_static : Named → Bool
is_called_static (Created class) = false
is_called_static (CastTo class) = false
is_called_static (Read field) = false
is_called_static (Written field) = false
is_called_static (CalledStatic method) = true
is_called_static (Called method) = false

abbrev pub is_called : Named → Bool
is_called (Created class) = false
is_called (CastTo class) = false
is_called (Read field) = false
is_called (Written field) = false
is_called (CalledStatic method) = true
is_called (Called method) = true

-- how many arguments it hands over: the parameters of the method that is called
abbrev pub arguments_of : Named → ℕ
arguments_of (Created class) = 0
arguments_of (CastTo class) = 0
arguments_of (Read field) = 0
arguments_of (Written field) = 0
arguments_of (CalledStatic method) = length (take method.now.parameter_count method.now.parameters)
arguments_of (Called method) = length (take method.now.parameter_count method.now.parameters)

-- an effect with this op does this, and nothing else
pub record DoesBy (op : ℕ) (named : Named) : Type 0 where
  pub makes : (eqb op 0 || eqb op 1) ≡ is_made named
  pub reads : (eqb op 2 || eqb op 4) ≡ is_read named
  pub writes : (eqb op 3 || eqb op 5) ≡ is_written named
  pub calls_static : eqb op 6 ≡ is_called_static named
  pub calls : (eqb op 6 || eqb op 7) ≡ is_called named

-- ---- with what

-- this is field x
pub record IsField (P : Package) (x : ℕ) (field : Field) : Type 0 where
  pub class : field.class ≡ field_class P x
  pub typ : field.typ ≡ field_type P x

-- this is method x
pub record IsMethod (P : Package) (x : ℕ) (method : Method) : Type 0 where
  pub class : method.class ≡ owner_of P x
  pub label : method.label ≡ label_of P x
  pub label_declared : method.label < P.domains
  pub no_result : (f : ℕ → Bool) → method.result ≡ None → of_result f (result_of P x) ≡ false
  pub some_result : (f : ℕ → Bool) (class : ℕ) → method.result ≡ Some class → of_result f (result_of P x) ≡ f class
  pub parameters : take method.parameter_count method.parameters ≡ params_of P x

-- its number names this
abbrev pub Names : Package → ℕ → Named → Type 0
Names P x (Created class) = class ≡ x
Names P x (CastTo class) = class ≡ x
Names P x (Read field) = IsField P x field.now
Names P x (Written field) = IsField P x field.now
Names P x (CalledStatic method) = IsMethod P x method.now
Names P x (Called method) = IsMethod P x method.now

-- ---- an effect of the tables

-- what it names is declared
pub record IsDeclared (P : Package) (effect : Effect) : Type 0 where
  pub field : 2 ≤ operation_number effect.operation → operation_number effect.operation ≤ 5 → effect.number < length P.fields
  pub method : 6 ≤ operation_number effect.operation → effect.number < length P.methods

-- this is effect i
pub record IsEffect (P : Package) (i : ℕ) (effect : Effect) : Type 0 where
  pub method : effect.method ≡ caller_of P i
  pub op : operation_number effect.operation ≡ op_of P i
  pub number : effect.number ≡ named_by P i
  pub method_declared : effect.method < length P.methods
  pub declared : IsDeclared P effect
