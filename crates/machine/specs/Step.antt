-- What a step means, and the effect that it needs.
-- Assumes nothing.
use Rattle.std.specs.Prelude.{ℕ, Option, Some, None, List, take}
use Rattle.tables.specs.declared.elements.Operation.TheVariants as operation
use Rattle.runs.specs.Machine as M
use Rattle.runs.specs.Run as R
use Rattle.machine.specs.declared.arguments.Arguments.{Arguments}
use Rattle.machine.specs.declared.step.Need.{Need}
use Rattle.machine.specs.declared.step.Step.{Step}
use Rattle.machine.specs.declared.step.Step.TheVariants.{Widen, New, CheckCast, GetStatic, PutStatic, GetField, PutField, InvokeStatic, InvokeMethod, Return}
use Rattle.machine.specs.declared.step.Placed.{Placed}

abbrev pub arguments_of : Arguments → List ℕ
arguments_of arguments = take arguments.count arguments.objects

-- what a return names: FF where it gives nothing back
abbrev pub value_number : Option ℕ → ℕ
value_number None = 0xFF
value_number (Some object) = object

-- the step of the definitions
abbrev pub step_view : Step → M.Step
step_view (Widen object class) = M.widen object class
step_view (New object class) = M.new object class
step_view (CheckCast object class) = M.checkcast object class
step_view (GetStatic field value) = M.getstatic field value
step_view (PutStatic field value) = M.putstatic field value
step_view (GetField field owner value) = M.getfield field owner value
step_view (PutField field owner value) = M.putfield field owner value
step_view (InvokeStatic method arguments) = M.invokestatic method (arguments_of arguments)
step_view (InvokeMethod method runs receiver arguments) = M.invokemethod method runs receiver (arguments_of arguments)
step_view (Return value) = M.return (value_number value)

abbrev pub placed_view : Placed → R.Placed
placed_view k = record { line = k.line; step = step_view k.step }

-- what stands where no step was read
abbrev pub no_step : Placed
no_step = record { line = 0; step = Return None }

-- the effect that a step needs
abbrev pub need_of : Step → Option Need
need_of (Widen object class) = None
need_of (New object class) = Some (record { operation = operation.New; number = class })
need_of (CheckCast object class) = Some (record { operation = operation.CheckCast; number = class })
need_of (GetStatic field value) = Some (record { operation = operation.GetStatic; number = field })
need_of (PutStatic field value) = Some (record { operation = operation.PutStatic; number = field })
need_of (GetField field owner value) = Some (record { operation = operation.GetField; number = field })
need_of (PutField field owner value) = Some (record { operation = operation.PutField; number = field })
need_of (InvokeStatic method arguments) = Some (record { operation = operation.InvokeStatic; number = method })
need_of (InvokeMethod method runs receiver arguments) = Some (record { operation = operation.InvokeMethod; number = method })
need_of (Return value) = None
