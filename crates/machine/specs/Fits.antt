-- The objects that a step looks up have numbers of one byte.
-- Assumes nothing.
use Rattle.std.specs.Prelude.{◌<◌}
use Rattle.machine.specs.declared.step.Step.{Step}
use Rattle.machine.specs.declared.step.Step.TheVariants.{Widen, New, CheckCast, GetStatic, PutStatic, GetField, PutField, InvokeStatic, InvokeMethod, Return}

abbrev pub Fits : Step → Type 0
Fits (Widen object class) = Unit {0}
Fits (New object class) = object < 256
Fits (CheckCast object class) = object < 256
Fits (GetStatic field value) = Unit {0}
Fits (PutStatic field value) = Unit {0}
Fits (GetField field owner value) = Unit {0}
Fits (PutField field owner value) = Unit {0}
Fits (InvokeStatic method arguments) = Unit {0}
Fits (InvokeMethod method runs receiver arguments) = receiver < 256
Fits (Return value) = Unit {0}
