-- The number of each refusal.
-- Assumes nothing.
use Rattle.std.specs.Prelude.{ℕ}
use Rattle.machine.specs.declared.refusal.Refusal.{Refusal}
use Rattle.machine.specs.declared.refusal.Refusal.TheVariants.{NoSavedFrame, NotPermitted, PremiseMissing, NoRoom}

abbrev pub number_of : Refusal → ℕ
number_of NoSavedFrame = 64
number_of NotPermitted = 61
number_of PremiseMissing = 62
number_of NoRoom = 63
