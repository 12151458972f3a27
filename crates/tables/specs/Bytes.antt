-- The bytes that say a mode and an operation.
-- Assumes nothing.
use Rattle.std.specs.Prelude.{ℕ, ◌≡◌, ◌<◌, Result, Ok, Err}
use Rattle.tables.specs.declared.elements.Mode.{Mode}
use Rattle.tables.specs.declared.elements.Operation.{Operation}
use Rattle.tables.specs.declared.bytes.UnknownByte.{UnknownByte}
use Rattle.tables.specs.View.{mode_number, operation_number}

-- the mode that the byte says, or none
abbrev pub DecodesMode : ℕ → Result Mode UnknownByte → Type 0
DecodesMode byte (Ok mode) = byte ≡ mode_number mode
DecodesMode byte (Err unknown) = 1 < byte

abbrev pub DecodesOperation : ℕ → Result Operation UnknownByte → Type 0
DecodesOperation byte (Ok operation) = byte ≡ operation_number operation
DecodesOperation byte (Err unknown) = 7 < byte
