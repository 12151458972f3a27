-- A frame as a value of the code: the first 16 bytes of a line, with zeros behind a shorter one, and how many there are.
use Rattle.std.specs.Prelude.{ℕ, zero, suc, ◌+◌, ltb, cond, List, [], ◌∷◌, length, set, replicate}
use Rattle.text.specs.declared.frame.Frame.{Frame}

-- the first n bytes; zeros where there are fewer
unfoldable pub first_bytes : ℕ → List ℕ → List ℕ
first_bytes zero f = []
first_bytes (suc n) [] = 0 ∷ first_bytes n []
first_bytes (suc n) (b ∷ f) = b ∷ first_bytes n f

-- the one value that stands for the bytes f
abbrev pub pack_frame : List ℕ → Frame
pack_frame f = record { bytes = first_bytes 16 f; length = length f }

abbrev pub empty : Frame
empty = record { bytes = replicate 16 0; length = 0 }

-- one byte more; past the first 16 it is counted, and not kept
abbrev pub with_byte : Frame → ℕ → Frame
with_byte f b = record { bytes = cond (ltb f.length 16) (set f.bytes f.length b) f.bytes; length = f.length + 1 }
