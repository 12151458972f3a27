-- A frame's kind, and the length that it asks for, over the frame as the code keeps it. The table of kinds is `meaning`'s.
use Rattle.std.specs.Prelude.{ℕ, Bool, eqb}
use Rattle.meaning.specs.Text.{byte}
use Rattle.meaning.specs.Kinds as M
use Rattle.text.specs.declared.frame.Frame.{Frame}
use Rattle.text.specs.declared.kinds.Kind.{Kind}

-- a row of `meaning`'s table, without the kind's own number
abbrev pub kind_in : M.Kind → Kind
kind_in k = record { section = k.section; length = k.size; counter = k.counter }

-- `fits`, of the frame's length and first bytes: a count byte stands among these
unfoldable pub fits_frame : Frame → Bool
fits_frame f = eqb f.length (M.length_of (M.row_of (byte f.bytes 0)) f.bytes)

-- the section of the frame's kind
unfoldable pub section_of : Frame → ℕ
section_of f = (M.row_of (byte f.bytes 0)).section
