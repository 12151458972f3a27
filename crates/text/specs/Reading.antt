-- A reader between two lines of a text: how many lines are read, and the lines that are left, as `meaning` cuts them.
use Rattle.std.specs.Prelude.{ℕ, ◌+◌, cond, eqb, List, [], ◌∷◌, Option, Some, None, Result, Ok, Err}
use Rattle.std.proofs.Math.Option.{none, some}
use Rattle.std.proofs.Math.Option as M
use Rattle.meaning.specs.Text.{Line, frame_of}
use Rattle.text.specs.declared.frame.Frame.{Frame}
use Rattle.text.specs.declared.lines.BadLine.{BadLine}
use Rattle.text.specs.Digits.{byte_of}
use Rattle.text.specs.Frames.{pack_frame}
use Rattle.text.specs.Kinds.{section_of}

-- a byte and the text behind it
abbrev pub with_rest : Option ℕ → List ℕ → Option (ℕ × List ℕ)
with_rest (Some b) s = Some (b, s)
with_rest None s = None

-- the byte that the first two digits of a text spell, and what stands behind them
abbrev pub first_byte : List ℕ → Option (ℕ × List ℕ)
first_byte [] = None
first_byte (c ∷ []) = None
first_byte (c ∷ d ∷ s) = with_rest (byte_of c d) s

pub record Reading : Type 0 where
  pub number : ℕ
  pub lines : List Line

-- a line as it is read: its frame, or that it breaks the line rule
abbrev pub framed : M.Option (List ℕ) → Result Frame BadLine
framed none = Err (record {})
framed (some f) = Ok (pack_frame f)

-- the next line, if there is one
unfoldable pub first_line : List Line → Option (Result Frame BadLine)
unfolding frame_of
first_line [] = None
first_line (l ∷ ls) = Some (framed (frame_of l))

-- the lines behind it; none are read behind a line that breaks the rule
unfoldable pub lines_past : List Line → List Line
unfolding frame_of
lines_past [] = []
lines_past (l ∷ ls) = elim (frame_of l) [ none ↦ [] | some f ↦ ls ]

-- the reader behind one more line
abbrev pub past : Reading → Reading
past r = record { number = r.number + 1; lines = lines_past r.lines }

-- the lines that are read one after another
unfoldable pub frames_of : List Line → List (Result Frame BadLine)
unfolding frame_of
frames_of [] = []
frames_of (l ∷ ls) = framed (frame_of l) ∷ elim (frame_of l) [ none ↦ [] | some f ↦ frames_of ls ]

abbrev pub of_section : ℕ → Option (Result Frame BadLine) → Option Frame
of_section k (Some (Ok f)) = cond (eqb (section_of f) k) (Some f) None
of_section k (Some (Err e)) = None
of_section k None = None

-- the next frame, if it is of this section
abbrev pub next_of : ℕ → List Line → Option Frame
next_of k ls = of_section k (first_line ls)

-- the reader behind the next line if that was taken
abbrev pub past_taken : {A : Type 0} → Option A → Reading → Reading
past_taken (Some x) r = past r
past_taken None r = r
