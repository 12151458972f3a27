-- The first line of a text, read byte by byte; that it is `meaning`'s: proofs/Steps.antt.
-- Assumes nothing.
use Rattle.std.specs.Prelude.{ℕ, cond, eqb, List, [], ◌∷◌, Option, Some, None, Result, Ok, Err}
use Rattle.meaning.specs.Text.{Line, lines_of}
use Rattle.text.specs.declared.frame.Frame.{Frame}
use Rattle.text.specs.declared.lines.BadLine.{BadLine}
use Rattle.text.specs.Digits.{byte_of}
use Rattle.text.specs.Frames.{with_byte}
use Rattle.text.specs.Reading.{first_line, lines_past}

-- the first line, and the lines behind it
pub record Cut : Type 0 where
  pub line : Option (Result Frame BadLine)
  pub later : List Line

abbrev pub cut : Option (Result Frame BadLine) → List Line → Cut
cut l ls = record { line = l; later = ls }

abbrev pub cut_of : List Line → Cut
cut_of ls = cut (first_line ls) (lines_past ls)

abbrev pub broken : Cut
broken = cut (Some (Err (record {}))) []

-- a line that is ended behind this frame
abbrev pub ended : Frame → List Line → Cut
ended f ls = cond (eqb f.length 0) broken (cut (Some (Ok f)) ls)

abbrev pub unended : Frame → Cut
unended f = cond (eqb f.length 0) (cut None []) broken

-- the same of the rest of a text, within a line that has this frame so far
unfoldable pub within : Frame → List ℕ → Cut
unfolding byte_of lines_of
within f [] = unended f
within f (c ∷ []) = cond (eqb c 10) (ended f []) broken
within f (c ∷ d ∷ s) = elim (byte_of c d) [ Some b ↦ within (with_byte f b) s | None ↦ cond (eqb c 10) (ended f (lines_of (d ∷ s))) broken ]
