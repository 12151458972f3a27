-- Lines of a text (01, "Package text", first sentence; "Run text": the same line rule).
-- "Each line: digits 0-9 A-F, an even number, at least two, then LF. Lines count from 1 in each text."
-- Assumes nothing.
use Rattle.std.specs.Prelude.{ℕ, zero, suc, ◌+◌, ◌-◌, ◌*◌, Bool, true, false, ◌&&◌, ◌||◌, cond, List, [], ◌∷◌, eqb, leb, length, drop, get_or}
use Rattle.std.proofs.Math.Option.{Option, none, some}

-- what stands before an LF, and whether the LF is there: the last line may lack it
pub record Line : Type 0 where
  pub text : List ℕ
  pub ended : Bool

abbrev pub onto : ℕ → List Line → List Line
onto c [] = record { text = c ∷ []; ended = false } ∷ []
onto c (l ∷ ls) = record { text = c ∷ l.text; ended = l.ended } ∷ ls

-- the lines, where one more character stands in front: an LF ends an empty line, and another begins the first one
abbrev pub add_char : Bool → ℕ → List Line → List Line
add_char true c ls = record { text = []; ended = true } ∷ ls
add_char false c ls = onto c ls

unfoldable pub lines_of : List ℕ → List Line
lines_of [] = []
lines_of (c ∷ s) = add_char (eqb c 10) c (lines_of s)

-- the text up to its n-th LF and with it: its first n lines
unfoldable pub first_lines : ℕ → List ℕ → List ℕ
first_lines n [] = []
first_lines zero (c ∷ s) = []
first_lines (suc n) (c ∷ s) = c ∷ first_lines (cond (eqb c 10) n (suc n)) s

-- 0-9 are 48 to 57, A-F are 65 to 70
unfoldable pub is_digit : ℕ → Bool
is_digit c = (leb 48 c && leb c 57) || (leb 65 c && leb c 70)

unfoldable pub digit : ℕ → ℕ
digit c = cond (leb c 57) (c - 48) (c - 55)

-- and back: the digit of a number below 16
unfoldable pub hex_digit : ℕ → ℕ
hex_digit n = cond (leb n 9) (48 + n) (55 + n)

-- one byte more in front
abbrev pub before : ℕ → Option (List ℕ) → Option (List ℕ)
before b none = none
before b (some f) = some (b ∷ f)

-- two digits make a byte, the high one first; none where a character is no digit or the number is odd
unfoldable pub decode : List ℕ → Option (List ℕ)
unfolding is_digit digit
decode [] = some []
decode (c ∷ []) = none
decode (c ∷ d ∷ s) = elim (is_digit c && is_digit d) [ true ↦ before (digit c * 16 + digit d) (decode s) | false ↦ none ]

-- at least two digits
abbrev pub not_empty : Option (List ℕ) → Option (List ℕ)
not_empty none = none
not_empty (some []) = none
not_empty (some (b ∷ f)) = some (b ∷ f)

-- a line's frame, its bytes, where it keeps the line rule
unfoldable pub frame_of : Line → Option (List ℕ)
unfolding decode
frame_of l = elim l.ended [ true ↦ not_empty (decode l.text) | false ↦ none ]

-- the frame of the line that begins at a place of the text; none where it breaks the line rule, and where no line begins
abbrev pub first_frame : List Line → Option (List ℕ)
first_frame [] = none
first_frame (l ∷ ls) = frame_of l

unfoldable pub frame_at : List ℕ → ℕ → Option (List ℕ)
unfolding lines_of frame_of
frame_at s at = first_frame (lines_of (drop at s))

-- the place behind that line and its LF
abbrev pub behind : ℕ → List ℕ → ℕ
behind at f = at + 2 * length f + 1

-- the byte of a frame at a place, counted from 0
abbrev pub byte : List ℕ → ℕ → ℕ
byte f i = get_or f i 0
