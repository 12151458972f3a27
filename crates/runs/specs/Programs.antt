-- What is answered to a package and a run text, what the lent buffer then holds (01, "Run text", "Holdings"), and what the programs print
-- (01, "Programs").
-- Assumes nothing.
use Rattle.std.specs.Prelude.{ℕ, ◌+◌, ◌/◌, ◌%◌, Bool, true, false, ◌&&◌, cond, List, [], ◌∷◌, ◌++◌, eqb, leb, ltb, length, take, drop}
use Rattle.meaning.specs.Text.{Line, lines_of}
use Rattle.meaning.specs.Tables.{Package}
use Rattle.meaning.specs.Reading.{Answer, answer, Reading, is_read, is_refused, read_text}
use Rattle.meaning.specs.Tests.{same_numbers}
use Rattle.meaning.specs.Check.{verdict, check_of}
use Rattle.runs.specs.Run.{Outcome, run_from}
use Rattle.runs.specs.Script.{ScriptReading, is_script, is_none, read_script}
use Rattle.runs.specs.Holdings.{hex, holdings_text}

-- ---- the answer with the holdings text, none but for 0 and 61 to 64

pub record Told : Type 0 where
  pub answer : Answer
  pub text : List ℕ

abbrev pub only_answer : Answer → Told
only_answer a = record { answer = a; text = [] }

unfoldable pub of_outcome : Package → Outcome → Told
unfolding holdings_text
of_outcome P o = record { answer = o.answer; text = holdings_text P o.state }

-- steps are tried only after the whole text is read without refusal
abbrev pub of_script : Package → ScriptReading → Told
of_script P (is_none a) = only_answer a
of_script P (is_script S) = of_outcome P (run_from P S.start 0 S.steps)

-- the package's own answer if it is not 0
abbrev pub if_accepted : Package → List ℕ → Answer → Bool → Told
if_accepted P t a true = of_script P (read_script P t)
if_accepted P t a false = only_answer a

abbrev pub of_reading : List ℕ → Reading → Told
of_reading t (is_refused a) = only_answer a
of_reading t (is_read P) = if_accepted P t (verdict P) (eqb (verdict P).number 0)

-- a package text and a run text
unfoldable pub tell_of : List ℕ → List ℕ → Told
unfolding read_text verdict read_script run_from of_outcome
tell_of p t = of_reading t (read_text p)

-- ---- with a lent buffer

pub record Ran : Type 0 where
  pub answer : Answer
  pub length : ℕ
  pub buffer : List ℕ

-- the text at the buffer's start; bytes behind stay
abbrev pub write : Told → List ℕ → Ran
write w b = record { answer = w.answer; length = length w.text; buffer = w.text ++ drop (length w.text) b }

-- 65: lent buffer under 7,200 bytes
abbrev pub if_room : List ℕ → List ℕ → List ℕ → Bool → Ran
if_room p t b true = record { answer = answer 65 0 0; length = 0; buffer = b }
if_room p t b false = write (tell_of p t) b

unfoldable pub run_of : List ℕ → List ℕ → List ℕ → Ran
unfolding tell_of
run_of p t b = if_room p t b (ltb (length b) 7200)

-- ---- what the programs print

-- two bytes, the high one first
unfoldable pub hex4 : ℕ → List ℕ
unfolding hex
hex4 n = hex (n / 256) ++ hex (n % 256)

-- 2E aa pppp qqqq and LF
unfoldable pub answer_line : Answer → List ℕ
unfolding hex hex4
answer_line a = hex 0x2E ++ (hex a.number ++ (hex4 a.first ++ (hex4 a.second ++ (10 ∷ []))))

-- input over 65,536 bytes answers 1
abbrev pub if_short : Bool → Told → Told
if_short true w = w
if_short false w = only_answer (answer 1 0 0)

unfoldable pub check_output : List ℕ → List ℕ
unfolding check_of answer_line
check_output s = answer_line (if_short (leb (length s) 65536) (only_answer (check_of s))).answer

-- the line is just 07, with its LF
unfoldable pub is_last : Line → Bool
unfolding same_numbers
is_last l = l.ended && same_numbers l.text (48 ∷ 55 ∷ [])

-- how many bytes stand up to the end of the first line that is just 07: all of them where there is none
unfoldable pub cut_at : List Line → ℕ
unfolding is_last
cut_at [] = 0
cut_at (l ∷ ls) = cond (is_last l) 3 (length l.text + (cond l.ended 1 0 + cut_at ls))

unfoldable pub package_part : List ℕ → List ℕ
unfolding lines_of cut_at
package_part s = take (cut_at (lines_of s)) s

unfoldable pub run_part : List ℕ → List ℕ
unfolding lines_of cut_at
run_part s = drop (cut_at (lines_of s)) s

abbrev pub print : Told → List ℕ
print w = answer_line w.answer ++ w.text

unfoldable pub run_output : List ℕ → List ℕ
unfolding tell_of package_part run_part answer_line
run_output s = print (if_short (leb (length s) 65536) (tell_of (package_part s) (run_part s)))
