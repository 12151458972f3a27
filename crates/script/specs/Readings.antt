-- A run text read section by section. That it is `runs`' reading: proofs/Whole.antt.
use Rattle.std.specs.Prelude.{ℕ, ◌≤◌, ◌≡◌, ◌&&◌, cond, eqb, leb, List, [], length, map, Ok, Result}
use Rattle.meaning.specs.Tables.{Package}
use Rattle.meaning.specs.Text.{lines_of, byte}
use Rattle.meaning.specs.Reading.{answer, is_method}
use Rattle.runs.specs.Admitted.{Admitted, Proper}
use Rattle.runs.specs.Script as M
use Rattle.tables.specs.declared.elements.Mode.TheVariants.{Instance, Static}
use Rattle.text.specs.Reading.{Reading}
use Rattle.sections.specs.declared.refusal.Refusal.TheVariants.{TooLong, BadHeader}
use Rattle.sections.specs.declared.refusal.Refused.{Refused}
use Rattle.sections.specs.Refusals.{run_number_of}
use Rattle.sections.specs.Sections.{refused, unless, and_then, next_frame, ending, section}
use Rattle.machine.specs.Snapshot.{empty}
use Rattle.machine.specs.Definitions.{snapshot_from}
use Rattle.machine.specs.Step.{placed_view}
use Rattle.script.specs.declared.draft.Script.{Script}
use Rattle.script.specs.declared.draft.Draft.{Draft}
use Rattle.script.specs.Taking.{take_object, take_link, take_label, take_step}

-- 10 mm, line 1: the entry method
abbrev pub entry : Package → Reading → Result (ℕ × Reading) Refused
entry P start = and_then (next_frame start) (λ p.
    unless (eqb p.0.length 2 && (eqb (byte p.0.bytes 0) 0x10 && is_method P (byte p.0.bytes 1))) BadHeader p.1.number (Ok (byte p.0.bytes 1, p.1)))

-- the entry method, before anything is there
abbrev pub begun : ℕ → Draft
begun method = record { script = record { start = empty method; steps = [] }; link_lines = 0; label_lines = 0 }

-- the lines of the start behind line 1, in the order of their kinds
abbrev pub starting : Package → Draft → Reading → Result (Draft × Reading) Refused
starting P x r =
    and_then (section 0x11 (λ x line f. take_object P x f) x r) (λ o.
    and_then (section 0x12 (λ x line f. take_link P Static x f) o.0 o.1) (λ s.
    and_then (section 0x13 (λ x line f. take_link P Instance x f) s.0 s.1) (λ k.
    section 0x14 (λ x line f. take_label P x f) k.0 k.1)))

-- behind them the steps, and the last line: the whole draft, with its counts of lines
abbrev pub whole : Package → Reading → Result Draft Refused
whole P r =
    and_then (entry P r) (λ e.
    and_then (starting P (begun e.0) e.1) (λ l.
    and_then (section 0x20 (λ x line f. take_step P x line f) l.0 l.1) (λ t.
    and_then (ending 0x2F t.1) (λ _. Ok t.0))))

unfoldable pub read_by : Package → List ℕ → Result Draft Refused
read_by P s = cond (leb (length s) 32768) (whole P (record { number = 0; lines = lines_of s })) (refused TooLong 0)

-- ---- what is read

-- the text is this script: its start, as a snapshot, is admitted, and its steps name references where they must
pub record IsScript (P : Package) (s : List ℕ) (x : Script) : Type 0 where
  pub script : M.Script
  pub read : M.read_script P s ≡ M.is_script script
  pub start : x.start ≡ snapshot_from script.start
  pub steps : map placed_view x.steps ≡ script.steps
  pub few : length x.steps ≤ 1024
  pub admitted : Admitted P script.start
  pub proper : Proper script.steps

-- the text is refused, with the number and the line of its first refusal
pub record IsRefused (P : Package) (s : List ℕ) (r : Refused) : Type 0 where
  pub read : M.read_script P s ≡ M.is_none (answer (run_number_of r.refusal) r.line 0)
  pub line : r.line ≤ 32769
