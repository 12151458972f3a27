-- The end of a run of the machine, and of one of the definitions.
-- Assumes nothing.
use Rattle.std.specs.Prelude.{ℕ, Option, Some, None}
use Rattle.meaning.specs.Reading.{Answer, answer}
use Rattle.runs.specs.Run as R
use Rattle.machine.specs.declared.run.Stopped.{Stopped}
use Rattle.machine.specs.declared.run.Report.{Report}
use Rattle.machine.specs.Refusal.{number_of}
use Rattle.machine.specs.Snapshot.{Snapshot}
use Rattle.machine.specs.Definitions.{snapshot_from}

-- the answer, and what the run holds
pub record Reached : Type 0 where
  pub answer : Answer
  pub after : Snapshot

-- success answers 0, 0, and the number of steps taken; a refused step its number, its line, and the number of steps taken
abbrev pub answer_in : ℕ → Option Stopped → Answer
answer_in taken None = answer 0 0 taken
answer_in taken (Some stopped) = answer (number_of stopped.refusal) stopped.line taken

abbrev pub reached : Report → Snapshot → Reached
reached report after = record { answer = answer_in report.taken report.stopped; after = after }

abbrev pub reached_from : R.Outcome → Reached
reached_from o = record { answer = o.answer; after = snapshot_from o.state }
