-- What a run of several steps comes to.
-- Assumes nothing.
use Rattle.std.specs.Prelude.{ℕ, ◌+◌, Some, None, Ok, Err, List, [], ◌∷◌}
use Rattle.meaning.specs.Tables.{Package}
use Rattle.machine.specs.declared.step.Placed.{Placed}
use Rattle.machine.specs.declared.run.Report.{Report}
use Rattle.machine.specs.Snapshot.{Snapshot}
use Rattle.machine.specs.Steps.{step_of}

-- the report, and what the run holds after it
pub record Ending : Type 0 where
  pub report : Report
  pub after : Snapshot

-- the run of these steps, where `taken` came before them
abbrev pub run_of : Package → Snapshot → ℕ → List Placed → Ending
run_of P s taken [] = record { report = record { taken = taken; stopped = None }; after = s }
run_of P s taken (k ∷ ks) = elim (step_of P s k.step) [
  | Ok next ↦ run_of P next (taken + 1) ks
  | Err why ↦ record { report = record { taken = taken; stopped = Some (record { line = k.line; refusal = why }) }; after = s }
]
