use Rattle.std.proofs.Common.{◌≡◌, drop, map}
use Rattle.tables.specs.View.{view}
use Rattle.runs.specs.Machine as M
use Rattle.machine.specs.Run.{run_of}
use Rattle.machine.specs.Step.{placed_view}
use Rattle.machine.specs.Definitions.{snapshot_from, Once}
use Rattle.machine.proofs.Along.{Along}
use Rattle.machine.proofs.state.State.run.Given as goal

-- the steps that are left lead to the same end, here and in the definitions
abbrev pub invariant-loop-taken : goal.invariant-loop-taken
invariant-loop-taken l = record {
  outcome : run_of (view l.loaded) l.self l.taken (drop l.taken l.steps) ≡ run_of (view l.loaded) l.initial.self 0 l.steps;
  definition : (s : M.State) → snapshot_from s ≡ l.initial.self → Once s.pool → Along (view l.loaded) s l.self l.taken (map placed_view l.steps) (map placed_view (drop l.taken l.steps));
}
