use Rattle.std.proofs.Common.{◌≡◌}
use Rattle.tables.specs.View.{view}
use Rattle.relation.specs.Fold.{up_to}
use Rattle.trust.specs.Turns.{lay_at}
use Rattle.trust.proofs.suspicion.lay.Given as goal

abbrev pub invariant-loop-number : goal.invariant-loop-number
invariant-loop-number l = l.rows ≡ up_to l.number (lay_at (view l.tables)) l.initial.rows
