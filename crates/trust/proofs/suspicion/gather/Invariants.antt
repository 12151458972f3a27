use Rattle.std.proofs.Common.{◌≡◌}
use Rattle.relation.specs.Fold.{up_to}
use Rattle.trust.specs.Turns.{join_if}
use Rattle.trust.proofs.suspicion.gather.Given as goal

abbrev pub invariant-loop-other : goal.invariant-loop-other
invariant-loop-other l = l.rows ≡ up_to l.other (join_if l.dominance l.lying l.domain) l.initial.rows
