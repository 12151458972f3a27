use Rattle.std.proofs.Common.{◌≡◌}
use Rattle.relation.specs.Fold.{up_to}
use Rattle.trust.specs.Turns.{gather_at}
use Rattle.trust.proofs.suspicion.suspicion.Given as goal

abbrev pub invariant-loop-domain : goal.invariant-loop-domain
invariant-loop-domain l = l.found ≡ up_to l.domain (gather_at l.dominance l.lying l.domains) l.initial.found
