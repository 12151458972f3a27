use Rattle.std.proofs.Common.{◌≡◌}
use Rattle.relation.specs.Fold.{up_to}
use Rattle.trust.specs.Turns.{start_at}
use Rattle.trust.proofs.domains.add_root.Given as goal

abbrev pub invariant-loop-domain : goal.invariant-loop-domain
invariant-loop-domain l = l.rows ≡ up_to l.domain start_at l.initial.rows
